-- What a good set is: at most 64 patterns with at most 4,096 distances in all, each a realizable
-- list of 1 to 256. And that it is good with one pattern more, if that is good and there is room.
use Rattle.std.specs.Prelude.{◌≡◌, ◌&&◌, ◌∷◌, ◌++◌, ◌+◌, ◌≤◌, ◌<◌}
use Rattle.lists.proofs.Prelude.{◌∙◌, ap, true, List, [], Memᴰ, flatten, ℕ, T, leb, leb→le, le→leb, length}
use Rattle.lists.proofs.Prelude.{length-append, arith, all}
use Rattle.lists.proofs.Tests.{and_split, and_join}
use Rattle.lists.proofs.Parts.{length_snoc}
use Rattle.lists.proofs.Rows.{flatten_snoc}
use Rattle.lists.proofs.Members.{all-mem, mem-all}
use Rattle.realization.specs.Realization.{realizable}
use Rattle.pattern_set.specs.PatternSet.{PatternSet, good_pattern, good_set}

pub good_pattern_parts : (p : List ℕ) → T (good_pattern p) → (1 ≤ length p) × (length p ≤ 256) × T (realizable p)
unfolding good_pattern
good_pattern_parts p t =
    let a = and_split (leb 1 (length p) && leb (length p) 256) (realizable p) t in
    let b = and_split (leb 1 (length p)) (leb (length p) 256) a.0 in
    (leb→le 1 (length p) b.0, leb→le (length p) 256 b.1, a.1)

pub good_set_parts : (ps : PatternSet) → T (good_set ps) → (length ps ≤ 64) × (length (flatten ps) ≤ 4096) × T (all good_pattern ps)
unfolding good_set
good_set_parts ps t =
    let a = and_split (leb (length ps) 64 && leb (length (flatten ps)) 4096) (all good_pattern ps) t in
    let b = and_split (leb (length ps) 64) (leb (length (flatten ps)) 4096) a.0 in
    (leb→le (length ps) 64 b.0, leb→le (length (flatten ps)) 4096 b.1, a.1)

-- and back
pub good_pattern_is : (p : List ℕ) → 1 ≤ length p → length p ≤ 256 → T (realizable p) → T (good_pattern p)
unfolding good_pattern
good_pattern_is p a b r =
    and_join (leb 1 (length p) && leb (length p) 256) (realizable p)
    (and_join (leb 1 (length p)) (leb (length p) 256) (le→leb 1 (length p) a) (le→leb (length p) 256 b)) r

pub good_set_is : (ps : PatternSet) → length ps ≤ 64 → length (flatten ps) ≤ 4096 → T (all good_pattern ps) → T (good_set ps)
unfolding good_set
good_set_is ps a b r =
    and_join (leb (length ps) 64 && leb (length (flatten ps)) 4096) (all good_pattern ps)
    (and_join (leb (length ps) 64) (leb (length (flatten ps)) 4096) (le→leb (length ps) 64 a) (le→leb (length (flatten ps)) 4096 b)) r

-- a pattern of a good set
pub good_pattern_lem : (ps : PatternSet) (p : List ℕ) → T (good_set ps) → Memᴰ p ps → (1 ≤ length p) × (length p ≤ 256) × T (realizable p)
good_pattern_lem ps p g m = good_pattern_parts p (all-mem good_pattern ps (good_set_parts ps g).2 p m)

pub good_realizable : (ps : PatternSet) → T (good_set ps) → T (all realizable ps)
good_realizable ps g = mem-all realizable ps (λ p m. (good_pattern_lem ps p g m).2)

-- ---- one pattern more

all_snoc : (ps : PatternSet) (p : List ℕ) → T (all good_pattern ps) → T (good_pattern p) → T (all good_pattern (ps ++ (p ∷ [])))
unfolding all
all_snoc [] p a h = and_join (good_pattern p) true h tt
all_snoc (q ∷ ps) p a h =
    let b = and_split (good_pattern q) (all good_pattern ps) a in
    and_join (good_pattern q) (all good_pattern (ps ++ (p ∷ []))) b.0 (all_snoc ps p b.1 h)

-- a good set stays good with a good pattern more, if neither count goes past its limit
pub good_more : (ps : PatternSet) (p : List ℕ) → T (good_set ps) → T (good_pattern p) → length ps < 64 → length (flatten ps) + length p ≤ 4096
    → T (good_set (ps ++ (p ∷ [])))
good_more ps p g h k n =
    let f : length (flatten (ps ++ (p ∷ []))) ≡ length (flatten ps) + length p = ap length (flatten_snoc ps p) ∙ length-append (flatten ps) p in
    good_set_is (ps ++ (p ∷ [])) (omega (arith, length_snoc ps p, k)) (omega (arith, f, n)) (all_snoc ps p (good_set_parts ps g).2 h)
