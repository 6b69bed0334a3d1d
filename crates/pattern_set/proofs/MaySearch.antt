-- Sets that may be searched: they are good, hold a pattern, and none of one value; and so do those
-- with a pattern less, where one remains.
use Rattle.std.specs.Prelude.{◌≡◌, ◌&&◌, ◌<◌}
use Rattle.lists.proofs.Prelude.{◌∙◌, ap, refl, Bool, false, not, ℕ, suc, T, leb, leb→le, le→leb, length, take, drop, not-true}
use Rattle.lists.proofs.Tests.{T-true, true-T, and_split, and_join}
use Rattle.lists.proofs.Members.{any-append, none_take, none_drop}
use Rattle.pattern_set.specs.PatternSet.{PatternSet, good_set, has_one_value, holds_one_value, may_search, without}
use Rattle.pattern_set.proofs.Without.{good_without}

pub may_search_parts : (ps : PatternSet) → T (may_search ps) → T (good_set ps) × (0 < length ps) × (holds_one_value ps ≡ false)
unfolding may_search
may_search_parts ps t =
    let a = and_split (good_set ps && leb 1 (length ps)) (not (holds_one_value ps)) t in
    let b = and_split (good_set ps) (leb 1 (length ps)) a.0 in
    (b.0, leb→le 1 (length ps) b.1, not-T (holds_one_value ps) a.1)
  where
    not-T : (b : Bool) → T (not b) → b ≡ false
    not-T b t = not-true b (true-T (not b) t)

-- and back
pub may_search_is : (ps : PatternSet) → T (good_set ps) → 0 < length ps → holds_one_value ps ≡ false → T (may_search ps)
unfolding may_search
may_search_is ps g z o =
    and_join (good_set ps && leb 1 (length ps)) (not (holds_one_value ps)) (and_join (good_set ps) (leb 1 (length ps)) g (le→leb 1 (length ps) z))
    (T-true (not (holds_one_value ps)) (ap not o))

-- without one of its patterns, where one remains
pub may_search-without : (ps : PatternSet) (j : ℕ) → j < length ps → 0 < length (without j ps) → T (may_search ps) → T (may_search (without j ps))
unfolding without
may_search-without ps j h z t =
    let p = may_search_parts ps t in
    may_search_is (without j ps) (good_without ps j h p.0) z (kept p.2)
  where
    kept : holds_one_value ps ≡ false → holds_one_value (without j ps) ≡ false
    kept o = any-append has_one_value (take j ps) (drop (suc j) ps) ∙ rw (none_take has_one_value j ps o, none_drop has_one_value (suc j) ps o) refl
