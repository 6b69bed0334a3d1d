-- THE LAW OF READING: a set array is exactly one that begins with the words of a good set, and
-- `patterns_of` answers that set.
use Rattle.std.specs.Prelude.{◌≡◌, ◌&&◌, ◌↔◌, ◌++◌}
use Rattle.lists.proofs.Prelude.{refl, sym, ◌∙◌, ap, subst, Bool, false, cond, List, [], ℕ, T, begins}
use Rattle.lists.proofs.Tests.{and_split, and_join, T-true, true-T}
use Rattle.lists.proofs.Same.{begins_iff}
use Rattle.pattern_set.specs.PatternSet.{PatternSet, set_words, good_set, patterns_in, is_set, IsSet, patterns_of}
use Rattle.pattern_set.proofs.Words.{patterns_in_words}

-- the patterns of a set array are those that its first words tell of
pub patterns_of_in : (ws : List ℕ) → IsSet ws → patterns_of ws ≡ patterns_in ws
unfolding patterns_of
patterns_of_in ws e = ap (λ (b : Bool). cond b (patterns_in ws) []) e

-- any other array has none
pub patterns_of_none : (ws : List ℕ) → is_set ws ≡ false → patterns_of ws ≡ []
unfolding patterns_of
patterns_of_none ws e = ap (λ (b : Bool). cond b (patterns_in ws) []) e

set_parts : (ws : List ℕ) → IsSet ws → T (good_set (patterns_of ws)) × T (begins ws (set_words (patterns_of ws)))
unfolding is_set
set_parts ws e =
    let r = and_split (good_set (patterns_in ws)) (begins ws (set_words (patterns_in ws))) (T-true (is_set ws) e) in
    subst (λ (ps : PatternSet). T (good_set ps) × T (begins ws (set_words ps))) (sym (patterns_of_in ws e)) r

-- the patterns of a set array are a good set, with whose words it begins
pub set_good : (ws : List ℕ) → IsSet ws → T (good_set (patterns_of ws))
set_good ws e = (set_parts ws e).0

pub set_begins : (ws : List ℕ) → IsSet ws → T (begins ws (set_words (patterns_of ws)))
set_begins ws e = (set_parts ws e).1

-- the words of a good set are a set array, whatever lies behind
pub IsSet-words : (ps : PatternSet) (rest : List ℕ) → T (good_set ps) → IsSet (set_words ps ++ rest)
unfolding is_set
IsSet-words ps rest g =
    let ws = set_words ps ++ rest in
    let t : T (good_set ps && begins ws (set_words ps)) = and_join (good_set ps) (begins ws (set_words ps)) g ((begins_iff ws (set_words ps)).1 (rest, refl)) in
    true-T (is_set ws) (subst (λ (qs : PatternSet). T (good_set qs && begins ws (set_words qs))) (sym (patterns_in_words ps rest)) t)

-- and its patterns are the set
pub patterns_of_words : (ps : PatternSet) (rest : List ℕ) → T (good_set ps) → patterns_of (set_words ps ++ rest) ≡ ps
patterns_of_words ps rest g = patterns_of_in (set_words ps ++ rest) (IsSet-words ps rest g) ∙ patterns_in_words ps rest

pub begins_set : (ws : List ℕ) (ps : PatternSet) → T (good_set ps) → T (begins ws (set_words ps)) → IsSet ws × (patterns_of ws ≡ ps)
begins_set ws ps g b =
    let r = (begins_iff ws (set_words ps)).0 b in
    (ap is_set r.1 ∙ IsSet-words ps r.0 g, ap patterns_of r.1 ∙ patterns_of_words ps r.0 g)

pub IsSet-iff : (ws : List ℕ) → IsSet ws ↔ ((ps : PatternSet) × T (good_set ps) × T (begins ws (set_words ps)))
IsSet-iff ws = (
  λ e. (patterns_of ws, set_good ws e, set_begins ws e),
  λ p. (begins_set ws p.0 p.1 p.2).0,
)
