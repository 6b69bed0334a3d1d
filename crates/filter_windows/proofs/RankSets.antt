-- SETS OF PATTERNS BY RANK: the likely patterns are checked group by group, and what is found are
-- those with a hit.
use Rattle.std.specs.Prelude.{◌≡◌, ◌&&◌, ◌||◌, ◌<◌}
use Rattle.lists.proofs.Prelude.{◌∙◌, ap, sym, refl, subst, Bool, true, false, not, List, ℕ, ℤ, T, ltb}
use Rattle.lists.proofs.Prelude.{length, get_or, arith, lt-ltb, ltb-true}
use Rattle.lists.proofs.Tests.{and_split, and_join, T-true, true-T, or-false, clash}
use Rattle.bit_sets.specs.BitSets.{bit_at}
use Rattle.bit_sets.proofs.Digits.{bit_at_none}
use Rattle.pattern_set.specs.PatternSet.{PatternSet, good_set}
use Rattle.filter_plan.specs.Plan.{hit_order, is_likely, is_hit}
use Rattle.filter_plan.proofs.HitOrder.{good_number, hit_order-lt, length-hit_order}
use Rattle.filter_plan.proofs.Checks.{hit_likely}
use Rattle.filter_tables.specs.Tables.{ranked}
use Rattle.filter_windows.specs.Looks.{SetOf}
use Rattle.filter_windows.specs.Groups.{LikelyGroups, NoneHit, HitGroup}

-- with a likely pattern all that equal it are likely
pub likely-groups : (ps : PatternSet) (text : List ℤ) (likely : ℕ) → SetOf ps (is_likely text) likely → LikelyGroups ps text likely
likely-groups ps text likely l r h t =
    let s = and_split (ltb r (length ps)) (is_likely text (ranked ps r)) (subst T (l r h) t) in (
      ltb-true r (length ps) (true-T (ltb r (length ps)) s.0),
      s.1,
      λ i k o e. subst T (sym (l i k))
          (and_join (ltb i (length ps)) (is_likely text (ranked ps i)) (T-true (ltb i (length ps)) (lt-ltb i (length ps) o))
          (subst (λ (p : List ℕ). T (is_likely text p)) (sym e) s.1)),
    )

-- ---- the check of the likely patterns, group by group

-- what is found of the likely set when rest is left to check
abbrev pub Found : ℕ → ℕ → ℕ → (ℕ → Bool) → Type 0
Found likely rest found hit = (j : ℕ) → j < 64 → (bit_at found j ≡ (bit_at likely j && (not (bit_at rest j) && hit j)))
    × (T (bit_at rest j) → T (bit_at likely j))

pub Found-none : (likely : ℕ) (hit : ℕ → Bool) → Found likely likely 0 hit
Found-none likely hit j h = (bit_at_none j ∙ go (bit_at likely j), λ t. t)
  where
    go : (b : Bool) → false ≡ (b && (not b && hit j))
    go true = refl
    go false = refl

-- no pattern is left
pub none_left : (ps : PatternSet) (text : List ℤ) (rest : ℕ) → rest ≡ 0 → NoneHit ps text rest
none_left ps text rest e r h t = absurd (subst T (ap (λ (n : ℕ). bit_at n r) e ∙ bit_at_none r) t)

-- a group with a hit is found
pub found_group : (ps : PatternSet) (text : List ℤ) (likely rest found members n rest' found' : ℕ)
    → Found likely rest found (λ r. is_hit text (ranked ps r)) → HitGroup ps text rest members n rest'
    → ((j : ℕ) → j < 64 → bit_at found' j ≡ (bit_at found j || bit_at members j)) → Found likely rest' found' (λ r. is_hit text (ranked ps r))
found_group ps text likely rest found members n rest' found' inv g e j h = (
  e j h ∙ go (bit_at members j) refl (bit_at rest j) refl (bit_at rest' j) refl,
  λ t. (inv j h).1 (g.behind j h t).0,
)
  where
    hit : Bool
    hit = is_hit text (ranked ps j)

    old : (b c : Bool) → bit_at rest j ≡ b → c ≡ (not b && hit) → (bit_at found j || false) ≡ (bit_at likely j && c)
    old b c q f = or-false (bit_at found j) ∙ (inv j h).0 ∙ ap (λ (x : Bool). bit_at likely j && (not x && hit)) q
        ∙ ap (λ (x : Bool). bit_at likely j && x) (sym f)

    go : (b : Bool) → bit_at members j ≡ b → (c : Bool) → bit_at rest j ≡ c → (d : Bool) → bit_at rest' j ≡ d
        → (bit_at found j || b) ≡ (bit_at likely j && (not d && hit))
    go true q c f true k =
        absurd (let t = T-true (bit_at rest' j) k in let z : ⊥ = omega (arith, (g.behind j h t).1 j h (T-true (bit_at members j) q)) in z)
    go true q c f false k =
        let m = g.hit j h (T-true (bit_at members j) q) in
        rw (true-T (bit_at likely j) ((inv j h).1 m.0), true-T hit m.1) (or-true (bit_at found j))
      where
        or-true : (b : Bool) → (b || true) ≡ true
        or-true true = refl
        or-true false = refl
    go false q true f true k = old true (not true && hit) f refl
    go false q true f false k = old true (not false && hit) f (g.gone j h (T-true (bit_at rest j) f) q k)
    go false q false f true k = clash (true-T (bit_at rest j) (g.behind j h (T-true (bit_at rest' j) k)).0) f
    go false q false f false k = old false (not false && hit) f refl

-- a pattern with a hit is likely
pub likely_hit : (ps : PatternSet) (text : List ℤ) (likely : ℕ) → T (good_set ps) → SetOf ps (is_likely text) likely → (r : ℕ) → r < 64
    → (bit_at likely r && is_hit text (ranked ps r)) ≡ (ltb r (length ps) && is_hit text (ranked ps r))
likely_hit ps text likely g l r h =
    ap (λ (x : Bool). x && is_hit text (ranked ps r)) (l r h)
    ∙ go (ltb r (length ps)) refl (is_likely text (ranked ps r)) refl (is_hit text (ranked ps r)) refl
  where
    go : (a : Bool) → ltb r (length ps) ≡ a → (b : Bool) → is_likely text (ranked ps r) ≡ b → (c : Bool) → is_hit text (ranked ps r) ≡ c
        → ((a && b) && c) ≡ (a && c)
    go true ea true eb c ec = refl
    go true ea false eb false ec = refl
    go true ea false eb true ec =
        absurd
        (subst T eb
        (hit_likely text (ranked ps r)
        (good_number ps (get_or (hit_order ps) r 0) g (hit_order-lt ps r (omega (arith, length-hit_order ps g, ltb-true r (length ps) ea)))).2
        (T-true (is_hit text (ranked ps r)) ec)))
    go false ea b eb c ec = refl

-- all of them are checked: what is left has no hit
pub found_all : (ps : PatternSet) (text : List ℤ) (likely rest found : ℕ) → T (good_set ps) → SetOf ps (is_likely text) likely
    → Found likely rest found (λ r. is_hit text (ranked ps r)) → NoneHit ps text rest → SetOf ps (is_hit text) found
found_all ps text likely rest found g l f none r h =
    (f r h).0
    ∙ ap (λ (x : Bool). bit_at likely r && x) (past (bit_at rest r) refl)
    ∙ likely_hit ps text likely g l r h
  where
    past : (b : Bool) → bit_at rest r ≡ b → (not (bit_at rest r) && is_hit text (ranked ps r)) ≡ is_hit text (ranked ps r)
    past true q = let e = none r h (T-true (bit_at rest r) q) in rw (q, e) refl
    past false q = rw q refl
