-- Of two states nothing is told to differ exactly if they are the same.
use Rattle.std.specs.Prelude.{◌≡◌, ◌∷◌}
use Rattle.std.specs.Option.{option_or}
use Rattle.lists.proofs.Prelude.{◌∙◌, ap₂, sym, refl, true, List, [], ℕ, suc, ℤ, pos, eq_z, length, eqb-true, eq-eqb, arith, Option}
use Rattle.lists.proofs.Tests.{T-true, true-T, and_split}
use Rattle.lists.proofs.Order.{eq_z_eq, eq_z_refl}
use Rattle.answers.specs.declared.SearchState.{SearchState}
use Rattle.test_differences.specs.declared.difference.Part.{Part}
use Rattle.test_differences.specs.declared.difference.Difference.{Difference}
use Rattle.test_differences.specs.Difference.{is_nothing, compared, compared_items, compared_words}
use Rattle.test_differences.proofs.Nothing.{nothing_first, nothing_compared}
use Rattle.test_states.specs.States.{compared_numbers, compared_values, compared_slots, compared_states}

-- ---- one thing after the other

both : (a b : Option Difference) → is_nothing (option_or a b) ≡ true → (is_nothing a ≡ true) × (is_nothing b ≡ true)
both a b e =
    let p = and_split (is_nothing a) (is_nothing b) (T-true _ (sym (nothing_first a b) ∙ e)) in
    (true-T _ p.0, true-T _ p.1)

neither : (a b : Option Difference) → is_nothing a ≡ true → is_nothing b ≡ true → is_nothing (option_or a b) ≡ true
neither a b e f = nothing_first a b ∙ rw (e, f) refl

number : (part : Part) (a b : ℕ) → is_nothing (compared part 0 (pos a) (pos b)) ≡ true → a ≡ b
number part a b e = eqb-true a b (sym (nothing_compared part 0 (pos a) (pos b)) ∙ e)

number_refl : (part : Part) (a : ℕ) → is_nothing (compared part 0 (pos a) (pos a)) ≡ true
number_refl part a = nothing_compared part 0 (pos a) (pos a) ∙ eq-eqb a a refl

-- ---- the slots

pub items_same : {A : Type 0} (value : A → ℤ) → ((x y : A) → eq_z (value x) (value y) ≡ true → x ≡ y)
    → (part : Part) (i : ℕ) (xs ys : List A) → length xs ≡ length ys → is_nothing (compared_items value part i xs ys) ≡ true → xs ≡ ys
unfolding compared_items
items_same value one part i [] [] e h = refl
items_same value one part i [] (y ∷ ys) e h = absurd (let z : ⊥ = omega arith in z)
items_same value one part i (x ∷ xs) [] e h = absurd (let z : ⊥ = omega arith in z)
items_same value one part i (x ∷ xs) (y ∷ ys) e h =
    let p = both (compared part i (value x) (value y)) _ h in
    ap₂ (λ (z : _) (zs : List _). z ∷ zs)
    (one x y (sym (nothing_compared part i (value x) (value y)) ∙ p.0))
    (items_same value one part (suc i) xs ys (omega arith) p.1)

pub items_refl : {A : Type 0} (value : A → ℤ) (part : Part) (i : ℕ) (xs : List A) → is_nothing (compared_items value part i xs xs) ≡ true
unfolding compared_items
items_refl value part i [] = refl
items_refl value part i (x ∷ xs) =
    neither (compared part i (value x) (value x)) _
    (nothing_compared part i (value x) (value x) ∙ eq_z_refl (value x))
    (items_refl value part (suc i) xs)

places_same : (p q : List ℕ) → length p ≡ length q → is_nothing (compared_words p q) ≡ true → p ≡ q
places_same p q e h = items_same pos (λ x y k. eqb-true x y k) Part.Word 0 p q e h

values_same : (v w : List ℤ) → length v ≡ length w → is_nothing (compared_values v w) ≡ true → v ≡ w
values_same v w e h = items_same (λ x. x) eq_z_eq Part.Value 0 v w e h

-- ---- the states

numbers_same : (a b : SearchState) → is_nothing (compared_numbers a b) ≡ true
    → (a.taken ≡ b.taken) × (a.node ≡ b.node) × (a.minima ≡ b.minima) × (a.first ≡ b.first)
numbers_same a b h =
    let last = both _ _ h in
    let third = both _ _ last.0 in
    let two = both _ _ third.0 in (
      number Part.Taken _ _ two.0,
      number Part.Node _ _ two.1,
      number Part.Minima _ _ third.1,
      number Part.FirstSlot _ _ last.1,
    )

numbers_refl : (a : SearchState) → is_nothing (compared_numbers a a) ≡ true
numbers_refl a =
    neither _ _
    (neither _ _
    (neither _ _ (number_refl Part.Taken a.taken) (number_refl Part.Node a.node))
    (number_refl Part.Minima a.minima))
    (number_refl Part.FirstSlot a.first)

-- the arrays of a state have 256 places
pub record Sized (s : SearchState) : Type 0 where
  pub places : length s.places ≡ 256
  pub values : length s.values ≡ 256
  pub recent : length s.recent ≡ 256

pub states_same : (a b : SearchState) → Sized a → Sized b → is_nothing (compared_states a b) ≡ true → a ≡ b
states_same a b p q h =
    let halves = both (compared_numbers a b) (compared_slots a b) h in
    let kept = both (option_or (compared_words a.places b.places) (compared_values a.values b.values)) _ halves.1 in
    let slots = both (compared_words a.places b.places) _ kept.0 in
    let n = numbers_same a b halves.0 in
    let places = places_same a.places b.places (p.places ∙ sym q.places) slots.0 in
    let values = values_same a.values b.values (p.values ∙ sym q.values) slots.1 in
    let recent = values_same a.recent b.recent (p.recent ∙ sym q.recent) kept.1 in
    λ i. record { taken = n.0 i; node = n.1 i; minima = n.2 i; first = n.3 i; places = places i; values = values i; recent = recent i }

pub states_refl : (a : SearchState) → is_nothing (compared_states a a) ≡ true
states_refl a =
    let slots =
    neither (compared_words a.places a.places) _ (items_refl pos Part.Word 0 a.places) (items_refl (λ x. x) Part.Value 0 a.values) in
    neither (compared_numbers a a) _ (numbers_refl a) (neither _ _ slots (items_refl (λ x. x) Part.Value 0 a.recent))
