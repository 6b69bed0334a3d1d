-- Laws of gaps: what holds none, holds none in its parts, and a sample put behind it keeps it so.
use Rattle.std.specs.Prelude.{◌≡◌, ◌||◌, ◌∷◌, ◌++◌, ◌+◌, ◌-◌, ◌≤◌, ◌<◌}
use Rattle.std.specs.List.{list_any}
use Rattle.std.specs.Ordering.{int_eq}
use Rattle.std.proofs.lemmas.Bool.Decides.{nat_tests}
use Rattle.lists.proofs.Prelude.{◌∙◌, ap, ap₂, sym, refl, Bool, true, false, List, [], map, ℕ, suc, ℤ, pos}
use Rattle.lists.proofs.Prelude.{negsuc, mag, w32, of_z, eqb, eqb→eq, eq-eqb, ne_eqb, length, drop, drop-drop, arith, any, last_of}
use Rattle.lists.proofs.Tests.{T-true, test_ext}
use Rattle.lists.proofs.Members.{none_front, none_drop, any_snoc, none_snoc}
use Rattle.gaps.specs.Gaps.{is_gap, holds_gap}

-- ---- parts

pub empty_none : holds_gap [] ≡ false
unfolding any
empty_none = refl

-- what stands before something
pub front_none : (xs ys : List ℤ) → holds_gap (xs ++ ys) ≡ false → holds_gap xs ≡ false
front_none = none_front is_gap

pub drop_none : (n : ℕ) (xs : List ℤ) → holds_gap xs ≡ false → holds_gap (drop n xs) ≡ false
drop_none = none_drop is_gap

-- from a later place on
pub later_none : (a b : ℕ) (xs : List ℤ) → a ≤ b → holds_gap (drop a xs) ≡ false → holds_gap (drop b xs) ≡ false
later_none a b xs h e =
    let n : a + (b - a) ≡ b = omega arith in
    ap (λ (k : ℕ). holds_gap (drop k xs)) (sym n) ∙ ap holds_gap (sym (drop-drop (b - a) a xs)) ∙ drop_none (b - a) (drop a xs) e

-- a shorter suffix
pub last_of_none : (m n : ℕ) (xs : List ℤ) → m ≤ n → holds_gap (last_of n xs) ≡ false → holds_gap (last_of m xs) ≡ false
last_of_none m n xs h e = later_none (length xs - n) (length xs - m) xs (omega arith) e

-- ---- one value more

pub holds_gap_snoc : (xs : List ℤ) (x : ℤ) → holds_gap (xs ++ (x ∷ [])) ≡ holds_gap xs || is_gap x
holds_gap_snoc = any_snoc is_gap

-- a sample keeps it so
pub snoc_none : (xs : List ℤ) (x : ℤ) → holds_gap xs ≡ false → is_gap x ≡ false → holds_gap (xs ++ (x ∷ [])) ≡ false
snoc_none = none_snoc is_gap

-- a gap behind anything
pub snoc_gap : (xs : List ℤ) (x : ℤ) → is_gap x ≡ true → holds_gap (xs ++ (x ∷ [])) ≡ true
snoc_gap xs x e = holds_gap_snoc xs x ∙ (go (holds_gap xs) e)
  where
    go : (b : Bool) → is_gap x ≡ true → b || is_gap x ≡ true
    go true e = refl
    go false e = e

-- ---- values

-- values that are not negative
pub pos_none : (ns : List ℕ) → holds_gap (map pos ns) ≡ false
unfolding any is_gap
pos_none [] = refl
pos_none (n ∷ ns) = pos_none ns

-- ---- the library's test: equal to the gap

equal_gap : (z : ℤ) → int_eq z (negsuc 2147483647) ≡ is_gap z
unfolding is_gap
equal_gap (pos n) = refl
equal_gap (negsuc n) = grind (arith, nat_tests)

pub contains_gap : (xs : List ℤ) → list_any (λ y. int_eq y (negsuc 2147483647)) xs ≡ holds_gap xs
unfolding any
contains_gap [] = refl
contains_gap (x ∷ xs) = ap₂ (λ b c. b || c) (equal_gap x) (contains_gap xs)

-- ---- the machine's test: the bits of a 32-bit value are those of the gap's

pub gap_bits : (z : ℤ) → mag z < 2147483648 → eqb (of_z w32 z) 2147483648 ≡ is_gap z
unfolding is_gap
gap_bits (pos n) h = ne_eqb n 2147483648 (λ e. let z : ⊥ = omega arith in z)
gap_bits (negsuc n) h =
    test_ext (eqb (4294967296 - suc n) 2147483648) (eqb n 2147483647)
    (λ t. let q = eqb→eq (4294967296 - suc n) 2147483648 t in T-true (eqb n 2147483647) (eq-eqb n 2147483647 (omega arith)))
    (λ t. let q = eqb→eq n 2147483647 t in T-true (eqb (4294967296 - suc n) 2147483648) (eq-eqb (4294967296 - suc n) 2147483648 (omega arith)))
