-- The ways through the loops, in the words of the code: which factorial the product is, what of a
-- list is in the sum and what is still to be ranked, and which distances of a code are written
-- already.
use Rattle.std.specs.Prelude.{◌≡◌, ◌∷◌, ◌++◌, ◌+◌, ◌*◌, ◌/◌, ◌%◌, ◌^◌, ◌≤◌, ◌<◌}
use Rattle.lists.proofs.Prelude.{◌∙◌, ap, sym, refl, subst, true, List, [], ℕ, zero, suc, T, length, get_or}
use Rattle.lists.proofs.Prelude.{drop, set, drop_of_length-le, drop-cons, mod-lt, mul-le-mul_right, add-one, dec_lt, arith}
use Rattle.lists.proofs.Tables.{tabulate_more}
use Rattle.realization.specs.Realization.{realizable}
use Rattle.realization.proofs.Realizable.{realizable_iff, Realizable-Ok}
use Rattle.ranking.specs.Rank.{factorial, rank_from, rank, unrank}
use Rattle.ranking.proofs.Rank.{rank-lt}

-- ---- the product

factorial-le : (m n : ℕ) → m ≤ n → factorial m ≤ factorial n
unfolding factorial
factorial-le m zero h = let e : m ≡ 0 = omega arith in rw e (omega arith)
factorial-le m (suc n) h = go (dec_lt m (suc n)) (factorial-le m n)
  where
    go : Dec (m < suc n) → (m ≤ n → factorial m ≤ factorial n) → factorial m ≤ factorial (suc n)
    go (yes l) ih = omega (arith, ih (omega arith), mul-le-mul_right {m = 1} {n = suc n} (factorial n) (omega arith))
    go (no g) ih = let e : m ≡ suc n = omega arith in rw e (omega arith)

-- 20! fits 64 bits, and so does every factorial before it
pub factorial_fits : (i : ℕ) → i ≤ 20 → factorial i < 2 ^ 64
unfolding factorial
factorial_fits i h =
    let le : factorial i ≤ 2432902008176640000 = factorial-le i 20 h in
    omega arith

-- a turn takes one factor more to the product
pub factorial_goes_on : (f i : ℕ) → f ≡ factorial i → f * (i + 1) ≡ factorial (i + 1)
unfolding factorial
factorial_goes_on f i p = rw (add-one i, p) (omega arith)

-- ---- ranking

-- the rank of at most 20 distances fits 64 bits, since 20! does
pub rank_fits : (ds : List ℕ) → length ds ≤ 20 → realizable ds ≡ true → rank ds < 2 ^ 64
rank_fits ds h r =
    omega (arith, rank-lt ds (Realizable-Ok ds ((realizable_iff ds).0 (subst T (sym r) tt))), factorial_fits (length ds) h)

-- before the loop every place from 1 on is left
pub rank_starts : (ds : List ℕ) → 0 < length ds → rank ds ≡ 0 + rank_from 1 (drop 1 ds)
rank_starts [] h = absurd (let z : ⊥ = omega arith in z)
rank_starts (d ∷ ds) h = omega arith

-- a turn takes the distance at place i times its weight to the sum
pub rank_goes_on : (ds : List ℕ) (i sum d f : ℕ) → i < length ds → rank ds ≡ sum + rank_from i (drop i ds) → d ≡ get_or ds i 0 → f ≡ factorial i
    → rank ds ≡ sum + d * f + rank_from (i + 1) (drop (i + 1) ds)
unfolding rank_from
rank_goes_on ds i sum d f h e p q =
    e ∙ rw (drop-cons ds i 0 h, add-one i, p, q) (omega arith)

-- behind the loop no place is left
pub rank_ends : (ds : List ℕ) (i sum : ℕ) → length ds ≤ i → rank ds ≡ sum + rank_from i (drop i ds) → sum ≡ rank ds
unfolding rank_from
rank_ends ds i sum h e = sym (e ∙ rw (drop_of_length-le ds {i = i} h) (omega arith))

-- ---- unranking

-- the digit, from the weight and the modulus that the code has
pub digit_is : (code i f m : ℕ) → f ≡ factorial i → m ≡ suc i → code / f % m ≡ code / factorial i % suc i
digit_is code i f m p q = rw (p, q) refl

-- a distance of a code of at most 21 places fits 32 bits
pub digit_fits : (code i v : ℕ) → i ≤ 20 → v ≡ code / factorial i % suc i → v < 2 ^ 32
digit_fits code i v h e = omega (arith, mod-lt (code / factorial i) {m = suc i} (omega arith))

-- a turn writes the distance of place i
pub unrank_goes_on : (d out : List ℕ) (code i v : ℕ) → i < length d → out ≡ unrank i code ++ drop i d → v ≡ code / factorial i % suc i
    → set out i v ≡ unrank (i + 1) code ++ drop (i + 1) d
unfolding unrank
unrank_goes_on d out code i v h e q = ap (λ (l : List ℕ). set l i v) e ∙ tabulate_more (λ j. code / factorial j % suc j) 0 d i v h q
