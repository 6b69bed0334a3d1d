-- The rank is the factorial number system: the distance at place i, which is at most i, is the
-- digit of weight i!. So ranking and unranking undo one another, for the lists whose distances are
-- at most their places and the codes below the factorial of the length.
use Rattle.std.specs.Prelude.{◌≡◌, ◌↔◌, ◌∷◌, ◌++◌, ◌+◌, ◌*◌, ◌/◌, ◌%◌, ◌<◌}
use Rattle.lists.proofs.Prelude.{◌∙◌, sym, refl, subst, List, [], ℕ, zero, suc, length, get_or, ext_get_or, add-zero}
use Rattle.lists.proofs.Prelude.{zero-add, mod-lt, mod-eq_of_lt, mod-one, arith, tabulate}
use Rattle.lists.proofs.Tables.{length-tabulate, get_or-tabulate}
use Rattle.cartesian.proofs.Injective.{Ok, Ok-app}
use Rattle.realization.specs.Realization.{Realizable}
use Rattle.realization.proofs.Realizable.{Realizable-Ok}
use Rattle.ranking.specs.Rank.{factorial, rank_from, rank, unrank}
use Rattle.ranking.proofs.Arithmetic.{factorial_pos, digit_lt, digit_read, mod_product}

-- the first distance is 0, so it may be counted
rank_from-zero : (ds : List ℕ) → Ok 0 ds → rank ds ≡ rank_from 0 ds
unfolding rank_from factorial
rank_from-zero [] o = refl
rank_from-zero (d ∷ ds) o =
    let e : d ≡ 0 = omega (arith, o.0) in
    rw e (omega arith)

-- the part of the rank from place i on is a multiple of i!
rank_from_multiple : (i : ℕ) (ds : List ℕ) → (q : ℕ) × (rank_from i ds ≡ q * factorial i)
unfolding rank_from factorial
rank_from_multiple i [] = (0, omega arith)
rank_from_multiple i (d ∷ ds) =
    let r = rank_from_multiple (suc i) ds in
    (d + r.0 * suc i, rw r.1 (omega arith))

-- ---- a rank is below the factorial of the length

rank_from-lt : (i a : ℕ) (ds : List ℕ) → a < factorial i → Ok i ds → a + rank_from i ds < factorial (i + length ds)
unfolding rank_from factorial
rank_from-lt i a [] h o = rw (add-zero a, add-zero i) h
rank_from-lt i a (d ∷ ds) h o =
    let e : i + suc (length ds) ≡ suc i + length ds = omega arith in
    let p : a + (d * factorial i + rank_from (suc i) ds) ≡ a + d * factorial i + rank_from (suc i) ds = omega arith in
    rw (e, p) (rank_from-lt (suc i) (a + d * factorial i) ds (digit_lt (factorial i) i a d h o.0) o.1)

pub rank-lt : (ds : List ℕ) → Ok 0 ds → rank ds < factorial (length ds)
unfolding factorial
rank-lt ds o =
    rw (rank_from-zero ds o) (rw (zero-add (rank_from 0 ds), zero-add (length ds)) at (rank_from-lt 0 0 ds (omega arith) o))

-- ---- what was ranked is read back

digit_at : (i a : ℕ) (ds : List ℕ) (j : ℕ) → a < factorial i → Ok i ds → j < length ds → (a + rank_from i ds) / factorial (i + j) % suc (i + j) ≡ get_or ds j 0
unfolding rank_from factorial
digit_at i a [] j h o l = absurd (let z : ⊥ = omega arith in z)
digit_at i a (d ∷ ds) zero h o l =
    let r = rank_from_multiple (suc i) ds in
    rw (add-zero, r.1) (digit_read (factorial i) i a d r.0 h o.0)
digit_at i a (d ∷ ds) (suc j) h o l =
    let e : i + suc j ≡ suc i + j = omega arith in
    let p : a + (d * factorial i + rank_from (suc i) ds) ≡ a + d * factorial i + rank_from (suc i) ds = omega arith in
    rw (e, p) (digit_at (suc i) (a + d * factorial i) ds j (digit_lt (factorial i) i a d h o.0) o.1 (omega arith))

pub unrank-rank : (ds : List ℕ) → Ok 0 ds → unrank (length ds) (rank ds) ≡ ds
unfolding unrank factorial
unrank-rank ds o =
    ext_get_or 0 (tabulate (length ds) digit) ds (length-tabulate (length ds) digit)
    (λ j h. at j (rw length-tabulate at h))
  where
    digit : ℕ → ℕ
    digit j = rank ds / factorial j % suc j

    at : (j : ℕ) → j < length ds → get_or (tabulate (length ds) digit) j 0 ≡ get_or ds j 0
    at j h =
        get_or-tabulate (length ds) digit 0 j h
        ∙ rw (rank_from-zero ds o) (rw (zero-add (rank_from 0 ds), zero-add j) at (digit_at 0 0 ds j (omega arith) o h))

-- ---- what was unranked has the rank

pub length-unrank : (n code : ℕ) → length (unrank n code) ≡ n
unfolding unrank
length-unrank n code = length-tabulate n (λ i. code / factorial i % suc i)

rank_from_snoc : (i : ℕ) (ds : List ℕ) (d : ℕ) → rank_from i (ds ++ (d ∷ [])) ≡ rank_from i ds + d * factorial (i + length ds)
unfolding rank_from
rank_from_snoc i [] d = rw (add-zero i) (omega arith)
rank_from_snoc i (e ∷ ds) d =
    let p : i + suc (length ds) ≡ suc i + length ds = omega arith in
    rw (p, rank_from_snoc (suc i) ds d) (omega arith)

-- each distance read is at most its place
pub unrank-Ok : (n code : ℕ) → Ok 0 (unrank n code)
unfolding unrank tabulate
unrank-Ok zero code = tt
unrank-Ok (suc n) code =
    Ok-app 0 (unrank n code) (code / factorial n % suc n ∷ []) (unrank-Ok n code)
    (rw (zero-add, length-unrank n code) (omega (arith, mod-lt (code / factorial n) {m = suc n} (omega arith))), tt)

rank_from-unrank : (n code : ℕ) → rank_from 0 (unrank n code) ≡ code % factorial n
unfolding unrank tabulate rank_from factorial
rank_from-unrank zero code = sym (mod-one code)
rank_from-unrank (suc n) code =
    rank_from_snoc 0 (unrank n code) (code / factorial n % suc n)
    ∙ rw (zero-add, length-unrank n code, rank_from-unrank n code) (sym (mod_product code (factorial n) n (factorial_pos n)))

pub rank-unrank : (n code : ℕ) → code < factorial n → rank (unrank n code) ≡ code
rank-unrank n code h = rank_from-zero (unrank n code) (unrank-Ok n code) ∙ rank_from-unrank n code ∙ mod-eq_of_lt h

-- unranking finds the one list that has the rank
pub unrank_iff : (n code : ℕ) (ds : List ℕ) → code < factorial n → (unrank n code ≡ ds) ↔ ((length ds ≡ n) × Ok 0 ds × (rank ds ≡ code))
unrank_iff n code ds h = (
  λ e. subst (λ (l : List ℕ). (length l ≡ n) × Ok 0 l × (rank l ≡ code)) e (length-unrank n code, unrank-Ok n code, rank-unrank n code h),
  λ p. rw (← p.0, ← p.2) (unrank-rank ds p.1),
)

-- ---- lists of parent distances

pub decode_encode : (ds : List ℕ) → Realizable ds → unrank (length ds) (rank ds) ≡ ds
decode_encode ds r = unrank-rank ds (Realizable-Ok ds r)
