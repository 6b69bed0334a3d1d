-- EQUAL PATTERNS: the set of the ranks whose pattern equals that of rank r grows rank by rank, ends
-- with the patterns of one length, and is the same set for each of its members.
use Rattle.std.specs.Prelude.{◌≡◌, ◌⊎◌, ◌&&◌, ◌||◌, ◌∷◌, ◌+◌, ◌≤◌, ◌<◌}
use Rattle.lists.proofs.Prelude.{◌∙◌, ap, sym, refl, subst, inl, inr, Bool, true, false, cond, List, ℕ, T, eqb}
use Rattle.lists.proofs.Prelude.{leb}
use Rattle.lists.proofs.Prelude.{ltb, length, get_or, set, get_or-set_same, get_or-set_other, dec_lt, arith, eq-eqb, ne_eqb, le-leb}
use Rattle.lists.proofs.Prelude.{lt-leb, lt-ltb}
use Rattle.lists.proofs.Prelude.{le-ltb, same}
use Rattle.lists.proofs.Tests.{and-false, clash, test_ext, T-true}
use Rattle.lists.proofs.Same.{same-true, same-false, true-same}
use Rattle.bit_sets.specs.BitSets.{bit_at, bits}
use Rattle.bit_sets.proofs.Digits.{bit_at_none}
use Rattle.bit_sets.proofs.Laws.{mem-bits}
use Rattle.lists.proofs.Members.{any-mem, mem-any}
use Rattle.lists.proofs.Prelude.{any, [], length-set, eqb→eq}
use Rattle.pattern_set.specs.PatternSet.{PatternSet, good_set}
use Rattle.filter_plan.specs.Plan.{hit_order}
use Rattle.filter_plan.proofs.HitOrder.{Sooner, hit_order-Sooner, length-hit_order}
use lib.Pointwise.{pointwise}
use Rattle.lists.proofs.Prelude.{ap₂}
use Rattle.filter_tables.specs.Tables.{ranked, Ranks}
use Rattle.filter_checks.specs.Equal.{EqualTo, EqualRanks, EqualFrom}

-- ---- the patterns of two ranks

-- a slice that is the pattern of a rank
pub ranked_slice : (ps view : PatternSet) (numbers : List ℕ) (r n : ℕ) (xs : List ℕ) → view ≡ ps → Ranks ps numbers → r < length ps
    → n ≡ get_or numbers r 0 → xs ≡ get_or view n [] → xs ≡ ranked ps r
ranked_slice ps view numbers r n xs v f h e q = q ∙ ap₂ (λ (p : PatternSet) (m : ℕ). get_or p m []) v (e ∙ f r h)

pub pointwise_same : (xs ys : List ℕ) → pointwise eqb xs ys ≡ same xs ys
unfolding same
pointwise_same [] [] = refl
pointwise_same [] (y ∷ ys) = refl
pointwise_same (x ∷ xs) [] = refl
pointwise_same (x ∷ xs) (y ∷ ys) = ap (λ (b : Bool). eqb x y && b) (pointwise_same xs ys)

-- ---- the ranks from r on

-- at a later rank the pattern is no longer
rank_lengths : (ps : PatternSet) (r s : ℕ) → T (good_set ps) → r < s → s < length ps → length (ranked ps s) ≤ length (ranked ps r)
rank_lengths ps r s g h k = go (hit_order-Sooner ps r s h (omega (arith, length-hit_order ps g)))
  where
    go : Sooner ps (get_or (hit_order ps) r 0) (get_or (hit_order ps) s 0) → length (ranked ps s) ≤ length (ranked ps r)
    go (inl l) = omega arith
    go (inr p) = omega (arith, p.0)

module _ (ps : PatternSet) (r : ℕ) where
  abbrev has_equal : ℕ → Bool
  has_equal s = same (ranked ps r) (ranked ps s)

  -- rank r itself
  pub equal_start : (set : ℕ) → ((s : ℕ) → s < 64 → bit_at set s ≡ (eqb s r || bit_at 0 s)) → EqualFrom ps r (r + 1) set
  equal_start set f s h = f s h ∙ ap (λ (b : Bool). eqb s r || b) (bit_at_none s) ∙ go (dec_lt s r) (dec_lt r s)
    where
      go : Dec (s < r) → Dec (r < s) → (eqb s r || false) ≡ ((leb r s && ltb s (r + 1)) && has_equal s)
      go (yes l) d = rw (ne_eqb s r (λ e. let z : ⊥ = omega arith in z), lt-leb r s l) refl
      go (no l) (yes k) = rw (ne_eqb s r (λ e. let z : ⊥ = omega arith in z), le-leb r s (omega arith), le-ltb s (r + 1) (omega arith)) refl
      go (no l) (no k) =
          let e : s ≡ r = omega arith in
          rw (e, eq-eqb r r refl, le-leb r r (omega arith), lt-ltb r (r + 1) (omega arith)) (sym (same-true (ranked ps r) (ranked ps r) refl))

  -- one rank more
  next : (n s : ℕ) (b : Bool) → r < n → has_equal n ≡ b
      → ((eqb s n && b) || ((leb r s && ltb s n) && has_equal s)) ≡ ((leb r s && ltb s (n + 1)) && has_equal s)
  next n s b l e = go (dec_lt s n) (dec_lt n s)
    where
      go : Dec (s < n) → Dec (n < s) → ((eqb s n && b) || ((leb r s && ltb s n) && has_equal s)) ≡ ((leb r s && ltb s (n + 1)) && has_equal s)
      go (yes k) d = rw (ne_eqb s n (λ e. let z : ⊥ = omega arith in z), lt-ltb s n k, lt-ltb s (n + 1) (omega arith)) refl
      go (no k) (yes m) =
          rw (ne_eqb s n (λ e. let z : ⊥ = omega arith in z), le-ltb s n (omega arith), le-ltb s (n + 1) (omega arith)) refl
      go (no k) (no m) =
          let q : s ≡ n = omega arith in
          rw (q, eq-eqb n n refl, le-ltb n n (omega arith), lt-ltb n (n + 1) (omega arith), le-leb r n (omega arith)) (last b (has_equal n) e)
        where
          last : (b c : Bool) → c ≡ b → (b || false) ≡ c
          last true c e = sym e
          last false c e = sym e

  pub equal_yes : (n set set' : ℕ) → r < n → EqualFrom ps r n set → has_equal n ≡ true → ((s : ℕ) → s < 64 → bit_at set' s ≡ (eqb s n || bit_at set s))
      → EqualFrom ps r (n + 1) set'
  equal_yes n set set' l f e w s h = w s h ∙ ap (λ (b : Bool). eqb s n || b) (f s h) ∙ go (eqb s n) (next n s true l e)
    where
      go : (b : Bool) → ((b && true) || ((leb r s && ltb s n) && has_equal s)) ≡ ((leb r s && ltb s (n + 1)) && has_equal s)
          → (b || ((leb r s && ltb s n) && has_equal s)) ≡ ((leb r s && ltb s (n + 1)) && has_equal s)
      go true q = q
      go false q = q

  pub equal_no : (n set set' : ℕ) → r < n → EqualFrom ps r n set → has_equal n ≡ false → set' ≡ set → EqualFrom ps r (n + 1) set'
  equal_no n set set' l f e w s h = ap (λ (m : ℕ). bit_at m s) w ∙ f s h ∙ go (eqb s n) (next n s false l e)
    where
      go : (b : Bool) → ((b && false) || ((leb r s && ltb s n) && has_equal s)) ≡ ((leb r s && ltb s (n + 1)) && has_equal s)
          → ((leb r s && ltb s n) && has_equal s) ≡ ((leb r s && ltb s (n + 1)) && has_equal s)
      go true q = q
      go false q = q

  -- the patterns behind the first of another length are shorter
  pub equal_end : (n set : ℕ) → T (good_set ps) → r < n → n < length ps → (length (ranked ps n) ≡ length (ranked ps r) → ⊥) → EqualFrom ps r n set
      → EqualFrom ps r (length ps) set
  equal_end n set g l k d f s h = f s h ∙ go (dec_lt s n) (dec_lt s (length ps))
    where
      shorter : n ≤ s → s < length ps → length (ranked ps s) < length (ranked ps r)
      shorter a b = step (dec_lt n s) (rank_lengths ps r n g l k)
        where
          less : length (ranked ps n) ≤ length (ranked ps r) → length (ranked ps n) < length (ranked ps r)
          less q = pick (dec_lt (length (ranked ps n)) (length (ranked ps r)))
            where
              pick : Dec (length (ranked ps n) < length (ranked ps r)) → length (ranked ps n) < length (ranked ps r)
              pick (yes y) = y
              pick (no y) = absurd (d (omega arith))

          step : Dec (n < s) → length (ranked ps n) ≤ length (ranked ps r) → length (ranked ps s) < length (ranked ps r)
          step (yes y) q = omega (arith, rank_lengths ps n s g y b, less q)
          step (no y) q = let e : s ≡ n = omega arith in rw e (less q)

      go : Dec (s < n) → Dec (s < length ps) → ((leb r s && ltb s n) && has_equal s) ≡ ((leb r s && ltb s (length ps)) && has_equal s)
      go (yes a) d = rw (lt-ltb s n a, lt-ltb s (length ps) (omega arith)) refl
      go (no a) (yes b) =
          let e = same-false (ranked ps r) (ranked ps s) (λ q. let z : ⊥ = omega (arith, shorter (omega arith) b, ap length q) in z) in
          rw e (and-false (leb r s && ltb s n) ∙ sym (and-false (leb r s && ltb s (length ps))))
      go (no a) (no b) = rw (le-ltb s n (omega arith), le-ltb s (length ps) (omega arith)) refl

-- ---- a value stored at the members of a set

-- the table with the value stored at each of these places
abbrev pub stored : {A : Type 0} → List A → List ℕ → A → List A
stored table [] value = table
stored table (s ∷ ss) value = stored (set table s value) ss value

get_or-stored : {A : Type 0} (ss : List ℕ) (table : List A) (value : A) (s : ℕ) (d : A) → s < length table
    → get_or (stored table ss value) s d ≡ cond (any (eqb s) ss) value (get_or table s d)
unfolding any
get_or-stored [] table value s d h = refl
get_or-stored {A} (r ∷ ss) table value s d h = get_or-stored ss (set table r value) value s d (rw length-set h) ∙ go (any (eqb s) ss) (dec_lt s r) (dec_lt r s)
  where
    other : (b : Bool) → (s ≡ r → ⊥) → cond b value (get_or (set table r value) s d) ≡ cond (eqb s r || b) value (get_or table s d)
    other b n = rw (ne_eqb s r n, get_or-set_other table r s value d n) refl

    here : (b : Bool) → s ≡ r → cond b value (get_or (set table r value) s d) ≡ cond (eqb s r || b) value (get_or table s d)
    here true e = rw (eq-eqb s r e) refl
    here false e = rw (eq-eqb s r e, e) (get_or-set_same table r value d (omega arith))

    go : (b : Bool) → Dec (s < r) → Dec (r < s) → cond b value (get_or (set table r value) s d) ≡ cond (eqb s r || b) value (get_or table s d)
    go b (yes l) m = other b (λ e. let z : ⊥ = omega arith in z)
    go b (no l) (yes m) = other b (λ e. let z : ⊥ = omega arith in z)
    go b (no l) (no m) = here b (omega arith)

member_bit : (m s : ℕ) → s < 64 → any (eqb s) (bits m) ≡ bit_at m s
member_bit m s h =
    test_ext (any (eqb s) (bits m)) (bit_at m s)
    (λ t. let a = any-mem (eqb s) (bits m) t in rw (eqb→eq s a.0 a.2) ((mem-bits m a.0).0 a.1).1)
    (λ t. mem-any (eqb s) (bits m) s ((mem-bits m s).1 (h, t)) (T-true (eqb s s) (eq-eqb s s refl)))

pub stored_at : {A : Type 0} (old table : List A) (members : ℕ) (rest : List ℕ) (value : A) → length old ≡ 64 → rest ≡ []
    → stored table rest value ≡ stored old (bits members) value
    → (s : ℕ) → s < 64 → (d : A) → get_or table s d ≡ cond (bit_at members s) value (get_or old s d)
stored_at {A} old table members rest value l e q s h d =
    let done : table ≡ stored old (bits members) value = ap (λ (ss : List ℕ). stored table ss value) (sym e) ∙ q in
    ap (λ (t : List A). get_or t s d) done ∙ get_or-stored (bits members) old value s d (omega arith)
    ∙ ap (λ (b : Bool). cond b value (get_or old s d)) (member_bit members s h)

-- ---- the table

-- how far the table is filled for rank s when the ranks below r are done: its set is there, or none
-- of the ranks below r has an equal pattern and nothing is there
abbrev pub FilledAt : PatternSet → ℕ → List ℕ → ℕ → Type 0
FilledAt ps r table s =
    (((t : ℕ) × (t < r) × (same (ranked ps t) (ranked ps s) ≡ true)) × EqualTo ps s (get_or table s 0))
    ⊎ ((get_or table s 0 ≡ 0) × ((t : ℕ) → t < r → same (ranked ps t) (ranked ps s) ≡ false))

abbrev pub FilledBelow : PatternSet → ℕ → List ℕ → Type 0
FilledBelow ps r table = (s : ℕ) → s < length ps → FilledAt ps r table s

-- equal patterns have one set
equal_move : (ps : PatternSet) (r s set : ℕ) → ranked ps r ≡ ranked ps s → EqualTo ps r set → EqualTo ps s set
equal_move ps r s set e f t h = f t h ∙ ap (λ (p : List ℕ). ltb t (length ps) && same p (ranked ps t)) e

-- a rank is in its own set, so the set is not empty
equal_own : (ps : PatternSet) (r set : ℕ) → r < length ps → length ps ≤ 64 → EqualTo ps r set → set ≡ 0 → ⊥
equal_own ps r set h l f e =
    let in-it : bit_at set r ≡ true = f r (omega arith) ∙ rw (lt-ltb r (length ps) h) (same-true (ranked ps r) (ranked ps r) refl) in
    clash in-it (ap (λ (m : ℕ). bit_at m r) e ∙ bit_at_none r)

module _ (ps : PatternSet) (r : ℕ) (table : List ℕ) (lt : r < length ps) (few : length ps ≤ 64) (done : FilledBelow ps r table) where
  -- rank r has its set: a rank below r has an equal pattern
  pub filled_pass : (get_or table r 0 ≡ 0 → ⊥) → FilledBelow ps (r + 1) table
  filled_pass n s h = go (done r lt) (done s h)
    where
      go : FilledAt ps r table r → FilledAt ps r table s → FilledAt ps (r + 1) table s
      go (inr p) x = absurd (n p.0)
      go (inl p) (inl q) = inl ((q.0.0, omega (arith, q.0.1), q.0.2), q.1)
      go (inl p) (inr q) = inr (q.0, λ t k. last t k (dec_lt t r))
        where
          last : (t : ℕ) → t < r + 1 → Dec (t < r) → same (ranked ps t) (ranked ps s) ≡ false
          last t k (yes l) = q.1 t l
          last t k (no l) =
              let e : t ≡ r = omega arith in
              rw e (subst (λ (x : List ℕ). same x (ranked ps s) ≡ false) (true-same (ranked ps p.0.0) (ranked ps r) p.0.2) (q.1 p.0.0 p.0.1))

  -- rank r has no set yet: it gets the ranks from r on that have an equal pattern, and so do these
  pub filled_more : (after : List ℕ) (members : ℕ) → get_or table r 0 ≡ 0 → EqualFrom ps r (length ps) members
      → ((s : ℕ) → s < 64 → get_or after s 0 ≡ cond (bit_at members s) members (get_or table s 0)) → FilledBelow ps (r + 1) after
  filled_more after members e f w s h = go (same (ranked ps r) (ranked ps s)) refl (done s h)
    where
      new : (t : ℕ) → t < r → same (ranked ps t) (ranked ps r) ≡ false
      new = pick (done r lt)
        where
          pick : FilledAt ps r table r → (t : ℕ) → t < r → same (ranked ps t) (ranked ps r) ≡ false
          pick (inl p) = absurd (equal_own ps r (get_or table r 0) lt few p.1 e)
          pick (inr p) = p.1

      -- no rank below r has an equal pattern
      whole : EqualTo ps r members
      whole t k = f t k ∙ part (dec_lt t r)
        where
          part : Dec (t < r) → ((leb r t && ltb t (length ps)) && same (ranked ps r) (ranked ps t)) ≡ (ltb t (length ps) && same (ranked ps r) (ranked ps t))
          part (yes l) =
              let d : same (ranked ps r) (ranked ps t) ≡ false =
              same-false (ranked ps r) (ranked ps t) (λ q. clash (same-true (ranked ps t) (ranked ps r) (sym q)) (new t l)) in
              rw d (and-false (leb r t && ltb t (length ps)) ∙ sym (and-false (ltb t (length ps))))
          part (no l) = rw (le-leb r t (omega arith)) refl

      there : (b : Bool) → same (ranked ps r) (ranked ps s) ≡ b → get_or after s 0 ≡ cond b members (get_or table s 0)
      there b q =
          let i : bit_at members s ≡ b = whole s (omega arith) ∙ rw (lt-ltb s (length ps) h) q in
          w s (omega arith) ∙ ap (λ (c : Bool). cond c members (get_or table s 0)) i

      go : (b : Bool) → same (ranked ps r) (ranked ps s) ≡ b → FilledAt ps r table s → FilledAt ps (r + 1) after s
      go true q x =
          inl (
            (r, omega arith, q),
            subst (EqualTo ps s) (sym (there true q)) (equal_move ps r s members (true-same (ranked ps r) (ranked ps s) q) whole),
          )
      go false q (inl x) = inl ((x.0.0, omega (arith, x.0.1), x.0.2), subst (EqualTo ps s) (sym (there false q)) x.1)
      go false q (inr x) = inr (there false q ∙ x.0, λ t k. last t k (dec_lt t r))
        where
          last : (t : ℕ) → t < r + 1 → Dec (t < r) → same (ranked ps t) (ranked ps s) ≡ false
          last t k (yes l) = x.1 t l
          last t k (no l) = let e : t ≡ r = omega arith in rw e q

pub filled_all : (ps : PatternSet) (r : ℕ) (table : List ℕ) → length ps ≤ r → FilledBelow ps r table → EqualRanks ps table
filled_all ps r table l f s h = go (f s h)
  where
    go : FilledAt ps r table s → EqualTo ps s (get_or table s 0)
    go (inl p) = p.1
    go (inr p) = absurd (clash (same-true (ranked ps s) (ranked ps s) refl) (p.1 s (omega arith)))
