-- THE WORDS OF A PATTERN'S COMPARISONS: written place by place, one side after the other, they are
-- no more than the pattern's distances, since the root has none; so each pattern's words stay where
-- its own distances lie.
use Rattle.std.specs.Prelude.{◌≡◌, ◌∷◌, ◌++◌, ◌+◌, ◌-◌, ◌*◌, ◌≤◌, ◌<◌}
use Rattle.lists.proofs.Prelude.{◌∙◌, ap, sym, refl, subst, Bool, true, false, cond, List, [], map, append-nil, append_assoc}
use Rattle.lists.proofs.Prelude.{ℕ, zero, suc, length, get_or, take, drop, set, length-append}
use Rattle.lists.proofs.Prelude.{take_at, drop_at, drop-drop, drop_of_length-le, length-drop, take_all, add-one, add-zero, le_refl, dec_lt, arith, ne_eqb}
use Rattle.lists.proofs.Prelude.{le-ltb, tabulate, select}
use Rattle.lists.proofs.Tests.{clash}
use Rattle.lists.proofs.Select.{select_snoc, select_snoc_not}
use Rattle.lists.proofs.Parts.{map-append, put_behind}
use Rattle.filter_checks.specs.Comparisons.{is_apart, is_asked, side_words, comparison_words}

-- ---- one side, place by place

-- the words of the first n places
abbrev pub side_below : Bool → ℕ → List ℕ → ℕ → List ℕ
side_below right from parents n =
    map (λ i. i + 256 * get_or parents i 0) (select (λ i. is_asked right from (get_or parents i 0) i) (tabulate n (λ i. i)))

module _ (right : Bool) (from : ℕ) (parents : List ℕ) where
  abbrev asked : ℕ → Bool
  asked i = is_asked right from (get_or parents i 0) i

  abbrev word : ℕ → ℕ
  word i = i + 256 * get_or parents i 0

  pub side_none : side_below right from parents 0 ≡ []
  unfolding tabulate select
  side_none = refl

  side_yes : (i : ℕ) → asked i ≡ true → side_below right from parents (suc i) ≡ side_below right from parents i ++ (word i ∷ [])
  unfolding tabulate
  side_yes i e = ap (map word) (select_snoc asked (tabulate i (λ i. i)) i e) ∙ map-append word (select asked (tabulate i (λ i. i))) (i ∷ [])

  side_no : (i : ℕ) → asked i ≡ false → side_below right from parents (suc i) ≡ side_below right from parents i
  unfolding tabulate
  side_no i e = ap (map word) (select_snoc_not asked (tabulate i (λ i. i)) i e)

  -- with more places there are no fewer words
  side_grows : (i d : ℕ) → length (side_below right from parents i) ≤ length (side_below right from parents (d + i))
  side_grows i zero =
      let e : 0 + i ≡ i = omega arith in
      subst (λ (n : ℕ). length (side_below right from parents i) ≤ length (side_below right from parents n)) (sym e) (le_refl _)
  side_grows i (suc d) = go (asked (d + i)) refl (side_grows i d)
    where
      one : suc d + i ≡ suc (d + i)
      one = omega arith

      go : (b : Bool) → asked (d + i) ≡ b → length (side_below right from parents i) ≤ length (side_below right from parents (d + i))
          → length (side_below right from parents i) ≤ length (side_below right from parents (suc d + i))
      go true e ih = rw (one, side_yes (d + i) e, length-append) (omega arith)
      go false e ih = rw (one, side_no (d + i) e) ih

  -- a word that is written has its place
  pub side_room : (i : ℕ) → i < length parents → asked i ≡ true → length (side_below right from parents i) < length (side_words right from parents)
  unfolding side_words
  side_room i h e =
      let d = length parents - suc i in
      let n : d + suc i ≡ length parents = omega arith in
      let more : length (side_below right from parents (suc i)) ≡ suc (length (side_below right from parents i)) =
      ap length (side_yes i e) ∙ length-append (side_below right from parents i) (word i ∷ []) ∙ add-one (length (side_below right from parents i)) in
      let grown = subst (λ (n : ℕ). length (side_below right from parents (suc i)) ≤ length (side_below right from parents n)) n (side_grows (suc i) d) in
      omega (arith, more, grown)

  -- the words of the first i places stand in front of what was there
  pub record SideWritten (old : List ℕ) (i to : ℕ) (out : List ℕ) : Type 0 where
    pub count : to ≡ length (side_below right from parents i)
    pub words : out ≡ side_below right from parents i ++ drop (length (side_below right from parents i)) old

  pub side_start : (old : List ℕ) → SideWritten old 0 0 old
  side_start old = record { count = ap length (sym side_none); words = rw side_none refl }

  module _ (old out : List ℕ) (i to : ℕ) (before : SideWritten old i to out) where
    -- there is room for a word more
    pub side_fits : i < length parents → length (side_words right from parents) ≤ length old → asked i ≡ true → to < length old
    side_fits h room e = omega (arith, before.count, side_room i h e)

    pub side_put : i < length parents → length (side_words right from parents) ≤ length old → asked i ≡ true
        → SideWritten old (i + 1) (to + 1) (set out to (word i))
    side_put h room e =
        let more : side_below right from parents i ++ (word i ∷ []) ≡ side_below right from parents (i + 1) =
        sym (ap (side_below right from parents) (add-one i) ∙ side_yes i e) in record {
          count = omega (arith, before.count, ap length more, length-append (side_below right from parents i) (word i ∷ []));
          words = ap (λ (l : List ℕ). set l to (word i)) before.words
              ∙ put_behind (side_below right from parents i) old to (word i) before.count (side_fits h room e)
              ∙ ap (λ (l : List ℕ). l ++ drop (length l) old) more;
        }

    pub side_pass : asked i ≡ false → SideWritten old (i + 1) to out
    side_pass e =
        let same : side_below right from parents (i + 1) ≡ side_below right from parents i = ap (side_below right from parents) (add-one i) ∙ side_no i e in
        record { count = rw same before.count; words = rw same before.words }

    pub side_counted : i ≡ length parents → to ≡ length (side_words right from parents)
    unfolding side_words
    side_counted e = rw (← e) before.count

    pub side_written : i ≡ length parents → out ≡ side_words right from parents ++ drop (length (side_words right from parents)) old
    unfolding side_words
    side_written e = rw (← e) before.words

-- ---- both sides

module _ (from : ℕ) (parents : List ℕ) where
  -- a comparison is asked for on one side at most, and for the root on none
  one_side : (i : ℕ) → is_asked false from (get_or parents i 0) i ≡ true → is_asked true from (get_or parents i 0) i ≡ false
  one_side i e = go (dec_lt (get_or parents i 0) i)
    where
      g : ℕ
      g = get_or parents i 0

      go : Dec (g < i) → is_apart from i g ≡ false
      go (yes h) = rw (ne_eqb (suc i) g (λ q. let z : ⊥ = omega arith in z)) (le-ltb i g (omega arith))
      go (no h) = clash e (rw (ne_eqb (suc g) i (λ q. let z : ⊥ = omega arith in z)) (le-ltb g i (omega arith)))

  not_root : (right : Bool) (i : ℕ) → get_or parents i 0 ≡ i → is_asked right from (get_or parents i 0) i ≡ false
  not_root true i e = rw (e, ne_eqb (suc i) i (λ q. let z : ⊥ = omega arith in z)) (le-ltb i i (omega arith))
  not_root false i e = rw (e, ne_eqb (suc i) i (λ q. let z : ⊥ = omega arith in z)) (le-ltb i i (omega arith))

  abbrev both : ℕ → ℕ
  both n = length (side_below false from parents n) + length (side_below true from parents n)

  both_step : (n : ℕ) → (both (suc n) ≤ suc (both n)) × (get_or parents n 0 ≡ n → both (suc n) ≡ both n)
  both_step n = go (is_asked false from (get_or parents n 0) n) refl (is_asked true from (get_or parents n 0) n) refl
    where
      L : ℕ
      L = length (side_below false from parents n)

      R : ℕ
      R = length (side_below true from parents n)

      more : (right : Bool) (b : Bool) → is_asked right from (get_or parents n 0) n ≡ b
          → length (side_below right from parents (suc n)) ≡ length (side_below right from parents n) + cond b 1 0
      more right true e = ap length (side_yes right from parents n e) ∙ length-append (side_below right from parents n) _
      more right false e = ap length (side_no right from parents n e) ∙ sym (add-zero _)

      go : (a : Bool) → is_asked false from (get_or parents n 0) n ≡ a → (b : Bool) → is_asked true from (get_or parents n 0) n ≡ b
          → (both (suc n) ≤ suc (both n)) × (get_or parents n 0 ≡ n → both (suc n) ≡ both n)
      go true e true f = clash f (one_side n e)
      go true e false f = (omega (arith, more false true e, more true false f), λ q. clash e (not_root false n q))
      go false e true f = (omega (arith, more false false e, more true true f), λ q. clash f (not_root true n q))
      go false e false f = (omega (arith, more false false e, more true false f), λ q. omega (arith, more false false e, more true false f))

  both_most : (n : ℕ) → both n ≤ n
  both_most zero = rw (side_none false from parents, side_none true from parents) (le_refl 0)
  both_most (suc n) = omega (arith, (both_step n).0, both_most n)

  -- a root below n
  both_less : (i d : ℕ) → get_or parents i 0 ≡ i → both (suc d + i) ≤ d + i
  both_less i zero e =
      let q : suc 0 + i ≡ suc i = omega arith in
      rw q (omega (arith, (both_step i).1 e, both_most i))
  both_less i (suc d) e =
      let q : suc (suc d) + i ≡ suc (suc d + i) = omega arith in
      rw q (omega (arith, (both_step (suc d + i)).0, both_less i d e))

-- one word for the counts and one for each comparison are no more than the places
pub words_most : (parents : List ℕ) (i : ℕ) → i < length parents → get_or parents i 0 ≡ i → length (comparison_words parents) ≤ length parents
unfolding side_words
words_most parents i h e =
    let from = length parents - 17 in
    let d = length parents - suc i in
    let q : suc d + i ≡ length parents = omega arith in
    let less : both from parents (length parents) ≤ d + i = subst (λ (n : ℕ). both from parents n ≤ d + i) q (both_less from parents i d e) in
    rw length-append (omega (arith, q, less))

-- ---- the words of a pattern, written to the front

-- words written behind others, to the part from there on
pub behind_front : (front words array out part : List ℕ) (at k : ℕ) → out ≡ front ++ drop (length front) array → at ≡ length front → k ≡ length out - at
    → part ≡ words ++ drop (length words) (take k (drop at out))
    → take at out ++ (part ++ drop k (drop at out)) ≡ (front ++ words) ++ drop (length (front ++ words)) array
behind_front front words array out part at k e a h p =
    let f : take at out ≡ front = ap (take at) e ∙ take_at front _ at (sym a) in
    let d : drop at out ≡ drop (length front) array = ap (drop at) e ∙ drop_at front _ at (sym a) in
    let len : length (drop at out) ≤ k = simp length-drop (omega arith) in
    rw (drop_of_length-le (drop at out) {i = k} len, append-nil part, p, take_all k (drop at out) len, f, d)
    (ap (λ (l : List ℕ). front ++ (words ++ l)) (drop-drop (length words) (length front) array)
    ∙ ap (λ (n : ℕ). front ++ (words ++ drop n array)) (sym (length-append front words))
    ∙ sym (append_assoc front words _))

pub words_put : (old L R out : List ℕ) (x : ℕ) → 1 ≤ length old → out ≡ ((take 1 old ++ L) ++ R) ++ drop (length ((take 1 old ++ L) ++ R)) old
    → set out 0 x ≡ (x ∷ (L ++ R)) ++ drop (length (x ∷ (L ++ R))) old
words_put [] L R out x h e = absurd (let z : ⊥ = omega arith in z)
words_put (y ∷ old) L R out x h e = ap (λ (l : List ℕ). set l 0 x) e
