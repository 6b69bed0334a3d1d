-- The ring of open minima once the too old one is dropped. At most one is too old, the oldest, as
-- all are among the last 256 and their places rise; so at most 255 are left, and the slot after
-- theirs is none of theirs.
use Rattle.std.specs.Prelude.{◌≡◌, ◌&&◌, ◌+◌, ◌-◌, ◌≤◌, ◌<◌}
use Rattle.lists.proofs.Prelude.{◌∙◌, ap, sym, refl, subst, Bool, true, false, List, ℕ, zero, suc, ℤ, pos, le_z, T, leb, ltb}
use Rattle.lists.proofs.Prelude.{leb→le, le→leb, ltb→lt, lt→ltb, length, get_or, dec_lt, arith, lt-leb, tabulate, select}
use Rattle.lists.proofs.Tables.{tabulate-cons, tabulate_ext}
use Rattle.lists.proofs.Select.{select-select}
use Rattle.lists.proofs.Tests.{and_split, and_join, T-true}
use Rattle.lists.proofs.SelectTable.{select_all, Selected, selected}
use Rattle.lists.proofs.Rising.{rising_count}
use Rattle.search_model.specs.Ring.{Ring, place_at, value_at, is_old, aged}
use Rattle.search_model.proofs.Ring.{without, slot-lt, aged-without, slot_next}
use Rattle.runs.specs.ReferenceRun.{is_open, open_places}
use Rattle.runs.proofs.Minima.{Minima, value_of, open_later, young, is_listed, Minima-Selected, Minima-value}

-- ---- what is too old

-- the open minima of the state are those of the text that are young
pub record Aged (text : List ℤ) (a : Ring) : Type 0 where
  pub first : a.first < 256
  pub places_length : length a.places ≡ 256
  pub values_length : length a.values ≡ 256
  pub places : tabulate a.minima (place_at a) ≡ select (young (length text)) (open_places text)
  pub value : (i : ℕ) → i < a.minima → value_at a i ≡ value_of text (place_at a i)

-- the oldest is too old
Aged-old : (text : List ℤ) (r : Ring) → Minima text r → (n : ℕ) → r.minima ≡ suc n → place_at r 0 + 256 ≤ length text → Aged text (without r true)
unfolding select
Aged-old text r m n e h =
    let s = Minima-Selected text r m in
    let L = length text in
    let d : r.minima - 1 ≡ n = omega arith in
    record {
      first = slot-lt r 1;
      places_length = m.places_length;
      values_length = m.values_length;
      places =
          rw d
          (tabulate_ext n (place_at (without r true)) (λ i. place_at r (suc i)) (λ i l. ap (λ (k : ℕ). get_or r.places k 0) (slot_next r i))
          ∙ sym (select_all (young L) n (λ i. place_at r (suc i))
          (λ i l. le→leb (suc L) (place_at r (suc i) + 256) (omega (arith, s.rises 0 (suc i) (omega arith) (omega arith), oldest (omega arith)))))
          ∙ sym (ap (select (young L)) (sym m.places ∙ ap (λ (k : ℕ). tabulate k (place_at r)) e ∙ tabulate-cons n (place_at r)) ∙ rw
          (lt-leb (suc L) (place_at r 0 + 256) (omega arith)) refl));
      value =
          λ i l. ap (λ (k : ℕ). get_or r.values k (pos 0)) (slot_next r i) ∙ Minima-value text r m (suc i) (omega arith) ∙ ap
          (λ (k : ℕ). value_of text (get_or r.places k 0)) (sym (slot_next r i));
    }
  where
    oldest : 0 < r.minima → length text ≤ place_at r 0 + 256
    oldest k =
        leb→le (length text) (place_at r 0 + 256) (and_split (leb (length text) (place_at r 0 + 256)) (is_open text (place_at r 0))
        ((Minima-Selected text r m).passes 0 k)).0

-- none is too old
Aged-young : (text : List ℤ) (r : Ring) → Minima text r → (0 < r.minima → length text < place_at r 0 + 256) → Aged text (without r false)
Aged-young text r m f =
    let L = length text in
    record {
      first = m.first;
      places_length = m.places_length;
      values_length = m.values_length;
      places =
          sym (select_all (young L) r.minima (place_at r) (λ i l. le→leb (suc L) (place_at r i + 256) (later i l)))
          ∙ ap (select (young L)) m.places;
      value = Minima-value text r m;
    }
  where
    later : (i : ℕ) → i < r.minima → length text < place_at r i + 256
    later zero l = f l
    later (suc i) l = omega (arith, f (omega arith), (Minima-Selected text r m).rises 0 (suc i) (omega arith) l)

pub Minima-aged : (text : List ℤ) (r : Ring) → Minima text r → Aged text (aged (length text) r)
Minima-aged text r m = rw aged-without (go (is_old (length text) r) refl)
  where
    go : (b : Bool) → is_old (length text) r ≡ b → Aged text (without r b)
    go true e =
        let p = and_split (ltb 0 r.minima) (leb (place_at r 0 + 256) (length text)) (T-true (is_old (length text) r) e) in
        Aged-old text r m (r.minima - 1) (omega (arith, ltb→lt 0 r.minima p.0)) (leb→le (place_at r 0 + 256) (length text) p.1)
    go false e = Aged-young text r m (λ k. oldest k (dec_lt (length text) (place_at r 0 + 256)))
      where
        oldest : 0 < r.minima → Dec (length text < place_at r 0 + 256) → length text < place_at r 0 + 256
        oldest k (yes l) = l
        oldest k (no g) =
            absurd (subst T e (and_join (ltb 0 r.minima) (leb (place_at r 0 + 256) (length text)) (lt→ltb 0 r.minima k)
            (le→leb (place_at r 0 + 256) (length text) (omega (arith)))))

-- the open minima of the text that are young, by their places
pub Aged-Selected : (text : List ℤ) (a : Ring) → Aged text a → Selected (λ i. is_listed text i && young (length text) i) (length text) a.minima (place_at a)
unfolding open_places
Aged-Selected text a g =
    selected (λ i. is_listed text i && young (length text) i) (length text) a.minima (place_at a)
    (g.places ∙ select-select (is_listed text) (young (length text)) (tabulate (length text) (λ i. i)))

-- their values never fall
pub Aged-rise : (text : List ℤ) (a : Ring) → Aged text a → (i j : ℕ) → i < j → j < a.minima
    → T (le_z (value_of text (place_at a i)) (value_of text (place_at a j)))
Aged-rise text a g i j h k =
    let s = Aged-Selected text a g in
    let p = and_split (is_listed text (place_at a i)) (young (length text) (place_at a i)) (s.passes i (omega arith)) in
    let q = and_split (leb (length text) (place_at a i + 256)) (is_open text (place_at a i)) p.0 in
    open_later text (place_at a i) (place_at a j) q.1 (s.rises i j h k) (s.below j k)

-- they are at most 255
pub Aged-count : (text : List ℤ) (a : Ring) → Aged text a → a.minima ≤ 255
Aged-count text a g =
    let s = Aged-Selected text a g in
    let c : length text - 255 + a.minima ≤ length text = rising_count a.minima (place_at a) (length text - 255) (length text) (omega arith)
    (λ i h. (recent i h, s.below i h)) (λ i h. s.rises i (suc i) (omega arith) h) in
    omega (arith, c)
  where
    recent : (i : ℕ) → i < a.minima → length text - 255 ≤ place_at a i
    recent i h =
        let p = and_split (is_listed text (place_at a i)) (young (length text) (place_at a i)) ((Aged-Selected text a g).passes i h) in
        omega (arith, leb→le (suc (length text)) (place_at a i + 256) p.1)
