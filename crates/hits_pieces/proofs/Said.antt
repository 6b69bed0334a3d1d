-- What is said first: of an input that is none, of a refusal, and the header.
use Rattle.std.specs.Prelude.{◌≡◌, ◌∷◌, ◌++◌, ◌+◌, ◌-◌, ◌≤◌, ◌<◌}
use Rattle.lists.proofs.Prelude.{◌∙◌, ap, ap₂, sym, refl, subst, true, false, Option, None, Some, List, [], append_assoc, flatten, ℕ}
use Rattle.lists.proofs.Prelude.{ℤ, length, length-append, length-take, take, drop, take-append_seam, drop-append_seam, drop-drop, ne_eqb, arith}
use Rattle.hits_input.specs.Input.{Input, read_input}
use Rattle.hits_input.specs.declared.InputSize.{InputSize}
use Rattle.hits_input.specs.Read.{ends_of, HasInput, IsRead}
use Rattle.hits_input.proofs.Fits.{front_ends, front_text}
use Rattle.hits_output.specs.Output.{header, refused_line, bad_line}
use Rattle.hits_calls.specs.Prepared.{parts_of, make_set, make_both}
use Rattle.hits_printed.specs.Pieces.{first_piece, text_for}
use Rattle.hits_pieces.specs.declared.first.First.{First}
use Rattle.hits_pieces.specs.Said.{IsSaid, piece_for, IsFirst}

-- ---- set and automaton are made

module _ (xss : List (List ℤ)) (set automaton out : List ℕ) (size r : ℕ) (e : r ≡ (make_both xss set automaton).0) where
  pub said_refused : (n : ℕ) {last : List ℕ} → 0 < r → n ≡ length (refused_line r) → last ≡ refused_line r ++ drop (length (refused_line r)) out
      → IsSaid (piece_for xss set automaton) size out last (record { bytes = n; more = false; size = size })
  said_refused n h l w =
      rw (sym e, ne_eqb r 0 (λ q. let y : ⊥ = omega arith in y)) (record { bytes = l; text = w; more = refl; size = refl })

  pub said_header : (n : ℕ) {last : List ℕ} → r ≤ 0 → n ≡ length header → last ≡ header ++ drop (length header) out
      → IsSaid (piece_for xss set automaton) size out last (record { bytes = n; more = true; size = size })
  said_header n h l w =
      let z : (make_both xss set automaton).0 ≡ 0 = omega (arith, e) in
      rw z (record { bytes = l; text = w; more = refl; size = refl })

-- ---- the input is read

-- the patterns whose values lie one after the other are cut apart by their ends
parts_ends : (ps : List (List ℤ)) (from : ℕ) (values rest : List ℤ) → drop from values ≡ flatten ps ++ rest → parts_of from (ends_of from ps) values ≡ ps
unfolding parts_of ends_of flatten
parts_ends [] from values rest e = refl
parts_ends (p ∷ ps) from values rest e =
    let n : from + length p - from ≡ length p = omega arith in
    let s : drop from values ≡ p ++ (flatten ps ++ rest) = e ∙ append_assoc p (flatten ps) rest in
    ap₂ ◌∷◌
    (ap₂ (λ (k : ℕ) (l : List ℤ). take k l) n s ∙ take-append_seam p (flatten ps ++ rest))
    (parts_ends ps (from + length p) values rest
    (sym (drop-drop (length p) from values) ∙ ap (drop (length p)) s ∙ drop-append_seam p (flatten ps ++ rest)))

pub first_good : (bytes : List ℕ) {set automaton out set_after automaton_after out_after : List ℕ} {values₀ text₀ values text : List ℤ}
    {ends₀ ends : List ℕ} {k n : ℕ} {r : First}
    (i : Input) → read_input bytes ≡ Some i → HasInput i values₀ ends₀ text₀ values ends text k n
    → IsSaid (piece_for (parts_of 0 (take k ends) values) set automaton) n out out_after r
    → set_after ≡ (make_set (parts_of 0 (take k ends) values) set).1
    → automaton_after ≡ (make_both (parts_of 0 (take k ends) values) set automaton).1
    → IsFirst (read_input bytes) set automaton out text set_after automaton_after out_after r
first_good bytes {set} {automaton} {out} {set_after} {automaton_after} {out_after} {values₀} {text₀} {values} {text} {ends₀} {ends} {k} {n} {r} i e h s a b =
    let p : parts_of 0 (take k ends) values ≡ i.patterns =
    ap (λ (es : List ℕ). parts_of 0 es values) (front_ends h)
    ∙ parts_ends i.patterns 0 values (drop (length (flatten i.patterns)) values₀) h.all_values in
    subst (λ (o : Option Input). IsFirst o set automaton out text set_after automaton_after out_after r) (sym e)
    (record {
      said =
          subst (λ (m : ℕ). IsSaid (piece_for i.patterns set automaton) m out out_after r) h.size
          (subst (λ (xss : List (List ℤ)). IsSaid (piece_for xss set automaton) n out out_after r) p s);
      values = ap (λ (m : ℕ). take m text) (sym h.size) ∙ front_text h;
      patterns = a ∙ ap (λ (xss : List (List ℤ)). (make_set xss set).1) p;
      nodes = b ∙ ap (λ (xss : List (List ℤ)). (make_both xss set automaton).1) p;
    })

pub bad_read : (bytes : List ℕ) (values₀ : List ℤ) (ends₀ : List ℕ) (text₀ values : List ℤ) (ends : List ℕ) (text : List ℤ) {parsed : Option InputSize}
    → parsed ≡ None → IsRead bytes values₀ ends₀ text₀ values ends text parsed → read_input bytes ≡ None
bad_read bytes values₀ ends₀ text₀ values ends text e r = subst (IsRead bytes values₀ ends₀ text₀ values ends text) e r

pub first_bad : (bytes : List ℕ) {set automaton out out_after : List ℕ} {text : List ℤ} (n : ℕ) → read_input bytes ≡ None → n ≡ length bad_line
    → out_after ≡ bad_line ++ drop (length bad_line) out
    → IsFirst (read_input bytes) set automaton out text set automaton out_after (record { bytes = n; more = false; size = 0 })
first_bad bytes {set} {automaton} {out} {out_after} {text} n e l w =
    subst (λ (o : Option Input). IsFirst o set automaton out text set automaton out_after (record { bytes = n; more = false; size = 0 })) (sym e)
    (record { said = record { bytes = l; text = w; more = refl; size = refl }; values = refl; patterns = refl; nodes = refl })

-- ---- what a caller needs

-- the piece lies in the buffer, and the values that are to be searched in their array
pub first_within : {o : Option Input} {set automaton out set_after automaton_after out_after : List ℕ} {text : List ℤ} {r : First}
    → IsFirst o set automaton out text set_after automaton_after out_after r → (r.bytes ≤ length out_after) × (r.size ≤ length text)
first_within {o} {set} {automaton} {out} {set_after} {automaton_after} {out_after} {text} {r} f =
    let q = (first_piece o set automaton).text in
    let t = text_for o in (
      omega (arith, f.said.bytes, ap length f.said.text ∙ length-append q (drop (length q) out)),
      omega (arith, f.said.size, sym (length-take (length t) text) ∙ ap length f.values),
    )
