-- THE CHECK OF A WINDOW: the part of the text that ends at a place and is as long as a pattern that
-- is likely there passes the comparisons that are left to the check exactly if the pattern has a
-- hit there.
use Rattle.std.specs.Prelude.{◌≡◌, ◌&&◌, ◌++◌, ◌+◌, ◌-◌, ◌≤◌, ◌<◌}
use Rattle.lists.proofs.Prelude.{◌∙◌, ap, sym, subst, ap₂, Bool, List, ℕ, suc, ℤ, T, length, take, drop, length-drop}
use Rattle.lists.proofs.Prelude.{length-take-le, take-add, drop-append_seam, min-le_right, arith, le-leb, last_of}
use Rattle.lists.proofs.Parts.{last_of-last_of}
use Rattle.gaps.specs.Gaps.{holds_gap}
use Rattle.realization.specs.Realization.{realizable}
use Rattle.fingerprint.specs.Fingerprint.{fingerprint}
use Rattle.global_parents.specs.GlobalParents.{global_parents}
use Rattle.matching.specs.Matching.{has_tree}
use Rattle.filter_plan.specs.Plan.{pattern_fingerprint, own_length, is_likely, is_hit}
use Rattle.filter_plan.proofs.Checks.{passes_hit, likely_fits, likely_fingerprint}
use Rattle.filter_checks.specs.Comparisons.{passes_words}
use Rattle.filter_checks.proofs.Passing.{words_pass}

-- the window of m values that ends at place p
window_is : (text : List ℤ) (m p : ℕ) → m ≤ suc p → p < length text → take m (drop (suc p - m) text) ≡ last_of m (take (suc p) text)
window_is text m p h l =
    let a = suc p - m in
    let s : suc p ≡ a + m = omega arith in
    let front : length (take a text) ≡ a = length-take-le a text (omega arith) in
    let len : length (take (suc p) text) ≡ suc p = length-take-le (suc p) text l in
    let e : take (suc p) text ≡ take a text ++ take m (drop a text) = ap (λ (n : ℕ). take n text) s ∙ take-add a m text in
    sym (ap (λ (n : ℕ). drop (n - m) (take (suc p) text)) len
    ∙ ap (drop a) e
    ∙ ap (λ (n : ℕ). drop n (take a text ++ take m (drop a text))) (sym front)
    ∙ drop-append_seam (take a text) (take m (drop a text)))

-- the part of the text from b on, of m values, where these are the window of a likely pattern d
module _ (text : List ℤ) (p : ℕ) (d : List ℕ) (lt : p < length text) (likely : T (is_likely (take (suc p) text) d)) where
  abbrev front : List ℤ
  front = take (suc p) text

  front-length : length front ≡ suc p
  front-length = length-take-le (suc p) text lt

  -- the window lies within the text
  pub window_fits : length d ≤ suc p
  window_fits = subst (λ (n : ℕ). length d ≤ n) front-length (likely_fits front d likely).0

  module _ (b m : ℕ) (eb : b ≡ suc p - length d) (em : m ≡ length d) where
    pub window_length : length (take m (drop b text)) ≡ length d
    window_length = rw em (length-take-le (length d) (drop b text) (rw length-drop (omega (arith, eb, window_fits, lt))))

    pub check_is : T (realizable d) → length d ≤ 256 → passes_words (global_parents d) (take m (drop b text)) ≡ is_hit front d
    unfolding is_hit
    check_is r short =
        let w : take m (drop b text) ≡ last_of (length d) front =
        ap₂ (λ (x y : ℕ). take x (drop y text)) em eb ∙ window_is text (length d) p window_fits lt in
        let own : fingerprint (last_of (own_length d) (take m (drop b text))) ≡ pattern_fingerprint (own_length d) d =
        ap (λ (v : List ℤ). fingerprint (last_of (own_length d) v)) w
        ∙ ap fingerprint (last_of-last_of (own_length d) (length d) front (min-le_right 17 (length d)))
        ∙ likely_fingerprint front d likely in
        words_pass d r short (take m (drop b text)) window_length own
        ∙ passes_hit d (take m (drop b text)) r (ap holds_gap w ∙ (likely_fits front d likely).1) window_length
        ∙ ap (λ (v : List ℤ). has_tree v d) w
        ∙ sym (ap (λ (v : Bool). v && has_tree (last_of (length d) front) d) (le-leb (length d) (length front) (likely_fits front d likely).0))
