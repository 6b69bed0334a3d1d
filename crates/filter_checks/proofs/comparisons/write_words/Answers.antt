-- The words with parents to the left are written behind the word of the counts, and those with
-- parents to the right behind them.
use Rattle.std.specs.Prelude.{◌≡◌, ◌∷◌, ◌++◌, ◌+◌, ◌-◌, ◌*◌, ◌≤◌}
use borrow.Rule.Slice.PartMut.{put_mid}
use Rattle.lists.proofs.Prelude.{◌∙◌, ap, sym, refl, false, true, ℕ, List, length, take, drop, length-append, length-take-le, take-append-drop, arith}
use Rattle.filter_checks.specs.Comparisons.{side_words}
use Rattle.filter_checks.proofs.Words.{behind_front, words_put}
use Rattle.filter_checks.proofs.comparisons.write_words.Goals as goal

pub returns : goal.returns
returns c =
    let old = c.args.out.now in
    let p = c.args.parents.now in
    let f = c.saturating_sub-from.result in
    let L = side_words false f p in
    let R = side_words true f p in
    let lefts = c.add_side-lefts in
    let rights = c.add_side-rights in
    let out1 = put_mid 1 (length old - 1) old lefts.new.out in
    let n = 1 + lefts.result in
    let out2 = put_mid n (length out1 - n) out1 rights.new.out in
    let some : 1 ≤ length old = omega (arith, c.requires.in_bounds.0, c.requires.parents_in_bounds.1) in
    let one : length (take 1 old) ≡ 1 = length-take-le 1 old some in
    let start : old ≡ take 1 old ++ drop (length (take 1 old)) old = sym (ap (λ (k : ℕ). take 1 old ++ drop k old) one ∙ take-append-drop 1 old) in
    let first : out1 ≡ (take 1 old ++ L) ++ drop (length (take 1 old ++ L)) old =
    behind_front (take 1 old) L old old lefts.new.out 1 (length old - 1) start (sym one) refl lefts.ensures.out_after in
    let second : out2 ≡ ((take 1 old ++ L) ++ R) ++ drop (length ((take 1 old ++ L) ++ R)) old =
    behind_front (take 1 old ++ L) R old out1 rights.new.out n (length out1 - n) first
    (omega (arith, one, length-append (take 1 old) L, lefts.ensures.value)) refl rights.ensures.out_after in
    let x = lefts.result + 256 * rights.result in
    let e : x ≡ length L + 256 * length R = omega (arith, lefts.ensures.value, rights.ensures.value) in
    let words : ℕ → List ℕ = λ f. (length (side_words false f p) + 256 * length (side_words true f p)) ∷ (side_words false f p ++ side_words true f p) in
    let from : f ≡ length p - 17 = omega (arith, c.saturating_sub-from.ensures) in
    words_put old L R out2 x some second
    ∙ ap (λ (y : ℕ). (y ∷ (L ++ R)) ++ drop (length (y ∷ (L ++ R))) old) e
    ∙ ap (λ (f : ℕ). words f ++ drop (length (words f)) old) from
