-- Three numbers with a byte behind each are a line.
use Rattle.std.specs.Prelude.{◌∷◌, ◌++◌, ◌+◌}
use Rattle.lists.proofs.Prelude.{◌∙◌, ap, refl, [], List, ℕ, length-append, arith}
use Rattle.hits_output.specs.Output.{digits}
use Rattle.hits_output.proofs.Lines.{written, written_more, line_is}
use Rattle.hits_output.proofs.write_line.Goals as goal

pub returns-clause-out_after : goal.returns-clause-out_after
returns-clause-out_after c =
    let F = digits c.args.place ++ (32 ∷ []) in
    let G = digits c.args.number ++ (32 ∷ []) in
    let H = digits c.args.size ++ (10 ∷ []) in
    let w1 = c.write_field-a in
    let w2 = c.write_field in
    let two = written_more F G _ _ _ w1.result _ w1.ensures.out_after w1.ensures.value.0 refl w2.ensures.out_after in
    written_more (F ++ G) H _ _ _ (w1.result + w2.result) _ two (omega (arith, w1.ensures.value.0, w2.ensures.value.0, length-append F G)) refl
    c.write_field-2.ensures.out_after
    ∙ ap (λ (l : List ℕ). written l c.args.out.now) (line_is c.args.place c.args.number c.args.size)
