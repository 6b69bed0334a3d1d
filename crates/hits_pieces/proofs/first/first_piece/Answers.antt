-- `first_piece` meets its contract: the patterns that were read are those that are prepared
-- (`first_good`), and an input that is none is said to be bad (`first_bad`).
use Rattle.std.specs.Prelude.{◌≡◌, ◌≤◌}
use Rattle.lists.proofs.Prelude.{length, arith}
use Rattle.hits_input.proofs.Fits.{good_read, count_fits}
use Rattle.hits_pieces.proofs.Said.{bad_read, first_good, first_bad}
use Rattle.lists.proofs.Prelude.{rules}
use Rattle.hits_pieces.proofs.first.first_piece.Goals as goal

pub say_prepared-requires : goal.say_prepared-requires
say_prepared-requires c =
    let g = good_read _ _ _ _ _ _ _ c.in-Some.size c.in-Some.is c.read_input.ensures in
    let f = count_fits g.1.1 _ g.1.0 in
    let l : length c.read_input.new.ends ≡ 1023 = search rules in
    (search rules, let h : c.in-Some.size.patterns ≤ length c.read_input.new.ends = omega (arith, f, l) in h)

pub returns-in-Some : goal.returns-in-Some
returns-in-Some c =
    let g = good_read _ _ _ _ _ _ _ c.in-Some.size c.in-Some.is c.read_input.ensures in
    first_good c.args.bytes.now g.0 g.1.0 g.1.1 c.say_prepared.ensures.said c.say_prepared.ensures.set_after c.say_prepared.ensures.automaton_after

pub returns-in-None : goal.returns-in-None
returns-in-None c =
    let b = bad_read _ _ _ _ _ _ _ c.in-None.is c.read_input.ensures in
    first_bad c.args.bytes.now c.write_bad.result b c.write_bad.ensures.value.0 c.write_bad.ensures.out_after
