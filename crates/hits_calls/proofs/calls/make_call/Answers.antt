-- The words of the call's hits lie at the front of the array, and the text of these is written.
use Rattle.std.specs.Prelude.{◌≡◌}
use Rattle.std.proofs.Common.{rules}
use Rattle.lists.proofs.Prelude.{◌∙◌, ap, sym, refl, length, length-take, eqb, Bool, arith, take}
use Rattle.answers.specs.Told.{told_streamed, told_end}
use Rattle.entries.proofs.Stream.{accepted_set}
use Rattle.entries.specs.Entries.{first_met, stream_conditions, stream_call, told, stream_entry}
use Rattle.hits_calls.specs.Called.{summary, summed}
use Rattle.hits_calls.proofs.Text.{told_count, told_fit, told_below, told_lines, called_accepted}
use Rattle.hits_calls.proofs.calls.make_call.Goals.{In-Ok}
use Rattle.hits_calls.proofs.calls.make_call.Goals as goal

-- the call is accepted
accepted : (c : In-Ok)
    → first_met (stream_conditions c.args.set.now c.args.automaton.now c.args.state c.args.values.now (take c.min-room.result c.args.hits.now)
    c.args.rises.now) ≡ 0
accepted c = sym (ap (λ z. z.0) c.stream_search-s.ensures.answer_value) ∙ ap (λ a. (told_streamed a).0) c.in-Ok.is

-- and tells so many hits and attempts
tells : (c : In-Ok)
    → summed 0 (eqb (told_end c.in-Ok.p.end) 0) c.in-Ok.p.counts.hits c.in-Ok.p.counts.attempts
    ≡ summary (told (0, 0, 0, 0)
    (stream_entry c.args.set.now c.args.automaton.now c.args.state c.args.values.now (take c.min-room.result c.args.hits.now) c.args.rises.now))
tells c = sym (ap (λ a. summary (told_streamed a)) c.in-Ok.is) ∙ ap summary c.stream_search-s.ensures.answer_value

counted : (c : In-Ok)
    → c.in-Ok.p.counts.hits
    ≡ length (stream_call c.args.set.now c.args.state c.args.values.now (take c.min-room.result c.args.hits.now)).hits
counted c =
    told_count _ _ _ _ _ _ _ (accepted c) c.stream_search-s.ensures.hits_after (search rules) _ _ _ _ (tells c)

pub write_lines-bytes-requires-clause-set : goal.write_lines-bytes-requires-clause-set
write_lines-bytes-requires-clause-set c = accepted_set _ _ _ _ _ _ (accepted (goal.at.write_lines-bytes-requires-clause-set c).In-Ok)

pub write_lines-bytes-requires-clause-count_in_bounds : goal.write_lines-bytes-requires-clause-count_in_bounds
write_lines-bytes-requires-clause-count_in_bounds c =
    let w = c.stream_search-s.ensures.hits_after in (
      told_fit _ _ _ _ _ _ _ (accepted (goal.at.write_lines-bytes-requires-clause-count_in_bounds c).In-Ok) w (search rules) _ _
          (counted (goal.at.write_lines-bytes-requires-clause-count_in_bounds c).In-Ok),
      told_below _ _ _ _ _ _ _ (accepted (goal.at.write_lines-bytes-requires-clause-count_in_bounds c).In-Ok) w (search rules) _ _
          (counted (goal.at.write_lines-bytes-requires-clause-count_in_bounds c).In-Ok),
    )

pub write_lines-bytes-requires-clause-count_in_bounds_2 : goal.write_lines-bytes-requires-clause-count_in_bounds_2
write_lines-bytes-requires-clause-count_in_bounds_2 c =
    told_lines _ _ _ _ _ _ _ (accepted (goal.at.write_lines-bytes-requires-clause-count_in_bounds_2 c).In-Ok) c.stream_search-s.ensures.hits_after
    (search rules) _ c.args.out.now (counted (goal.at.write_lines-bytes-requires-clause-count_in_bounds_2 c).In-Ok)
    (simp length-take (omega (arith, c.min-room.ensures)))

pub returns-in-Ok-clause-called : goal.returns-in-Ok-clause-called
returns-in-Ok-clause-called c =
    let a = c.args in
    let p = c.in-Ok.p in
    let s = c.stream_search-s.ensures in
    called_accepted a.set.now a.automaton.now a.state a.values.now a.hits.now a.rises.now _ a.out.now _ _ _ _ c.min-room.ensures
    (omega (arith, c.min-room.ensures))
    (ap (λ (m : Bool). summed 0 m p.counts.hits p.counts.attempts) c.leaves_values.ensures ∙ tells (goal.at.returns-in-Ok-clause-called c).In-Ok)
    s.state_value s.hits_after s.rises_after _ refl (search rules) c.write_lines-bytes.ensures.value.0 c.write_lines-bytes.ensures.out_after
