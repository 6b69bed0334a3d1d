-- `keep_values` meets its contract: before each turn the values before i are kept, from the first
-- one put on. That is value 0, or the first of the last 256, which overwrite all that those before
-- them would leave.
use Rattle.std.specs.Prelude.{◌≡◌, ◌+◌, ◌%◌}
use Rattle.lists.proofs.Prelude.{arith, ap, ap₂, ◌∙◌, List, ℕ, ℤ, pos, length, get_or, set, take, take_all}
use Rattle.lists.proofs.Order.{back_i32}
use Rattle.answers.specs.declared.SearchState.{SearchState}
use Rattle.search_model.specs.Recent.{keeping}
use Rattle.recent_values.proofs.Checks.{kept_to, to_start, to_more, to_end}
use Rattle.recent_values.proofs.keep_values.Goals as goal

pub loop-i-init : goal.loop-i-init
loop-i-init c =
    ap (λ (kept : List ℤ). record c.args.search.now.state { recent = kept })
    (to_start c.args.start c.first_kept-i.result c.args.search.now.state.recent c.args.values.now c.first_kept-i.ensures.0)

pub loop-i-preserved : goal.loop-i-preserved
loop-i-preserved c =
    let st = c.args.search.now.state in
    let vs = c.args.values.now in
    let i = c.loop-i.i in
    let on : SearchState → ℤ → SearchState = λ s x. record s { recent = set s.recent ((c.args.start + i) % 256) x } in
    c.keep_value.ensures
    ∙ ap₂ on c.loop-i.invariant (back_i32 {a = get_or vs i (pos 0)} (record { sfits = omega arith }))
    ∙ ap (λ (kept : List ℤ). record st { recent = kept }) (to_more c.args.start c.first_kept-i.result st.recent vs i (omega arith) (omega arith))

pub returns : goal.returns
returns c =
    let st = c.args.search.now.state in
    let vs = c.args.values.now in
    let first = c.first_kept-i in
    let all : take (length vs) vs ≡ vs = take_all (length vs) vs (omega arith) in
    let end : c.loop-i.i ≡ length vs = omega (arith, first.ensures.0) in
    c.loop-i.invariant
    ∙ ap (λ (i : ℕ). record st { recent = kept_to c.args.start first.result st.recent vs i }) end
    ∙ ap (λ (kept : List ℤ). record st { recent = kept })
    (to_end c.args.start first.result st.recent vs (length vs) (omega arith) first.ensures.2 ∙ ap (keeping c.args.start st.recent) all)
