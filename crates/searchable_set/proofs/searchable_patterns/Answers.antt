-- Where no condition is met, the set may be searched: it is good, holds a pattern, and none of one
-- value.
use Rattle.std.specs.Prelude.{◌≡◌}
use Rattle.lists.proofs.Prelude.{◌∙◌, T, ap, sym, subst, length}
use Rattle.lists.proofs.Tests.{positive}
use Rattle.pattern_set.specs.PatternSet.{PatternSet, holds_one_value, may_search, patterns_of}
use Rattle.pattern_set.proofs.IsSet.{set_good}
use Rattle.pattern_set.proofs.MaySearch.{may_search_is}
use Rattle.entries.proofs.Searchable.{set_unmet}
use Rattle.searchable_set.proofs.searchable_patterns.Goals as goal

pub returns : goal.returns
returns c =
    let ws = c.args.set.now in
    let e = c.in_ok-patterns.ensures in
    let q = e.1.1 in
    let some : length (patterns_of ws) ≡ 0 → ⊥ = λ z. c.if-len-eq0.false (c.len.ensures.count ∙ ap (λ (ps : PatternSet). length ps) q ∙ z) in
    let may = may_search_is (patterns_of ws) (set_good ws e.1.0) (positive (length (patterns_of ws)) some)
    (sym (ap (λ (ps : PatternSet). holds_one_value ps) q) ∙ sym c.holds_one_value.ensures ∙ c.if-holds_one_value.false) in
    (set_unmet ws e.1.0 may, (e.1.0, subst (λ (ps : PatternSet). T (may_search ps)) (sym q) may, q))
