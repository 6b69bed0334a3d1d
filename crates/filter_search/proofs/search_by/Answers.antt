-- No place has more hits than there are patterns, so an array with two words for every pattern at
-- every place takes every list.
use Rattle.std.specs.Prelude.{◌*◌, ◌≤◌}
use Rattle.lists.proofs.Prelude.{◌∙◌, sym, refl, length, arith, le-leb, leb-true}
use Rattle.pattern_set.proofs.IsSet.{set_good}
use Rattle.matching.specs.Matching.{hits}
use Rattle.filter_windows.specs.Patterns.{patterns}
use Rattle.filter_passes.proofs.Lists.{hits_count}
use Rattle.filter_search.proofs.Answers.{list_found}
use Rattle.filter_search.proofs.search_by.Goals.{Then-takes_all}
use Rattle.filter_search.proofs.search_by.Goals as goal

-- the list fits
room : (c : Then-takes_all) → 2 * length (hits (patterns c.args.tables.now.tables) c.args.text.now) ≤ length c.args.out.now
room c =
    let t = c.args.tables.now.tables in
    let n = length c.args.text.now in
    let all : 2 * (n * length (patterns t)) ≤ length c.args.out.now = leb-true _ _ (sym c.takes_all.ensures ∙ c.if-takes_all.true) in
    omega (arith, all, hits_count (patterns t) c.args.text.now n (set_good t.windows.set.now t.windows.good) refl)

pub one_pass-counts-requires : goal.one_pass-counts-requires
one_pass-counts-requires c =
    let fits = room (goal.at.one_pass-counts-requires c).Then-takes_all in
    record {
      text_len_bound = (c.requires.text_len_bound.0, fits);
      text_in_bounds = omega (arith, fits, c.requires.text_len_bound.1);
    }

pub returns-then-takes_all : goal.returns-then-takes_all
returns-then-takes_all c =
    let a = c.args in
    let w = c.one_pass-counts.ensures in
    let e =
    list_found (patterns a.tables.now.tables) a.text.now a.out.now a.rises.now (le-leb _ _ (room (goal.at.returns-then-takes_all c).Then-takes_all))
    c.requires.text_len_bound.1 _ _ _ _ w.hits_value w.candidates_value w.out_after w.rises_after in
    record { result_value = e.0; out_after = e.1.0; rises_after = e.1.1 }
