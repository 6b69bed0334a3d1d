-- The list is written only where it is known to fit.
use Rattle.std.specs.Prelude.{◌≡◌, ◌*◌}
use Rattle.lists.proofs.Prelude.{◌∙◌, sym, true, leb, length, not-false, leb-true}
use Rattle.matching.specs.Matching.{hits}
use Rattle.filter_windows.specs.Patterns.{patterns}
use Rattle.filter_search.proofs.Answers.{list_refused, rises_room, list_found}
use Rattle.filter_search.proofs.two_passes.Goals.{Else-not-list_fits}
use Rattle.filter_search.proofs.two_passes.Goals as goal

-- it fits
room : (c : Else-not-list_fits) → leb (2 * length (hits (patterns c.args.tables.now.tables) c.args.text.now)) (length c.args.out.now) ≡ true
room c = sym c.list_fits.ensures ∙ not-false _ c.if-not-list_fits.false-raw

pub returns-then-not-list_fits : goal.returns-then-not-list_fits
returns-then-not-list_fits c =
    let a = c.args in
    let e = list_refused (patterns a.tables.now.tables) a.text.now a.out.now a.rises.now (sym c.list_fits.ensures ∙ c.if-not-list_fits.true) in
    record { result_value = e.0; out_after = e.1.0; rises_after = e.1.1 }

pub write_hits-found-requires : goal.write_hits-found-requires
write_hits-found-requires c =
    let a = c.args in
    let fits = room (goal.at.write_hits-found-requires c).Else-not-list_fits in
    record {
      text_len_bound = c.requires.text_len_bound.0;
      hits_marked = c.first_pass-counted.ensures.hits_marked;
      text_in_bounds = leb-true _ _ fits;
      text_in_bounds_2 = rises_room (patterns a.tables.now.tables) a.text.now a.out.now a.rises.now fits c.requires.text_len_bound.1;
    }

pub returns : goal.returns
returns c =
    let a = c.args in
    let w = c.write_hits-found.ensures in
    let e =
    list_found (patterns a.tables.now.tables) a.text.now a.out.now a.rises.now (room (goal.at.returns c).Else-not-list_fits) c.requires.text_len_bound.1 _ _ _ _
    w.value c.first_pass-counted.ensures.candidates_value w.out_after w.rises_after in
    record { result_value = e.0; out_after = e.1.0; rises_after = e.1.1 }
