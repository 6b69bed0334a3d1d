-- `search_text` meets its contract: a text that is too long or a second array that is too short is
-- refused, and another text is searched.
use Rattle.std.specs.Prelude.{◌≡◌, ◌*◌}
use Rattle.lists.proofs.Prelude.{◌∙◌, sym, false, length, ltb-false, arith}
use Rattle.entries.specs.Entries.{first_met, set_conditions, is_short}
use Rattle.entries.proofs.Searchable.{set_unmet}
use Rattle.filter_search.proofs.Answers.{entry_long, entry_short, entry_searched}
use Rattle.filter_search.proofs.search_text.Goals.{Else-is_short, Start}
use Rattle.filter_search.proofs.search_text.Goals as goal

-- the set may be searched
unmet : (s : Start) → first_met (set_conditions s.args.set.now) ≡ 0
unmet s = set_unmet s.args.set.now s.requires.0 s.requires.1

-- the second array is long enough
long : (c : Else-is_short) → is_short c.args.hits.now c.args.rises.now ≡ false
long c = sym c.is_short.ensures ∙ c.if-is_short.false

pub returns-then-text-gt1048576 : goal.returns-then-text-gt1048576
returns-then-text-gt1048576 c =
    let e =
    entry_long c.args.set.now c.args.text.now c.args.hits.now c.args.rises.now (unmet (goal.at.returns-then-text-gt1048576 c).Start)
    (omega (arith, c.if-text-gt1048576.true)) in
    record {
      result_value = e.0;
      hits_after = e.1;
      rises_after = e.2;
    }

pub returns-then-is_short : goal.returns-then-is_short
returns-then-is_short c =
    let e =
    entry_short c.args.set.now c.args.text.now c.args.hits.now c.args.rises.now (unmet (goal.at.returns-then-is_short c).Start) c.if-text-gt1048576.false
    (sym c.is_short.ensures ∙ c.if-is_short.true) in
    record {
      result_value = e.0;
      hits_after = e.1;
      rises_after = e.2;
    }

pub search-requires : goal.search-requires
search-requires c =
    let a = c.args in
    record {
      set = c.requires.0;
      text_len_bound = (c.if-text-gt1048576.false, ltb-false (2 * length a.rises.now) (length a.hits.now) (long (goal.at.search-requires c).Else-is_short));
    }

pub returns : goal.returns
returns c =
    let a = c.args in
    let r =
    entry_searched a.set.now a.text.now a.hits.now a.rises.now (unmet (goal.at.returns c).Start) c.if-text-gt1048576.false
    (long (goal.at.returns c).Else-is_short) _ _ _
    (c.search.ensures.result_value, (c.search.ensures.out_after, c.search.ensures.rises_after)) in
    record {
      result_value = r.0;
      hits_after = r.1;
      rises_after = r.2;
    }
