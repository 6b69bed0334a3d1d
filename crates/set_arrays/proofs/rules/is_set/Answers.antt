-- Where one of the rules is broken no good set's words stand there, and where none is they do.
use Rattle.lists.proofs.Prelude.{rules}
use Rattle.set_arrays.proofs.SetRules.{is_set_when, no_set}
use Rattle.set_arrays.proofs.rules.is_set.Goals as goal

pub returns-then-not-sizes_fit : goal.returns-then-not-sizes_fit
returns-then-not-sizes_fit c = no_set c.args.words.now (λ f. let t = c.sizes_fit.ensures.1 f.offsets.sizes in search rules)

pub returns-then-words-ne0 : goal.returns-then-words-ne0
returns-then-words-ne0 c = no_set c.args.words.now (λ f. c.if-words-ne0.true f.offsets.first)

pub returns-then-not-offsets_rise : goal.returns-then-not-offsets_rise
returns-then-not-offsets_rise c = no_set c.args.words.now (λ f. let t = c.offsets_rise.ensures.1 f.offsets.rise in search rules)

pub returns-then-words-k : goal.returns-then-words-k
returns-then-words-k c = no_set c.args.words.now (λ f. c.if-words-k.true f.offsets.last)

pub returns : goal.returns
returns c =
    is_set_when c.args.words.now c.lists_realizable.result
    (λ t. record {
      offsets = record {
        sizes = c.sizes_fit.ensures.0 c.if-not-sizes_fit.false;
        first = c.if-words-ne0.false;
        rise = c.offsets_rise.ensures.0 c.if-not-offsets_rise.false;
        last = c.if-words-k.false;
      };
      lists = c.lists_realizable.ensures.0 t;
    })
    (λ f. c.lists_realizable.ensures.1 f.lists)
