-- An array that begins with the words of an automaton has all its records.
use Rattle.std.specs.Prelude.{◌≡◌, ◌+◌, ◌-◌, ◌*◌, ◌≤◌, ◌<◌}
use Rattle.lists.proofs.Prelude.{◌∙◌, ap, true, List, ℕ, length, take, length-append, take-append-le, arith, begins}
use Rattle.lists.proofs.Tests.{T-true}
use Rattle.lists.proofs.Same.{begins_iff}
use Rattle.automaton_model.specs.Automaton.{nodes, automaton_words}
use Rattle.automaton_model.proofs.Lengths.{length_automaton}
use Rattle.pattern_set.specs.PatternSet.{patterns_of, IsSet}
use Rattle.automaton_lookup.specs.Made.{Made}

pub begun : (set automaton : List ℕ) (k : ℕ) → IsSet set → k ≡ length (patterns_of set) → 0 < length (patterns_of set)
    → begins automaton (automaton_words (patterns_of set)) ≡ true
    → (m : ℕ) → m ≤ length (nodes (patterns_of set)) → Made set automaton k m
begun set automaton k g e z b m h =
    let ps = patterns_of set in
    let w = automaton_words ps in
    let r = (begins_iff automaton w).0 (T-true (begins automaton w) b) in
    let n = 2 * k + 1 + (16 * m - 8) in
    record {
      is_set = g;
      patterns = e;
      filled = z;
      within = h;
      begun = ap (take n) r.1 ∙ take-append-le n w r.0 (omega (arith, length_automaton ps));
      room = omega (arith, ap length r.1, length-append w r.0);
    }
