-- The demands hold: each part is a law of the crate of its topic. The run theorem of demand 3 is
-- proved in Run.antt.
use Rattle.std.specs.Prelude.{◌≡◌, ◌++◌, ◌*◌, ◌<◌}
use Rattle.lists.proofs.Prelude.{ap, refl, ℕ, zero, suc, length, drop, arith}
use Rattle.entries.specs.Entries.{first_met, unless, stream_conditions, stream_call}
use Rattle.entries.proofs.Searchable.{searched_iff}
use Rattle.entries.proofs.Stream.{accepted_room}
use Rattle.pattern_set.specs.PatternSet.{patterns_of}
use Rattle.pattern_set.proofs.IsSet.{IsSet-iff}
use Rattle.ranking.proofs.IsRank.{is_rank_iff}
use Rattle.search_model.specs.Search.{position_of, step, state_after}
use Rattle.search_model.proofs.Feed.{feed_takes, feed_rule}
use Rattle.cartesian.proofs.Matching.{trees_iff_distances}
use Rattle.cartesian.proofs.TreeOf.{tree_of-distances}
use Rattle.realization.proofs.Realizable.{realizable_iff}
use Rattle.realization.proofs.LeastRealization.{least_realization_least}
use Rattle.matching.proofs.HitsOrder.{hits_list}
use Rattle.runs.specs.Demands.{Demand1, Demand2, Demand3}
use Rattle.runs.proofs.Run.{run_theorem}

-- where a call is refused, what was is kept
kept : {A : Type 0} (n : ℕ) (done before : A) → 0 < n → unless n done before ≡ before
kept zero done before h = absurd (let y : ⊥ = omega arith in y)
kept (suc n) done before h = refl

pub demand1 : Demand1
demand1 = record {
  tells = λ zeros e h. ap (λ c. (first_met e.conditions, c)) (kept (first_met e.conditions) e.counts zeros h);
  leaves = λ e array h. kept (first_met e.conditions) (e.result ++ drop (length e.result) array) array h;
  hands_back = λ ws automaton out st xs rises h.
      kept (first_met (stream_conditions ws automaton st xs out rises)) (state_after st xs (stream_call ws st xs out)) st h;
  lists = realizable_iff;
  codes = is_rank_iff;
  sets = IsSet-iff;
  searched = searched_iff;
}

pub demand2 : Demand2
demand2 = record { trees = trees_iff_distances; stored = tree_of-distances; least = least_realization_least; listed = hits_list }

pub demand3 : Demand3
demand3 = record {
  run = run_theorem;
  taking = λ ws automaton out st xs rises e. record {
    some = feed_takes (step (patterns_of ws)) (2 * length (patterns_of ws)) (position_of st) (length out) xs (accepted_room ws automaton st xs out rises e);
    rule = feed_rule (step (patterns_of ws)) (2 * length (patterns_of ws)) (position_of st) (length out) xs;
  };
}
