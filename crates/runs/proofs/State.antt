-- A state of a search over a text: where it is, and the values that it keeps.
use Rattle.std.specs.Prelude.{◌≡◌, ◌++◌, ◌%◌, ◌≤◌, ◌<◌}
use Rattle.lists.proofs.Prelude.{◌∙◌, ap, sym, subst, ap₂, List, [], ℕ, ℤ, T, length, take, arith}
use Rattle.lists.proofs.Tests.{and_join}
use Rattle.answers.specs.declared.SearchState.{SearchState}
use Rattle.answers.specs.Told.{new_search}
use Rattle.pattern_set.specs.PatternSet.{PatternSet, good_set}
use Rattle.search_model.specs.Recent.{keeping, good_recent}
use Rattle.search_model.specs.Search.{Position, position_of, state_at, good_position, good_state, Called, state_after}
use Rattle.runs.specs.ReferenceRun.{recent_of}
use Rattle.runs.proofs.Step.{Represents, new-Represents, Represents-good}
use Rattle.runs.proofs.Recent.{recent_of-keeping, recent_of_new, recent_good}

pub record Stands (ps : PatternSet) (text : List ℤ) (st : SearchState) : Type 0 where
  pub position : Represents ps text (position_of st)
  pub recent : st.recent ≡ recent_of text

-- a position whose ring starts at a slot is that of the state there
position_back : (p : Position) (recent : List ℤ) → p.ring.first % 256 ≡ p.ring.first → position_of (state_at p recent) ≡ p
position_back p recent e = λ i. record {
  taken = p.taken;
  node = p.node;
  ring = record { minima = p.ring.minima; first = e i; places = p.ring.places; values = p.ring.values };
}

module _ (ps : PatternSet) (g : T (good_set ps)) (z : 0 < length ps) where
  -- a new search is over the empty text
  pub Stands-new : Stands ps [] new_search
  Stands-new = record { position = new-Represents ps g z; recent = recent_of_new }

  -- such a state passes check 8
  pub Stands-good : (text : List ℤ) (st : SearchState) → Stands ps text st → length text ≤ 1048576 → T (good_state ps st)
  unfolding good_state
  Stands-good text st s l =
      let p = position_of st in
      and_join (good_position ps p) (good_recent st.taken p.ring st.recent) (Represents-good ps g z text p s.position l)
      (subst (λ (recent : List ℤ). T (good_recent st.taken p.ring recent)) (sym s.recent)
      (subst (λ (n : ℕ). T (good_recent n p.ring (recent_of text))) (sym s.position.count) (recent_good text p.ring s.position.minima)))

  -- the state after a call that took the values vs of those that it was handed
  pub Stands-after : (text xs vs : List ℤ) (st : SearchState) (c : Called Position) → Stands ps text st → Represents ps (text ++ vs) c.state
      → vs ≡ take c.taken xs → Stands ps (text ++ vs) (state_after st xs c)
  Stands-after text xs vs st c s r e = record {
    position =
        subst (Represents ps (text ++ vs)) (sym (position_back c.state (state_after st xs c).recent (let l = r.minima.first in omega arith))) r;
    recent =
        ap (keeping st.taken st.recent) (sym e)
        ∙ ap₂ (λ (n : ℕ) (recent : List ℤ). keeping n recent vs) s.position.count s.recent
        ∙ recent_of-keeping vs text;
  }
