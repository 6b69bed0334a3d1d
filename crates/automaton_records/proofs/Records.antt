-- The record of a node by the numbers that the code finds.
use Rattle.std.specs.Prelude.{◌≡◌, ◌∷◌, ◌-◌}
use Rattle.lists.proofs.Prelude.{[], ℕ, length, get_or}
use Rattle.pattern_set.specs.PatternSet.{PatternSet}
use Rattle.matching.specs.Matching.{failure, chain}
use Rattle.automaton_model.specs.Automaton.{head_of, node_of, ends_at, first_end, children, first_child, record_of}
use Rattle.automaton_lookup.specs.Places.{first_place}

pub record_is : (ps : PatternSet) (n depth label link output first count place ends : ℕ)
    → depth ≡ length (head_of ps n) → label ≡ get_or (head_of ps n) (length (head_of ps n) - 1) 0 → link ≡ node_of ps (failure ps (head_of ps n))
    → output ≡ node_of ps (first_end ps (chain ps (head_of ps n)))
    → first ≡ first_child ps n → count ≡ children ps n → place ≡ first_place ps (head_of ps n) → ends ≡ ends_at ps (head_of ps n)
    → depth ∷ label ∷ link ∷ output ∷ first ∷ count ∷ place ∷ ends ∷ [] ≡ record_of ps n
unfolding record_of
record_is ps n depth label link output first count place ends a b c d e f g h = λ i. a i ∷ b i ∷ c i ∷ d i ∷ e i ∷ f i ∷ g i ∷ h i ∷ []
