-- The places of the order whose patterns begin with a head.
use Rattle.std.specs.Prelude.{◌+◌, ◌≤◌, ◌<◌}
use Rattle.lists.specs.Prelude.{List, ℕ, length, select, begins, before}
use Rattle.pattern_set.specs.PatternSet.{PatternSet}
use Rattle.automaton_model.specs.Automaton.{head_of, children, first_child}

-- the first place of the order whose pattern is not before the head
abbrev pub first_place : PatternSet → List ℕ → ℕ
first_place ps h = length (select (λ p. before p h) ps)

-- how many patterns begin with a list
abbrev pub begins_at : PatternSet → List ℕ → ℕ
begins_at ps h = length (select (λ p. begins p h) ps)

-- the first place of a node's head
abbrev pub place_of : PatternSet → ℕ → ℕ
place_of ps n = first_place ps (head_of ps n)

-- the place behind the last pattern that begins with it
abbrev pub end_of : PatternSet → ℕ → ℕ
end_of ps n = first_place ps (head_of ps n) + begins_at ps (head_of ps n)

-- node n is a child of node p
abbrev pub ChildNode : PatternSet → ℕ → ℕ → Type 0
ChildNode ps p n = (first_child ps p ≤ n) × (n < first_child ps p + children ps p)
