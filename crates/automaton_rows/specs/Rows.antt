-- The row of a node while it is made: from that of its failure link, by one child after the other.
use Rattle.std.specs.Prelude.{◌≡◌, ◌&&◌, ◌∷◌, ◌++◌, ◌+◌, ◌<◌}
use Rattle.lists.specs.Prelude.{Bool, cond, List, [], ℕ, ltb, length, get_or, set}
use Rattle.cartesian.specs.Cartesian.{cut}
use Rattle.pattern_set.specs.PatternSet.{PatternSet}
use Rattle.matching.specs.Matching.{is_head}
use Rattle.automaton_model.specs.Automaton.{head_of, node_of, first_child, entry_of}

-- eight words, of which word x is so
abbrev pub Eight : (ℕ → ℕ) → List ℕ → Type 0
Eight word row = (length row ≡ 8) × ((x : ℕ) → x < 8 → get_or row x 0 ≡ word x)

-- what a step of distance x finds from node f, with one attempt more
abbrev pub one_more : PatternSet → ℕ → ℕ → ℕ
one_more ps f x = entry_of ps f x + 65536

-- the head of the child that distance x leads to from node n, and its node
abbrev pub child_head : PatternSet → ℕ → ℕ → List ℕ
child_head ps n x = head_of ps n ++ (x ∷ [])

abbrev pub child_node : PatternSet → ℕ → ℕ → ℕ
child_node ps n x = node_of ps (child_head ps n x)

-- is it one of the first so many children of node n
abbrev pub is_among : PatternSet → ℕ → ℕ → ℕ → Bool
is_among ps n count x = is_head ps (child_head ps n x) && ltb (child_node ps n x) (first_child ps n + count)

-- the word for distance x at node n, of which so many children are put: the child where it is one
-- of these, else what node f finds
abbrev pub word_with : PatternSet → ℕ → ℕ → ℕ → ℕ → ℕ
word_with ps n f count x = cond (is_among ps n count x) (child_node ps n x + 65536) (one_more ps f x)

-- the row with the word e for distance v, if it has a word for it
abbrev pub with_word : ℕ → ℕ → List ℕ → List ℕ
with_word v e row = cond (ltb v 8) (set row v e) row

-- the row whose word for each distance is that for the distance cut to the depth
abbrev pub CutRow : ℕ → List ℕ → List ℕ → Type 0
CutRow depth before after = Eight (λ x. get_or before (cut depth x) 0) after
