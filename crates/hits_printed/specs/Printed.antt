-- What the program `hits` prints for the bytes that it reads, by trees: it knows neither calls nor
-- arrays nor the automaton. Document 01: Program `hits`.
use Rattle.std.specs.Prelude.{◌||◌, ◌∷◌, ◌++◌, ◌+◌}
use Rattle.lists.specs.Prelude.{cond, Option, None, Some, List, [], map, flatten, ℕ, eqb, leb, ltb, ℤ, length}
use Rattle.gaps.specs.Gaps.{holds_gap}
use Rattle.cartesian.specs.Cartesian.{distances}
use Rattle.pattern_set.specs.PatternSet.{PatternSet, has_one_value}
use Rattle.matching.specs.Matching.{hits}
use Rattle.runs.specs.ReferenceRun.{attempts_on}
use Rattle.hits_input.specs.Input.{Input, read_input}
use Rattle.hits_output.specs.Output.{header, hit_lines, closing_line, refused_line, bad_line}

-- the refusal of the first call that is refused, where the patterns are added one after the other
-- to the set ps and its automaton is built then; 0 where none is. With so few values no other
-- refusal can be met, and neither in the search
unfoldable pub refusal_of : PatternSet → List (List ℤ) → ℕ
refusal_of ps [] = cond (eqb (length ps) 0) 1 0
refusal_of ps (xs ∷ xss) =
    cond (eqb (length xs) 0) 1 (cond (ltb 256 (length xs)) 2 (cond (holds_gap xs) 13
    (cond (leb 64 (length ps) || ltb 4096 (length (flatten ps) + length xs)) 6
    (cond (has_one_value xs) 15 (refusal_of (ps ++ (distances xs ∷ [])) xss)))))

-- the refusal; or the header, a line for each hit of the text, and the attempts
unfoldable pub answer_to : Input → List ℕ
answer_to i =
    let ps = map distances i.patterns in
    let r = refusal_of [] i.patterns in
    cond (eqb r 0) (header ++ (hit_lines ps (hits ps i.text) ++ closing_line (attempts_on ps [] i.text))) (refused_line r)

abbrev pub answer_or_bad : Option Input → List ℕ
answer_or_bad None = bad_line
answer_or_bad (Some i) = answer_to i

unfoldable pub printed : List ℕ → List ℕ
printed bytes = answer_or_bad (read_input bytes)
