-- The comparisons of a check, as words: place + 256 * parent, for each place whose comparison with
-- its global parent the pattern's own fingerprint does not decide. That of the root, which is its
-- own parent, decides nothing; that of neighbours among the last 17 values is a bit of the
-- fingerprint.
use Rattle.std.specs.Prelude.{◌≡◌, ◌&&◌, ◌∷◌, ◌++◌, ◌+◌, ◌-◌, ◌*◌, ◌/◌, ◌%◌, ◌<◌}
use Rattle.lists.specs.Prelude.{Bool, true, false, cond, List, [], map, flatten, ℕ, suc, eqb, ltb, ℤ, pos}
use Rattle.lists.specs.Prelude.{le_z, lt_z, length, get_or, take, drop, tabulate, all, select}
use Rattle.global_parents.specs.GlobalParents.{global_parents}
use Rattle.pattern_set.specs.PatternSet.{PatternSet}

-- is place b behind place a, and are they not neighbours that are both among the places from
-- `from` on
abbrev pub is_apart : ℕ → ℕ → ℕ → Bool
is_apart from a b = cond (eqb (suc a) b) (ltb a from) (ltb a b)

-- is the comparison of place i with its parent g left to the check, where the own fingerprint is of
-- the places from `from` on: of the comparisons with parents to the right, or to the left
abbrev pub is_asked : Bool → ℕ → ℕ → ℕ → Bool
is_asked right from g i = cond right (is_apart from i g) (is_apart from g i)

-- the words of one side's comparisons, by a list of parents
unfoldable pub side_words : Bool → ℕ → List ℕ → List ℕ
side_words right from parents =
    map (λ i. i + 256 * get_or parents i 0) (select (λ i. is_asked right from (get_or parents i 0) i) (tabulate (length parents) (λ i. i)))

-- those with parents to the left, and to the right, of a pattern with these parents
abbrev pub left_words : List ℕ → List ℕ
left_words parents = side_words false (length parents - 17) parents

abbrev pub right_words : List ℕ → List ℕ
right_words parents = side_words true (length parents - 17) parents

-- the words of a pattern with these parents: how many comparisons there are with parents to the
-- left, and 256 times how many with parents to the right, then the ones and the others
abbrev pub comparison_words : List ℕ → List ℕ
comparison_words parents = (length (left_words parents) + 256 * length (right_words parents)) ∷ (left_words parents ++ right_words parents)

-- the array with the words of pattern j where its distances lie among all distances
unfoldable pub with_comparisons : PatternSet → ℕ → List ℕ → List ℕ
with_comparisons ps j out =
    let at = length (flatten (take j ps)) in
    let words = comparison_words (global_parents (get_or ps j [])) in
    take at out ++ (words ++ drop (length words) (drop at out))

-- the words of each pattern lie where its distances lie among all distances
abbrev pub Comparisons : PatternSet → List ℕ → Type 0
Comparisons ps out =
    (j : ℕ) → j < length ps →
    let words = comparison_words (global_parents (get_or ps j [])) in
    take (length words) (drop (length (flatten (take j ps))) out) ≡ words

-- ---- the check

-- the value at the parent is not above that at the place, or is below it
abbrev pub passes_left : List ℤ → ℕ → Bool
passes_left xs word = le_z (get_or xs (word / 256) (pos 0)) (get_or xs (word % 256) (pos 0))

abbrev pub passes_right : List ℤ → ℕ → Bool
passes_right xs word = lt_z (get_or xs (word / 256) (pos 0)) (get_or xs (word % 256) (pos 0))

-- the places of the words are places of a window of n values
abbrev pub WordsArePlaces : List ℕ → ℕ → Type 0
WordsArePlaces words n = (k : ℕ) → k < length words → (get_or words k 0 / 256 < n) × (get_or words k 0 % 256 < n)

-- a window passes every comparison that is asked for
unfoldable pub passes_words : List ℕ → List ℤ → Bool
passes_words parents xs = all (passes_left xs) (left_words parents) && all (passes_right xs) (right_words parents)
