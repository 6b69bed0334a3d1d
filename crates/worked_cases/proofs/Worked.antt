-- THE WORKED CASES: in every line of the table the two sides are equal. One test over the whole
-- table is computed.
use Rattle.std.specs.Prelude.{◌≡◌, ◌&&◌, ◌∷◌}
use Rattle.lists.proofs.Prelude.{ap, refl, ap₂, Bool, true, false, List, [], flatten, ℤ, pos, negsuc, T, eqb, eqb→eq, tabulate, last_below, any}
use Rattle.lists.proofs.Prelude.{select, same}
use Rattle.lists.proofs.Tests.{and_split}
use Rattle.gaps.specs.Gaps.{is_gap}
use Rattle.cartesian.specs.Cartesian.{size, leftmost_from, leftmost, tree_within, tree, same_tree, distance_at, distances, cut_from, root_place}
use Rattle.cartesian.specs.Cartesian.{tree_of_within, tree_of}
use Rattle.realization.specs.Realization.{realizable, left_turns, least_realization, failure_length, failure_lengths}
use Rattle.global_parents.specs.GlobalParents.{last_left_child, is_prefix_child, global_parent, global_parents}
use Rattle.ranking.specs.Rank.{factorial, rank_from, unrank, is_rank}
use Rattle.matching.specs.Matching.{has_tree, numbers_from, end_hits, hits_at, hits, hit_words}
use Rattle.worked_cases.specs.Table.{Case, AllHold, table}

equal : ℤ → ℤ → Bool
equal (pos a) (pos b) = eqb a b
equal (pos a) (negsuc b) = false
equal (negsuc a) (pos b) = false
equal (negsuc a) (negsuc b) = eqb a b

equal_eq : (a b : ℤ) → T (equal a b) → a ≡ b
unfolding equal
equal_eq (pos a) (pos b) t = ap pos (eqb→eq a b t)
equal_eq (pos a) (negsuc b) t = absurd t
equal_eq (negsuc a) (pos b) t = absurd t
equal_eq (negsuc a) (negsuc b) t = ap negsuc (eqb→eq a b t)

alike : List ℤ → List ℤ → Bool
alike [] [] = true
alike [] (y ∷ ys) = false
alike (x ∷ xs) [] = false
alike (x ∷ xs) (y ∷ ys) = equal x y && alike xs ys

alike_eq : (xs ys : List ℤ) → T (alike xs ys) → xs ≡ ys
unfolding alike
alike_eq [] [] t = refl
alike_eq [] (y ∷ ys) t = absurd t
alike_eq (x ∷ xs) [] t = absurd t
alike_eq (x ∷ xs) (y ∷ ys) t =
    let p = and_split (equal x y) (alike xs ys) t in
    ap₂ (λ (a : ℤ) (l : List ℤ). a ∷ l) (equal_eq x y p.0) (alike_eq xs ys p.1)

hold : List Case → Bool
hold [] = true
hold (c ∷ cs) = alike c.given c.expected && hold cs

all_hold : (cs : List Case) → T (hold cs) → AllHold cs
unfolding hold
all_hold [] t = tt
all_hold (c ∷ cs) t =
    let p = and_split (alike c.given c.expected) (hold cs) t in
    (alike_eq c.given c.expected p.0, all_hold cs p.1)

pub worked : AllHold table
unfolding table hold alike equal tabulate last_below any select same flatten size leftmost_from leftmost tree_within tree same_tree distance_at distances
    cut_from
    root_place tree_of_within tree_of realizable left_turns least_realization failure_length failure_lengths last_left_child is_prefix_child global_parent
    global_parents
    factorial rank_from unrank is_rank is_gap has_tree numbers_from end_hits hits_at hits hit_words
worked = all_hold table tt
