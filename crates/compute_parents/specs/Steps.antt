-- What one step of the computation of global parents finds and stores, for a list of parent
-- distances.
use Rattle.std.specs.Prelude.{◌&&◌, ◌||◌, ◌+◌, ◌-◌}
use Rattle.lists.specs.Prelude.{Bool, Option, None, Some, List, ℕ, zero, suc, eqb, ltb, get_or, take, set, last_below}
use Rattle.cartesian.specs.Cartesian.{tree_of}
use Rattle.global_parents.specs.GlobalParents.{last_left_child, is_prefix_child}

-- the place after the one that j leads to by the distance d; 0 where it leads to none
abbrev pub after_link : ℕ → ℕ → ℕ
after_link j zero = 0
after_link j (suc d) = j - d

-- the first place of the left part of j: the places before j that are after the one that j leads to
abbrev pub left_start : List ℕ → ℕ → ℕ
left_start ds j = after_link j (get_or ds j 0)

-- does place k lead to no place from start on
abbrev pub is_root_from : List ℕ → ℕ → ℕ → Bool
is_root_from ds start k = eqb (get_or ds k 0) 0 || ltb k (start + get_or ds k 0)

-- the prefix child of place j: its left child in the tree over the places 0 to j
abbrev pub prefix_child : List ℕ → ℕ → Option ℕ
prefix_child ds j = last_left_child 0 (tree_of (take (suc j) ds))

-- the list with j stored at a child, where there is one
abbrev pub stored_at : Option ℕ → ℕ → List ℕ → List ℕ
stored_at None j out = out
stored_at (Some c) j out = set out c j

-- the list with what place j tells: the place that j leads to as its parent, and j as the parent of
-- its prefix child
unfoldable pub with_place : List ℕ → ℕ → List ℕ → List ℕ
with_place ds j out = stored_at (prefix_child ds j) j (set out j (j - get_or ds j 0))

-- the global parent of i, as far as the places below m tell
unfoldable pub parent_below : List ℕ → ℕ → ℕ → ℕ
parent_below ds m i = or_else (last_below (λ j. ltb i j && is_prefix_child ds i j) m)
  where
    or_else : ℕ → ℕ
    or_else zero = i - get_or ds i 0
    or_else (suc j) = j
