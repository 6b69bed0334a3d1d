-- What a list of hits must be: every pair of a pattern and a window with equal trees, and no other;
-- each once, and in order. Document 01: Hits of R; the order of a search's list.
use Rattle.std.specs.Prelude.{◌≡◌, ◌⊎◌, ◌↔◌, ◌≤◌, ◌<◌}
use Rattle.lists.specs.Prelude.{false, List, [], Memᴰ, ℕ, suc, ℤ, length, get_or, take, last_of}
use Rattle.gaps.specs.Gaps.{holds_gap}
use Rattle.cartesian.specs.Cartesian.{tree, tree_of}
use Rattle.pattern_set.specs.PatternSet.{PatternSet}

-- the window at the end of the text that is as long as the pattern lies within the text, holds no
-- gap and has the pattern's tree
abbrev pub EndsWith : List ℤ → List ℕ → Type 0
EndsWith text p =
    (0 < length p) × (length p ≤ length text) × (holds_gap (last_of (length p) text) ≡ false) × (tree (last_of (length p) text) ≡ tree_of p)

-- the hit h, a last place and a pattern number, comes before g: its last place is earlier; or there
-- its pattern is longer; or as long and its number lower
unfoldable pub Before : PatternSet → ℕ × ℕ → ℕ × ℕ → Type 0
Before ps h g =
    let size : ℕ × ℕ → ℕ = λ q. length (get_or ps q.1 []) in
    (h.0 < g.0) ⊎ ((h.0 ≡ g.0) × ((size g < size h) ⊎ ((size h ≡ size g) × (h.1 < g.1))))

-- hs are the hits of the text
pub record IsHitList (ps : PatternSet) (text : List ℤ) (hs : List (ℕ × ℕ)) : Type 0 where
  -- a last place and a pattern number stand in the list exactly if a window with the pattern's tree
  -- ends there
  pub exactly : (p j : ℕ) → Memᴰ (p, j) hs ↔ ((p < length text) × (j < length ps) × EndsWith (take (suc p) text) (get_or ps j []))
  -- every hit of the list comes before each later one; so none is there twice
  pub ordered : (i k : ℕ) → i < k → k < length hs → Before ps (get_or hs i (0, 0)) (get_or hs k (0, 0))
