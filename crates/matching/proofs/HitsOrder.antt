-- The hits are in order: by last place, then longer pattern first, then lower number. Tables are
-- put end to end by last place, windows of one last place by falling length, and the patterns with
-- the tree of one window are all as long as it and come by number.
use Rattle.std.specs.Prelude.{◌≡◌, ◌⊎◌, ◌∷◌, ◌++◌, ◌+◌, ◌≤◌, ◌<◌}
use Rattle.lists.proofs.Prelude.{◌∙◌, ap, sym, refl, subst, inl, inr, Bool, true, false, cond, List, [], map, Memᴰ, Memᴰ-head}
use Rattle.lists.proofs.Prelude.{Memᴰ-tail, Memᴰ-append_cases, flatten, ℕ, zero, suc, ℤ, length, get_or, take, le_refl, add-zero}
use Rattle.lists.proofs.Prelude.{zero-add, arith, last_of, tabulate}
use Rattle.lists.proofs.Parts.{length-last_of, map-append}
use Rattle.lists.proofs.Tests.{T-true}
use Rattle.lists.proofs.Members.{get_or-mem, mem-map}
use Rattle.lists.proofs.Rows.{flatten-tabulate, mem-flatten-tabulate}
use Rattle.pattern_set.specs.PatternSet.{PatternSet}
use Rattle.matching.specs.Matching.{has_tree, numbers_from, end_hits, last_hits, hits_at, hits}
use Rattle.matching.specs.HitList.{Before, IsHitList}
use Rattle.matching.proofs.Sizes.{pattern_length, has_tree-length}
use Rattle.matching.proofs.HitsIff.{numbers_from-mem, end_hits-mem, hits_iff}

-- every hit of the list comes before each later one
unfoldable Ordered : PatternSet → List (ℕ × ℕ) → Type 0
Ordered ps [] = Unit {0}
Ordered ps (h ∷ hs) = ((g : ℕ × ℕ) → Memᴰ g hs → Before ps h g) × Ordered ps hs

-- the same by places
Ordered-at : (ps : PatternSet) (hs : List (ℕ × ℕ)) → Ordered ps hs → (i k : ℕ) → i < k → k < length hs → Before ps (get_or hs i (0, 0)) (get_or hs k (0, 0))
unfolding Ordered
Ordered-at ps [] o i k l m = absurd (let z : ⊥ = omega arith in z)
Ordered-at ps (h ∷ hs) o i zero l m = absurd (let z : ⊥ = omega arith in z)
Ordered-at ps (h ∷ hs) o zero (suc k) l m = o.0 (get_or hs k (0, 0)) (get_or-mem hs k (0, 0) (omega arith))
Ordered-at ps (h ∷ hs) o (suc i) (suc k) l m = Ordered-at ps hs o.1 i k (omega arith) (omega arith)

-- two ordered lists, all of the first before all of the second
Ordered-append : (ps : PatternSet) (hs gs : List (ℕ × ℕ)) → Ordered ps hs → Ordered ps gs
    → ((h g : ℕ × ℕ) → Memᴰ h hs → Memᴰ g gs → Before ps h g) → Ordered ps (hs ++ gs)
unfolding Ordered
Ordered-append ps [] gs a b f = b
Ordered-append ps (h ∷ hs) gs a b f = (
  λ g m. go g (Memᴰ-append_cases hs m),
  Ordered-append ps hs gs a.1 b (λ x y m k. f x y (Memᴰ-tail m) k),
)
  where
    go : (g : ℕ × ℕ) → Memᴰ g hs ⊎ Memᴰ g gs → Before ps h g
    go g (inl m) = a.0 g m
    go g (inr m) = f h g (Memᴰ-head refl) m

-- the hits with last place p of some pattern numbers
abbrev at : ℕ → List ℕ → List (ℕ × ℕ)
at p js = map (λ j. (p, j)) js

-- a hit of such a list, by its number
at-Before : (ps : PatternSet) (p i : ℕ) (js : List ℕ) → ((j : ℕ) → Memᴰ j js → Before ps (p, i) (p, j)) → (g : ℕ × ℕ) → Memᴰ g (at p js)
    → Before ps (p, i) g
at-Before ps p i js f g m =
    let r = (mem-map {B = ℕ × ℕ} (λ j. (p, j)) js g).0 m in
    subst (λ (h : ℕ × ℕ). Before ps (p, i) h) (sym r.2) (f r.0 r.1)

-- one window: its patterns are equally long, and their numbers go up; qs are the patterns from
-- number i on
numbers-Ordered : (ps : PatternSet) (window : List ℤ) (p i : ℕ) (qs : PatternSet) → ((k : ℕ) → k < length qs → get_or ps (i + k) [] ≡ get_or qs k [])
    → Ordered ps (at p (numbers_from i window qs))
unfolding numbers_from Ordered Before
numbers-Ordered ps window p i [] part = tt
numbers-Ordered ps window p i (q ∷ qs) part =
    go (has_tree window q) refl
    (numbers-Ordered ps window p (suc i) qs (λ k h. ap (λ (n : ℕ). get_or ps n []) (shift k) ∙ part (suc k) (omega arith)))
  where
    shift : (k : ℕ) → suc i + k ≡ i + suc k
    shift k = omega arith

    go : (b : Bool) → has_tree window q ≡ b → Ordered ps (at p (numbers_from (suc i) window qs))
        → Ordered ps (at p (cond b (i ∷ numbers_from (suc i) window qs) (numbers_from (suc i) window qs)))
    go true e ih = (at-Before ps p i (numbers_from (suc i) window qs) later, ih)
      where
        here : pattern_length ps i ≡ length window
        here =
            ap (λ (n : ℕ). pattern_length ps n) (sym (add-zero i))
            ∙ ap length (part 0 (omega arith))
            ∙ sym (has_tree-length window q (T-true (has_tree window q) e))

        later : (j : ℕ) → Memᴰ j (numbers_from (suc i) window qs) → Before ps (p, i) (p, j)
        later j m =
            let r = numbers_from-mem (suc i) window qs j m in
            let there : pattern_length ps j ≡ length window =
            ap (λ (n : ℕ). pattern_length ps n) (r.1 ∙ shift r.0)
            ∙ ap length (part (suc r.0) (omega (arith, r.2)))
            ∙ sym (has_tree-length window (get_or qs r.0 []) r.3) in
            inr (refl, inr (here ∙ sym there, omega (arith, r.1)))
    go false e ih = ih

-- the patterns that have the tree of the window are as long as it
numbers_length : (ps : PatternSet) (window : List ℤ) (j : ℕ) → Memᴰ j (numbers_from 0 window ps) → pattern_length ps j ≡ length window
numbers_length ps window j m =
    let r = numbers_from-mem 0 window ps j m in
    ap (λ (n : ℕ). pattern_length ps n) (r.1 ∙ zero-add r.0) ∙ sym (has_tree-length window (get_or ps r.0 []) r.3)

-- one last place: longer windows come first
end_hits-Ordered : (ps : PatternSet) (text : List ℤ) (p n : ℕ) → n ≤ length text → Ordered ps (at p (end_hits ps text n))
unfolding end_hits Ordered Before
end_hits-Ordered ps text p zero h = tt
end_hits-Ordered ps text p (suc n) h =
    let front = numbers_from 0 (last_of (suc n) text) ps in
    subst (λ (l : List (ℕ × ℕ)). Ordered ps l) (sym (map-append {B = ℕ × ℕ} (λ j. (p, j)) front (end_hits ps text n)))
    (Ordered-append ps (at p front) (at p (end_hits ps text n))
    (numbers-Ordered ps (last_of (suc n) text) p 0 ps (λ k l. ap (λ (i : ℕ). get_or ps i []) (zero-add k)))
    (end_hits-Ordered ps text p n (omega arith))
    (λ x y m k. between x y m k))
  where
    longer : (i j : ℕ) → Memᴰ i (numbers_from 0 (last_of (suc n) text) ps) → Memᴰ j (end_hits ps text n) → pattern_length ps j < pattern_length ps i
    longer i j a b =
        let r = end_hits-mem ps text n j b in
        let li : pattern_length ps i ≡ suc n = numbers_length ps (last_of (suc n) text) i a ∙ length-last_of (suc n) text h in
        let lj : pattern_length ps j ≡ suc r.0 =
        numbers_length ps (last_of (suc r.0) text) j r.2 ∙ length-last_of (suc r.0) text (omega (arith, r.1)) in
        omega (arith, li, lj, r.1)

    between : (x y : ℕ × ℕ) → Memᴰ x (at p (numbers_from 0 (last_of (suc n) text) ps)) → Memᴰ y (at p (end_hits ps text n)) → Before ps x y
    between x y m k =
        let r = (mem-map {B = ℕ × ℕ} (λ j. (p, j)) (numbers_from 0 (last_of (suc n) text) ps) x).0 m in
        subst (λ (g : ℕ × ℕ). Before ps g y) (sym r.2)
        (at-Before ps p r.0 (end_hits ps text n) (λ j b. inr (refl, inl (longer r.0 j r.1 b))) y k)

-- the hits with last place p have last place p
hits_at_place : (ps : PatternSet) (text : List ℤ) (p : ℕ) (h : ℕ × ℕ) → Memᴰ h (hits_at ps text p) → h.0 ≡ p
unfolding hits_at
hits_at_place ps text p h m = ap (λ (g : ℕ × ℕ). g.0) ((mem-map {B = ℕ × ℕ} (λ j. (p, j)) (last_hits ps (take (suc p) text)) h).0 m).2

hits-Ordered-to : (ps : PatternSet) (text : List ℤ) (n : ℕ) → Ordered ps (flatten (tabulate n (hits_at ps text)))
unfolding Ordered Before hits_at tabulate flatten
hits-Ordered-to ps text zero = tt
hits-Ordered-to ps text (suc n) =
    subst (λ (l : List (ℕ × ℕ)). Ordered ps l) (sym (flatten-tabulate n (hits_at ps text)))
    (Ordered-append ps (flatten (tabulate n (hits_at ps text))) (hits_at ps text n)
    (hits-Ordered-to ps text n)
    (end_hits-Ordered ps (take (suc n) text) n (length (take (suc n) text)) (le_refl _))
    (λ x y m k. let r = (mem-flatten-tabulate n (hits_at ps text) x).0 m in
    inl (omega (arith, hits_at_place ps text r.0 x r.2, hits_at_place ps text n y k, r.1))))

-- THE ORDER OF THE HITS
pub hits_ordered : (ps : PatternSet) (text : List ℤ) (i k : ℕ) → i < k → k < length (hits ps text)
    → Before ps (get_or (hits ps text) i (0, 0)) (get_or (hits ps text) k (0, 0))
unfolding hits
hits_ordered ps text = Ordered-at ps (hits ps text) (hits-Ordered-to ps text (length text))

-- THE LIST OF HITS is what document 01 says
pub hits_list : (ps : PatternSet) (text : List ℤ) → IsHitList ps text (hits ps text)
hits_list ps text = record { exactly = hits_iff ps text; ordered = hits_ordered ps text }
