-- CUTTING: the parts of bytes begin with what stands before the first separator, and go on with the
-- parts behind it.
use Rattle.std.specs.Prelude.{◌≡◌, ◌∷◌, ◌+◌, ◌-◌, ◌≤◌, ◌<◌}
use Rattle.std.specs.Borrow.{Bor}
use Rattle.std.specs.List.{onto_first}
use Rattle.std.proofs.lemmas.List.{take_rest}
use Rattle.lists.proofs.Prelude.{◌∙◌, ap, refl, Bool, true, false, cond, Option, Some, List, [], ℕ, zero, suc, eqb, length, get_or, take, drop}
use Rattle.lists.proofs.Prelude.{add-one, arith, eq-eqb, ne_eqb}
use Rattle.hits_input.specs.Input.{parts}
use Rattle.hits_input.specs.Steps.{parts_of_rest}

-- the first separator is at place i
pub parts_at : (sep : ℕ) (bs : List ℕ) (i : ℕ) → i < length bs → get_or bs i 0 ≡ sep → ((k : ℕ) → k < i → get_or bs k 0 ≡ sep → ⊥)
    → parts sep bs ≡ take i bs ∷ parts sep (drop (suc i) bs)
unfolding parts
parts_at sep [] i h e f = absurd (omega arith)
parts_at sep (b ∷ bs) zero h e f = rw (eq-eqb b sep e) refl
parts_at sep (b ∷ bs) (suc i) h e f =
    rw (ne_eqb b sep (f 0 (omega arith))) (ap (onto_first b) (parts_at sep bs i (omega arith) e (λ k l. f (suc k) (omega arith))))

-- there is none
pub parts_whole : (sep : ℕ) (bs : List ℕ) → ((k : ℕ) → k < length bs → get_or bs k 0 ≡ sep → ⊥) → parts sep bs ≡ bs ∷ []
unfolding parts
parts_whole sep [] f = refl
parts_whole sep (b ∷ bs) f =
    rw (ne_eqb b sep (f 0 (omega arith))) (ap (onto_first b) (parts_whole sep bs (λ k l. f (suc k) (omega arith))))

-- the part up to a separator is taken off, in the words of the code
pub part_ended : (sep : ℕ) (o : Option (Bor (List ℕ))) (rest : Bor (List ℕ)) (i : ℕ) → o ≡ Some rest → i < length rest.now → get_or rest.now i 0 ≡ sep
    → ((k : ℕ) → k < i → get_or rest.now k 0 ≡ sep → ⊥)
    → parts_of_rest sep o ≡ take i rest.now ∷ parts sep (take (length rest.now - (i + 1)) (drop (i + 1) rest.now))
part_ended sep o rest i e h s f = rw (e, take_rest rest.now (i + 1), add-one i) (parts_at sep rest.now i h s f)

-- what is left is the last part
pub part_last : (sep : ℕ) (o : Option (Bor (List ℕ))) (rest : Bor (List ℕ)) → o ≡ Some rest → ((k : ℕ) → k < length rest.now → get_or rest.now k 0 ≡ sep → ⊥)
    → parts_of_rest sep o ≡ rest.now ∷ []
part_last sep o rest e f = rw e (parts_whole sep rest.now f)

-- there is at least one part
pub parts_some : (sep : ℕ) (bs : List ℕ) → 1 ≤ length (parts sep bs)
unfolding parts
parts_some sep [] = omega arith
parts_some sep (b ∷ bs) = go (eqb b sep) (parts sep bs)
  where
    put : (ps : List (List ℕ)) → 1 ≤ length (onto_first b ps)
    put [] = omega arith
    put (p ∷ ps) = omega arith

    go : (t : Bool) (ps : List (List ℕ)) → 1 ≤ length (cond t ([] ∷ ps) (onto_first b ps))
    go true ps = omega arith
    go false ps = put ps

-- ---- the bytes of parts, each with what ends it

unfoldable pub weight : List (List ℕ) → ℕ
weight [] = 0
weight (p ∷ ps) = suc (length p) + weight ps

weight_first : (b : ℕ) (ps : List (List ℕ)) → 1 ≤ length ps → weight (onto_first b ps) ≡ suc (weight ps)
unfolding weight
weight_first b [] h = absurd (omega arith)
weight_first b (p ∷ ps) h = omega arith

pub weight-parts : (sep : ℕ) (bs : List ℕ) → weight (parts sep bs) ≡ suc (length bs)
unfolding parts weight
weight-parts sep [] = refl
weight-parts sep (b ∷ bs) = go (eqb b sep) (weight-parts sep bs)
  where
    go : (t : Bool) → weight (parts sep bs) ≡ suc (length bs) → weight (cond t ([] ∷ parts sep bs) (onto_first b (parts sep bs))) ≡ suc (suc (length bs))
    go true ih = omega arith
    go false ih = weight_first b (parts sep bs) (parts_some sep bs) ∙ ap suc ih
