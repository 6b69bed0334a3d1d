-- Where nothing is told to differ, all is as expected, and the other way round.
use Rattle.std.specs.Prelude.{◌≡◌, ◌&&◌, ◌∷◌}
use Rattle.std.specs.Option.{option_or}
use Rattle.lists.proofs.Prelude.{◌∙◌, ap, sym, refl, Bool, true, false, cond, List, [], ℕ, suc, eqb, ℤ, pos, negsuc, eq_z, Option, None, Some}
use Rattle.lists.proofs.Prelude.{length, drop, take-nil, all, same, begins}
use Rattle.lists.proofs.Tests.{eqb_comm}
use Rattle.test_differences.specs.declared.difference.Part.{Part}
use Rattle.test_differences.specs.declared.difference.Difference.{Difference}
use Rattle.test_differences.specs.Difference.{is_nothing, differs, compared, compared_items, compared_held, compared_front, compared_words}
use Rattle.test_differences.specs.Difference.{begins_by, all_hold}

pub nothing_first : (a b : Option Difference) → is_nothing (option_or a b) ≡ is_nothing a && is_nothing b
nothing_first None b = refl
nothing_first (Some d) b = refl

pub nothing_compared : (part : Part) (place : ℕ) (expected got : ℤ) → is_nothing (compared part place expected got) ≡ eq_z expected got
unfolding compared
nothing_compared part place expected got = told (eq_z expected got)
  where
    told : (b : Bool) → is_nothing (cond b None (differs part place expected got)) ≡ b
    told true = refl
    told false = refl

-- ---- arrays, by the value of their numbers

-- one test more in front of two
and_assoc : (a b c : Bool) → a && (b && c) ≡ (a && b) && c
and_assoc true b c = refl
and_assoc false b c = refl

pub nothing_items : {A : Type 0} (value : A → ℤ) (part : Part) (i : ℕ) (es gs : List A)
    → is_nothing (compared_items value part i es gs) ≡ begins_by value es gs
unfolding compared_items begins_by
nothing_items value part i [] [] = refl
nothing_items value part i [] (g ∷ gs) = refl
nothing_items value part i (e ∷ es) [] = refl
nothing_items value part i (e ∷ es) (g ∷ gs) =
    nothing_first (compared part i (value e) (value g)) (compared_items value part (suc i) es gs)
    ∙ rw (nothing_compared part i (value e) (value g), nothing_items value part (suc i) es gs) refl

pub nothing_held_by : {A : Type 0} (value : A → ℤ) (part : Part) (i : ℕ) (v : A) (gs : List A)
    → is_nothing (compared_held value part i v gs) ≡ all_hold value v gs
unfolding compared_held all
nothing_held_by value part i v [] = refl
nothing_held_by value part i v (g ∷ gs) =
    nothing_first (compared part i (value v) (value g)) (compared_held value part (suc i) v gs)
    ∙ rw (nothing_compared part i (value v) (value g), nothing_held_by value part (suc i) v gs) refl

pub nothing_front_by : {A : Type 0} (value : A → ℤ) (part : Part) (i : ℕ) (v : A) (es gs : List A)
    → is_nothing (compared_front value part i v es gs) ≡ begins_by value gs es && all_hold value v (drop (length es) gs)
unfolding compared_front begins_by
nothing_front_by value part i v [] gs = nothing_held_by value part i v gs
nothing_front_by value part i v (e ∷ es) [] = refl
nothing_front_by value part i v (e ∷ es) (g ∷ gs) =
    nothing_first (compared part i (value e) (value g)) (compared_front value part (suc i) v es gs)
    ∙ rw (nothing_compared part i (value e) (value g), nothing_front_by value part (suc i) v es gs, eq_z_comm (value e) (value g))
    (and_assoc (eq_z (value g) (value e)) (begins_by value gs es) _)
  where
    eq_z_comm : (a b : ℤ) → eq_z a b ≡ eq_z b a
    eq_z_comm (pos a) (pos b) = eqb_comm a b
    eq_z_comm (pos a) (negsuc b) = refl
    eq_z_comm (negsuc a) (pos b) = refl
    eq_z_comm (negsuc a) (negsuc b) = eqb_comm a b

-- what was told is nothing exactly then

pub items_told : {A : Type 0} (value : A → ℤ) (part : Part) (i : ℕ) (es gs : List A) (d : Option Difference)
    → d ≡ compared_items value part i es gs → is_nothing d ≡ begins_by value es gs
items_told value part i es gs d e = ap is_nothing e ∙ nothing_items value part i es gs

pub held_told : {A : Type 0} (value : A → ℤ) (part : Part) (i : ℕ) (v : A) (gs : List A) (d : Option Difference)
    → d ≡ compared_held value part i v gs → is_nothing d ≡ all_hold value v gs
held_told value part i v gs d e = ap is_nothing e ∙ nothing_held_by value part i v gs

pub front_told : {A : Type 0} (value : A → ℤ) (part : Part) (i : ℕ) (v : A) (es gs : List A) (d : Option Difference)
    → d ≡ compared_front value part i v es gs → is_nothing d ≡ begins_by value gs es && all_hold value v (drop (length es) gs)
front_told value part i v es gs d e = ap is_nothing e ∙ nothing_front_by value part i v es gs

-- ---- words

begins_pos : (es gs : List ℕ) → begins_by pos es gs ≡ begins es gs
unfolding begins_by same
begins_pos [] [] = refl
begins_pos [] (g ∷ gs) = sym (ap (λ (l : List ℕ). same l (g ∷ gs)) (take-nil (suc (length gs))))
begins_pos (e ∷ es) [] = refl
begins_pos (e ∷ es) (g ∷ gs) = ap (λ (b : Bool). eqb e g && b) (begins_pos es gs)

held_pos : (v : ℕ) (gs : List ℕ) → all_hold pos v gs ≡ all (λ x. eqb x v) gs
unfolding all
held_pos v [] = refl
held_pos v (g ∷ gs) = rw (eqb_comm v g, held_pos v gs) refl

pub nothing_words : (expected got : List ℕ) → is_nothing (compared_words expected got) ≡ begins expected got
nothing_words expected got = nothing_items pos Part.Word 0 expected got ∙ begins_pos expected got

pub nothing_held : (part : Part) (i v : ℕ) (got : List ℕ) → is_nothing (compared_held pos part i v got) ≡ all (λ x. eqb x v) got
nothing_held part i v got = nothing_held_by pos part i v got ∙ held_pos v got

pub nothing_front : (part : Part) (i v : ℕ) (expected got : List ℕ)
    → is_nothing (compared_front pos part i v expected got) ≡ begins got expected && all (λ x. eqb x v) (drop (length expected) got)
nothing_front part i v expected got =
    nothing_front_by pos part i v expected got ∙ rw (begins_pos got expected, held_pos v (drop (length expected) got)) refl
