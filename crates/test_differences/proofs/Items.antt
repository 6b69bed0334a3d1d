-- Laws of arrays compared: the ways through the loops. What is told of the whole is told from a
-- place on.
use Rattle.std.specs.Prelude.{◌≡◌, ◌∷◌, ◌+◌, ◌≤◌, ◌<◌}
use Rattle.std.specs.Option.{is_some, option_or}
use Rattle.lists.proofs.Prelude.{◌∙◌, sym, refl, true, false, true≢false, false≢true, List, [], ℕ, ℤ, pos, length, get_or, drop, drop-cons, drop_of_length-le}
use Rattle.lists.proofs.Prelude.{add-one, arith, Option, None, Some}
use Rattle.test_differences.specs.declared.difference.Part.{Part}
use Rattle.test_differences.specs.declared.difference.Difference.{Difference}
use Rattle.test_differences.specs.Difference.{differs, compared, compared_items, compared_held, compared_front}

-- the part of a list from a place on
part_at : {A : Type 0} (xs : List A) (i : ℕ) (x : A) → i < length xs → x ≡ get_or xs i x → drop i xs ≡ x ∷ drop (i + 1) xs
part_at xs i x h e = drop-cons xs i x h ∙ rw (sym e, add-one) refl

-- what is told of a place is all that is told, or nothing
first : (d r : Option Difference) → is_some d ≡ true → option_or d r ≡ d
first None r h = absurd (false≢true h)
first (Some d) r h = refl

second : (d r : Option Difference) → is_some d ≡ false → option_or d r ≡ r
second None r h = refl
second (Some d) r h = absurd (true≢false h)

-- ---- held

pub held_stop : {A : Type 0} (value : A → ℤ) (part : Part) (v : A) (gs : List A) (i : ℕ) (g : A) (told d : Option Difference)
    → told ≡ compared_held value part i v (drop i gs) → i < length gs → g ≡ get_or gs i g
    → d ≡ compared part i (value v) (value g) → is_some d ≡ true → d ≡ told
unfolding compared_held
held_stop value part v gs i g told d inv h at e s = sym (inv ∙ rw (part_at gs i g h at, sym e) (first d _ s))

pub held_more : {A : Type 0} (value : A → ℤ) (part : Part) (v : A) (gs : List A) (i : ℕ) (g : A) (told d : Option Difference)
    → told ≡ compared_held value part i v (drop i gs) → i < length gs → g ≡ get_or gs i g
    → d ≡ compared part i (value v) (value g) → is_some d ≡ false → told ≡ compared_held value part (i + 1) v (drop (i + 1) gs)
unfolding compared_held
held_more value part v gs i g told d inv h at e s = inv ∙ rw (part_at gs i g h at, sym e, add-one) (second d _ s)

pub held_end : {A : Type 0} (value : A → ℤ) (part : Part) (v : A) (gs : List A) (i : ℕ) (told : Option Difference)
    → told ≡ compared_held value part i v (drop i gs) → length gs ≤ i → None ≡ told
unfolding compared_held
held_end value part v gs i told inv h = sym (inv ∙ rw (drop_of_length-le gs {i = i} h) refl)

-- ---- items

pub items_over : {A : Type 0} (value : A → ℤ) (part : Part) (es gs : List A) (i : ℕ) (g : A) (told : Option Difference)
    → told ≡ compared_items value part i (drop i es) (drop i gs) → length es ≤ i → i < length gs → g ≡ get_or gs i g
    → differs part i (pos 0) (value g) ≡ told
unfolding compared_items
items_over value part es gs i g told inv k h at = sym (inv ∙ rw (drop_of_length-le es {i = i} k, part_at gs i g h at) refl)

pub items_stop : {A : Type 0} (value : A → ℤ) (part : Part) (es gs : List A) (i : ℕ) (e g : A) (told d : Option Difference)
    → told ≡ compared_items value part i (drop i es) (drop i gs) → i < length es → e ≡ get_or es i e → i < length gs → g ≡ get_or gs i g
    → d ≡ compared part i (value e) (value g) → is_some d ≡ true → d ≡ told
unfolding compared_items
items_stop value part es gs i e g told d inv k to h at c s = sym (inv ∙ rw (part_at es i e k to, part_at gs i g h at, sym c) (first d _ s))

pub items_more : {A : Type 0} (value : A → ℤ) (part : Part) (es gs : List A) (i : ℕ) (e g : A) (told d : Option Difference)
    → told ≡ compared_items value part i (drop i es) (drop i gs) → i < length es → e ≡ get_or es i e → i < length gs → g ≡ get_or gs i g
    → d ≡ compared part i (value e) (value g) → is_some d ≡ false → told ≡ compared_items value part (i + 1) (drop (i + 1) es) (drop (i + 1) gs)
unfolding compared_items
items_more value part es gs i e g told d inv k to h at c s =
    inv ∙ rw (part_at es i e k to, part_at gs i g h at, sym c, add-one) (second d _ s)

pub items_end : {A : Type 0} (value : A → ℤ) (part : Part) (es gs : List A) (i : ℕ) (told : Option Difference)
    → told ≡ compared_items value part i (drop i es) (drop i gs) → length gs ≤ i → None ≡ told
unfolding compared_items
items_end value part es gs i told inv h = sym (inv ∙ rw (drop_of_length-le gs {i = i} h) (nothing (drop i es)))
  where
    nothing : (xs : List _) → compared_items value part i xs [] ≡ None
    nothing [] = refl
    nothing (x ∷ xs) = refl

-- ---- a front

pub front_short : {A : Type 0} (value : A → ℤ) (part : Part) (v : A) (es gs : List A) (i : ℕ) (e : A) (told : Option Difference)
    → told ≡ compared_front value part i v (drop i es) (drop i gs) → i < length es → e ≡ get_or es i e → length gs ≤ i
    → differs part i (value e) (pos 0) ≡ told
unfolding compared_front
front_short value part v es gs i e told inv k to h = sym (inv ∙ rw (part_at es i e k to, drop_of_length-le gs {i = i} h) refl)

pub front_stop : {A : Type 0} (value : A → ℤ) (part : Part) (v : A) (es gs : List A) (i : ℕ) (e g : A) (told d : Option Difference)
    → told ≡ compared_front value part i v (drop i es) (drop i gs) → i < length es → e ≡ get_or es i e → i < length gs → g ≡ get_or gs i g
    → d ≡ compared part i (value e) (value g) → is_some d ≡ true → d ≡ told
unfolding compared_front
front_stop value part v es gs i e g told d inv k to h at c s = sym (inv ∙ rw (part_at es i e k to, part_at gs i g h at, sym c) (first d _ s))

pub front_more : {A : Type 0} (value : A → ℤ) (part : Part) (v : A) (es gs : List A) (i : ℕ) (e g : A) (told d : Option Difference)
    → told ≡ compared_front value part i v (drop i es) (drop i gs) → i < length es → e ≡ get_or es i e → i < length gs → g ≡ get_or gs i g
    → d ≡ compared part i (value e) (value g) → is_some d ≡ false → told ≡ compared_front value part (i + 1) v (drop (i + 1) es) (drop (i + 1) gs)
unfolding compared_front
front_more value part v es gs i e g told d inv k to h at c s =
    inv ∙ rw (part_at es i e k to, part_at gs i g h at, sym c, add-one) (second d _ s)

pub front_end : {A : Type 0} (value : A → ℤ) (part : Part) (v : A) (es gs : List A) (i n : ℕ) (told : Option Difference)
    → told ≡ compared_front value part i v (drop i es) (drop i gs) → i ≡ length es → n ≡ length es
    → compared_held value part n v (drop n gs) ≡ told
unfolding compared_front
front_end value part v es gs i n told inv h m =
    let same : n ≡ i = m ∙ sym h in
    sym (inv ∙ rw (same, drop_of_length-le es {i = i} (omega (arith, h))) refl)
