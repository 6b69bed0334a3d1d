-- What an answer tells determines the answer: from the numbers the answer can be read back.
use Rattle.std.specs.Prelude.{◌≡◌, ◌<◌, Result, Ok, Err}
use Rattle.lists.proofs.Prelude.{◌∙◌, ap, sym, refl, ℕ, zero, suc, arith, Option, None, Some}
use Rattle.answers.specs.declared.Refusal.{Refusal}
use Rattle.answers.specs.declared.SetSize.{SetSize}
use Rattle.answers.specs.declared.AutomatonSize.{AutomatonSize}
use Rattle.answers.specs.declared.Filtered.{Filtered}
use Rattle.answers.specs.declared.Counts.{Counts}
use Rattle.answers.specs.declared.End.{End}
use Rattle.answers.specs.declared.Progress.{Progress}
use Rattle.answers.specs.declared.Hit.{Hit}
use Rattle.answers.specs.declared.FirstHit.{FirstHit}
use Rattle.answers.specs.Told.{number, told_number, told_next, told_size, told_built, told_filtered, told_end, told_streamed, told_hit, told_first}
use Rattle.answers.proofs.Refusals.{refusal_of, number_refusal, number_positive}

-- a map that can be undone is injective
undo : {A B : Type 0} (f : A → B) (g : B → A) → ((a : A) → g (f a) ≡ a) → (a b : A) → f a ≡ f b → a ≡ b
undo f g h a b e = sym (h a) ∙ ap g e ∙ h b

-- the answer of a number and of what is read back of an accepted call
abbrev answer : {A : Type 0} → ℕ → A → Result A Refusal
answer zero a = Ok a
answer (suc n) a = Err (refusal_of (suc n))

answer_positive : {A : Type 0} (n : ℕ) (a : A) → 0 < n → answer n a ≡ Err (refusal_of n)
answer_positive zero a h = absurd (let z : ⊥ = omega arith in z)
answer_positive (suc n) a h = refl

refused : (A : Type 0) → Refusal → Result A Refusal
refused A r = Err r

answer_refused : {A : Type 0} (r : Refusal) (a : A) → answer (number r) a ≡ Err r
unfolding refused
answer_refused {A = A} r a = answer_positive (number r) a (number_positive r) ∙ ap (refused A) (number_refusal r)

pub told_number_injective : (a b : Result ℕ Refusal) → told_number a ≡ told_number b → a ≡ b
told_number_injective = undo told_number (λ (w : ℕ × ℕ). answer w.0 w.1) back
  where
    back : (a : Result ℕ Refusal) → answer (told_number a).0 (told_number a).1 ≡ a
    back (Ok n) = refl
    back (Err r) = answer_refused r 0

-- the last list or not
abbrev next_of : ℕ → ℕ → Option ℕ
next_of zero n = Some n
next_of (suc l) n = None

pub told_next_injective : (a b : Result (Option ℕ) Refusal) → told_next a ≡ told_next b → a ≡ b
told_next_injective = undo told_next (λ (w : ℕ × (ℕ × ℕ)). answer w.0 (next_of w.1.0 w.1.1)) back
  where
    back : (a : Result (Option ℕ) Refusal) → answer (told_next a).0 (next_of (told_next a).1.0 (told_next a).1.1) ≡ a
    back (Ok (Some n)) = refl
    back (Ok None) = refl
    back (Err r) = answer_refused r (Some 0)

abbrev size_of : ℕ × ℕ → SetSize
size_of w = record { patterns = w.0; distances = w.1 }

pub told_size_injective : (a b : Result SetSize Refusal) → told_size a ≡ told_size b → a ≡ b
told_size_injective = undo told_size (λ (w : ℕ × (ℕ × ℕ)). answer w.0 (size_of w.1)) back
  where
    back : (a : Result SetSize Refusal) → answer (told_size a).0 (size_of (told_size a).1) ≡ a
    back (Ok s) = refl
    back (Err r) = answer_refused r (size_of (0, 0))

abbrev built_of : ℕ × ℕ → AutomatonSize
built_of w = record { nodes = w.0; words = w.1 }

pub told_built_injective : (a b : Result AutomatonSize Refusal) → told_built a ≡ told_built b → a ≡ b
told_built_injective = undo told_built (λ (w : ℕ × (ℕ × ℕ)). answer w.0 (built_of w.1)) back
  where
    back : (a : Result AutomatonSize Refusal) → answer (told_built a).0 (built_of (told_built a).1) ≡ a
    back (Ok s) = refl
    back (Err r) = answer_refused r (built_of (0, 0))

abbrev filtered_of : ℕ × ℕ → Filtered
filtered_of w = record { hits = w.0; candidates = w.1 }

pub told_filtered_injective : (a b : Result Filtered Refusal) → told_filtered a ≡ told_filtered b → a ≡ b
told_filtered_injective = undo told_filtered (λ (w : ℕ × (ℕ × ℕ)). answer w.0 (filtered_of w.1)) back
  where
    back : (a : Result Filtered Refusal) → answer (told_filtered a).0 (filtered_of (told_filtered a).1) ≡ a
    back (Ok s) = refl
    back (Err r) = answer_refused r (filtered_of (0, 0))

-- ended or full
abbrev end_of : ℕ → End
end_of zero = End.Full
end_of (suc n) = End.Ended

end_told : (e : End) → end_of (told_end e) ≡ e
end_told End.Ended = refl
end_told End.Full = refl

abbrev progress_of : ℕ × ℕ × ℕ × ℕ → Progress
progress_of w = record { end = end_of w.0; counts = record { taken = w.1; hits = w.2; attempts = w.3 } }

ends : End → Counts → Progress
ends e c = record { end = e; counts = c }

progress_told : (e : End) (c : Counts) → progress_of (told_end e, c.taken, c.hits, c.attempts) ≡ record { end = e; counts = c }
unfolding ends
progress_told e c = ap (λ (f : End). ends f c) (end_told e)

pub told_streamed_injective : (a b : Result Progress Refusal) → told_streamed a ≡ told_streamed b → a ≡ b
told_streamed_injective = undo told_streamed (λ (w : ℕ × (ℕ × ℕ × ℕ × ℕ)). answer w.0 (progress_of w.1)) back
  where
    back : (a : Result Progress Refusal) → answer (told_streamed a).0 (progress_of (told_streamed a).1) ≡ a
    back (Ok p) = ap (λ (g : Progress). answer 0 g) (progress_told p.end p.counts)
    back (Err r) = answer_refused r (progress_of (0, 0, 0, 0))

-- a hit or none
abbrev hit_of : ℕ → Hit → Option Hit
hit_of zero h = None
hit_of (suc n) h = Some h

abbrev first_of : ℕ × ℕ × ℕ × ℕ → FirstHit
first_of w = record { hit = hit_of w.0 (record { last = w.1; pattern = w.2 }); read = w.3 }

first_told : (hit : Option Hit) (read : ℕ) → first_of (told_hit hit read) ≡ record { hit = hit; read = read }
first_told (Some h) read = refl
first_told None read = refl

pub told_first_injective : (a b : Result FirstHit Refusal) → told_first a ≡ told_first b → a ≡ b
told_first_injective = undo told_first (λ (w : ℕ × (ℕ × ℕ × ℕ × ℕ)). answer w.0 (first_of w.1)) back
  where
    back : (a : Result FirstHit Refusal) → answer (told_first a).0 (first_of (told_first a).1) ≡ a
    back (Ok f) = ap (λ (g : FirstHit). answer 0 g) (first_told f.hit f.read)
    back (Err r) = answer_refused r (first_of (0, 0, 0, 0))
