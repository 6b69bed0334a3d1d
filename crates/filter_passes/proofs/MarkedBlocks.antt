-- MARKS: a bit stored for a block marks it and takes no other mark away.
use Rattle.std.specs.Prelude.{◌≡◌, ◌||◌, ◌/◌, ◌%◌, ◌<◌}
use Rattle.lists.proofs.Prelude.{◌∙◌, ap, sym, refl, subst, Bool, true, false, List, ℕ, T, eqb, eqb_refl, length, get_or, set}
use Rattle.lists.proofs.Prelude.{length-set, get_or-set_same, get_or-set_other, arith, eqb-true, eqb-false}
use Rattle.lists.proofs.Tests.{or_left, or_right}
use Rattle.bit_sets.specs.BitSets.{bit_at}
use Rattle.bit_sets.proofs.Digits.{bit_at_none}
use Rattle.filter_passes.specs.Passes.{is_marked, MarkedIf}

module _ (marks : List ℕ) (w i v : ℕ) (inside : w < length marks) (bit : i < 64)
    (stored : (j : ℕ) → j < 64 → bit_at v j ≡ (eqb j i || bit_at (get_or marks w 0) j)) where
  others_kept : (block : ℕ) → T (is_marked marks block) → T (is_marked (set marks w v) block)
  others_kept block t = go (eqb (block / 64) w) refl
    where
      go : (b : Bool) → eqb (block / 64) w ≡ b → T (is_marked (set marks w v) block)
      go true q =
          let e = eqb-true (block / 64) w q in
          let j = block % 64 in
          subst T
          (sym (ap (λ (x : ℕ). bit_at (get_or (set marks w v) x 0) j) e ∙ ap (λ (x : ℕ). bit_at x j) (get_or-set_same marks w v 0 inside)
          ∙ stored j (omega arith)))
          (or_right (eqb j i) (bit_at (get_or marks w 0) j) (subst (λ (x : ℕ). T (bit_at (get_or marks x 0) j)) e t))
      go false q = subst T (sym (ap (λ (x : ℕ). bit_at x (block % 64)) (get_or-set_other marks w (block / 64) v 0 (eqb-false (block / 64) w q)))) t

  is_set : T (bit_at (get_or (set marks w v) w 0) i)
  is_set =
      subst T (sym (ap (λ (x : ℕ). bit_at x i) (get_or-set_same marks w v 0 inside) ∙ stored i bit))
      (or_left (eqb i i) (bit_at (get_or marks w 0) i) (eqb_refl i))

-- the bit of the block of place p is stored
pub mark_set : (marks : List ℕ) (p found v : ℕ) → p / 64 / 64 < length marks
    → ((j : ℕ) → j < 64 → bit_at v j ≡ (eqb j (p / 64 % 64) || bit_at (get_or marks (p / 64 / 64) 0) j))
    → MarkedIf marks (set marks (p / 64 / 64) v) p found
mark_set marks p found v h b = record {
  size = length-set marks (p / 64 / 64) v;
  none_lost = others_kept marks (p / 64 / 64) (p / 64 % 64) v h (omega arith) b;
  marked = λ r k t. is_set marks (p / 64 / 64) (p / 64 % 64) v h (omega arith) b;
}

pub mark_none : (marks : List ℕ) (p found : ℕ) → found ≡ 0 → MarkedIf marks marks p found
mark_none marks p found e = record {
  size = refl;
  none_lost = λ block t. t;
  marked = λ r k t. absurd (subst T (ap (λ (x : ℕ). bit_at x r) e ∙ bit_at_none r) t);
}
