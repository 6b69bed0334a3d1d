-- The answer of a filter search over a good set and a text that is not too long, with a second
-- array that is long enough.
use Rattle.std.specs.Prelude.{◌∷◌, ◌*◌}
use Rattle.lists.specs.Prelude.{List, [], map, ℕ, ltb, ℤ, length}
use Rattle.pattern_set.specs.PatternSet.{PatternSet}
use Rattle.matching.specs.Matching.{hits, hit_words, candidates}
use Rattle.matching.specs.Rise.{rise_in}
use Rattle.entries.specs.Entries.{Entry}

-- what it writes, by the hits; 11 where the list does not fit
abbrev pub found_writes : {A : Type 0} → (List (ℕ × ℕ) → List A) → PatternSet → List ℤ → List ℕ → Entry (ℕ × ℕ) A
found_writes written ps text out = record {
  conditions = (11, ltb (length out) (2 * length (hits ps text))) ∷ [];
  counts = (length (hits ps text), candidates ps text);
  result = written (hits ps text);
}

abbrev pub found_entry : PatternSet → List ℤ → List ℕ → Entry (ℕ × ℕ) ℕ
found_entry ps text out = found_writes hit_words ps text out

abbrev pub found_rises : PatternSet → List ℤ → List ℕ → Entry (ℕ × ℕ) ℤ
found_rises ps text out = found_writes (map (rise_in ps text)) ps text out
