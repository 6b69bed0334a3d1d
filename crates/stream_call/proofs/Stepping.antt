-- ONE STEP BY ITS PARTS: the value read, the hits at the node that it leads to, and the rises over
-- them.
use Rattle.std.specs.Prelude.{◌≡◌, ◌++◌, ◌*◌}
use Rattle.lists.proofs.Prelude.{◌∙◌, ap, ap₂, sym, List, map, ℕ, ℤ, length, drop, length-map}
use Rattle.pattern_set.specs.PatternSet.{PatternSet}
use Rattle.matching.specs.Matching.{hit_words}
use Rattle.matching.specs.Rise.{rise}
use Rattle.automaton_model.specs.Automaton.{head_of, listed}
use Rattle.search_model.specs.Search.{Position, step}
use Rattle.stream_step.specs.PlaceWords.{place_words}
use Rattle.node_rises.specs.Risen.{place_rises}
use Rattle.read_value.specs.declared.Read.{Read}
use Rattle.read_value.specs.Read.{IsRead}
use Rattle.stream_call.specs.Numbers.{IsStepped}

pub stepped : (ps : PatternSet) (st : Position) (x : ℤ) (places : List ℕ) (values : List ℤ) (before after : List ℕ) (at : ℕ → ℤ) (second left : List ℤ)
    (r : Read) (n : ℕ)
    → IsRead ps st x places values r
    → n ≡ length (listed ps (head_of ps r.node))
    → after ≡ place_words st.taken (listed ps (head_of ps r.node)) ++ drop (2 * length (listed ps (head_of ps r.node))) before
    → left ≡ place_rises ps at st.taken (listed ps (head_of ps r.node)) ++ drop (length (listed ps (head_of ps r.node))) second
    → IsStepped ps st x places values before after at second left
    (record { first = r.first; next = r.next; node = r.node; attempts = r.attempts; hits = n })
stepped ps st x places values before after at second left r n i en ew er =
    let js = listed ps (head_of ps r.node) in
    let l : length js ≡ length (step ps st x).hits =
    sym (ap length i.hits ∙ length-map {B = ℕ × ℕ} js (λ (j : ℕ). (st.taken, j))) in
    record {
      state = i.state;
      counters = i.counters;
      attempts = i.attempts;
      hits = en ∙ l;
      words = ew ∙ ap₂ (λ (hs : List (ℕ × ℕ)) (m : ℕ). hit_words hs ++ drop (2 * m) before) (sym i.hits) l;
      rises = er ∙ ap₂ (λ (hs : List (ℕ × ℕ)) (m : ℕ). map (rise ps at) hs ++ drop m second) (sym i.hits) l;
    }
