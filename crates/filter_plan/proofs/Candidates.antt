-- THE CANDIDATES of a place are as many in the order of the hits as in the order of the set, and no
-- fewer than the hits: each hit is one.
use Rattle.std.specs.Prelude.{◌≡◌, ◌≤◌}
use Rattle.lists.proofs.Prelude.{◌∙◌, ap, sym, Bool, List, [], ℕ, ℤ, T, length, get_or, select}
use Rattle.lists.proofs.Members.{get_or-mem}
use Rattle.lists.proofs.Tables.{tabulate-get_or}
use Rattle.lists.proofs.Counting.{how_many, length-how_many, how_many-tabulate, how_many-le}
use Rattle.pattern_set.specs.PatternSet.{PatternSet, good_set}
use Rattle.matching.specs.Matching.{last_hits, shortest, is_candidate}
use Rattle.filter_plan.specs.Plan.{hit_order, is_hit}
use Rattle.filter_plan.proofs.HitOrder.{good_number, hit_order-mem, how_many-hit_order, last_hits_order}
use Rattle.filter_plan.proofs.Checks.{shortest-le, hit_candidate}

-- as many patterns pass a test in the order of the hits as in the order of the set
pub select_order : (test : List ℕ → Bool) (ps : PatternSet) → T (good_set ps)
    → length (select test ps) ≡ length (select (λ j. test (get_or ps j [])) (hit_order ps))
select_order test ps g =
    length-how_many test ps
    ∙ ap (how_many test) (sym (tabulate-get_or [] ps))
    ∙ how_many-tabulate test (λ j. get_or ps j []) (length ps)
    ∙ sym (how_many-hit_order ps (λ j. test (get_or ps j [])) g)
    ∙ sym (length-how_many (λ j. test (get_or ps j [])) (hit_order ps))

pub candidates_order : (b : ℕ) (ps : PatternSet) (text : List ℤ) → T (good_set ps)
    → length (select (is_candidate b text) ps) ≡ length (select (λ j. is_candidate b text (get_or ps j [])) (hit_order ps))
candidates_order b ps text g = select_order (is_candidate b text) ps g

-- each hit is one
pub last_hits_candidates : (ps : PatternSet) (text : List ℤ) → T (good_set ps)
    → length (last_hits ps text) ≤ length (select (is_candidate (shortest 17 ps) text) ps)
last_hits_candidates ps text g =
    let b = shortest 17 ps in
    rw (
      last_hits_order ps text g,
      candidates_order b ps text g,
      length-how_many (λ j. is_hit text (get_or ps j [])) (hit_order ps),
      length-how_many
          (λ j. is_candidate b text (get_or ps j [])) (hit_order ps),
    )
    (how_many-le (λ j. is_hit text (get_or ps j [])) (λ j. is_candidate b text (get_or ps j [])) (hit_order ps)
    (λ j m t. let h = hit_order-mem ps j m in
    hit_candidate b text (get_or ps j []) (shortest-le 17 ps (get_or ps j []) (get_or-mem ps j [] h)) (good_number ps j g h).2 t))
