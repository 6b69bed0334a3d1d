-- `search` meets its contract: what is lent are the first words and values, or all where there are
-- fewer, and what is behind them stays.
use Rattle.std.specs.Prelude.{◌≡◌, ◌++◌}
use Rattle.std.proofs.lemmas.List.{take_min, drop_min}
use Rattle.lists.proofs.Prelude.{◌∙◌, ap, ap₂, List, ℕ, min, length, take, drop, arith}
use Rattle.entries.specs.Entries.{after, filter_entry, filter_rises}
use Rattle.test_filter.proofs.search.Goals as goal

cut : {A B : Type 0} (f : List A → List B → List A) (xs new : List A) (ys : List B) (n m room values : ℕ)
    → n ≡ min room (length xs) → m ≡ min values (length ys) → new ≡ f (take n xs) (take m ys)
    → new ++ drop n xs ≡ f (take room xs) (take values ys) ++ drop room xs
cut f xs new ys n m room values p q e =
    ap₂ (λ (a : List _) (b : List _). a ++ b)
    (e ∙ ap₂ f (ap (λ (k : ℕ). take k xs) p ∙ take_min room xs) (ap (λ (k : ℕ). take k ys) q ∙ take_min values ys))
    (ap (λ (k : ℕ). drop k xs) p ∙ drop_min room xs)

pub returns-clause-hits_after : goal.returns-clause-hits_after
returns-clause-hits_after c =
    let a = c.args in
    cut (λ out rises. after (filter_entry a.set.now a.text.now out rises) out) a.out.now _ a.rises.now _ _ a.room a.values
    (omega (arith, c.min-n.ensures)) (omega (arith, c.min-m.ensures)) c.filter_search.ensures.hits_after

pub returns-clause-rises_after : goal.returns-clause-rises_after
returns-clause-rises_after c =
    let a = c.args in
    cut (λ rises out. after (filter_rises a.set.now a.text.now out rises) rises) a.rises.now _ a.out.now _ _ a.values a.room
    (omega (arith, c.min-m.ensures)) (omega (arith, c.min-n.ensures)) c.filter_search.ensures.rises_after
