-- `moves::lower_offsets` moves one word more with each turn, made smaller; those that it has still
-- to move are as they were.
use Rattle.std.specs.Prelude.{◌≡◌, ◌+◌, ◌-◌, ◌≤◌, ◌<◌}
use Rattle.lists.proofs.Prelude.{◌∙◌, ap, sym, List, ℕ, length, get_or, take, drop, set, length-map}
use Rattle.lists.proofs.Prelude.{length-take-le}
use Rattle.lists.proofs.Prelude.{length-drop, get_or-take, get_or-drop, get_or-map, arith}
use Rattle.withdraw_pattern.proofs.Replacing.{turned_none, turned_more, turned_read, turned_all}
use Rattle.withdraw_pattern.proofs.moves.lower_offsets.Invariants.{lowered}
use Rattle.withdraw_pattern.proofs.moves.lower_offsets.Goals.{At-loop-i}
use Rattle.withdraw_pattern.proofs.moves.lower_offsets.Goals as goal

length-lowered : (ws : List ℕ) (from n m : ℕ) → from + n ≤ length ws → length (lowered ws from n m) ≡ n
length-lowered ws from n m h =
    length-map (take n (drop from ws)) (λ (w : ℕ). w - m) ∙ length-take-le n (drop from ws) (omega (arith, length-drop from ws))

get_d-lowered : (ws : List ℕ) (from n m i : ℕ) → i < n → get_or (lowered ws from n m) i 0 ≡ get_or ws (from + i) 0 - m
get_d-lowered ws from n m i h =
    let z : 0 ≡ 0 - m = omega arith in
    ap (get_or (lowered ws from n m) i) z
    ∙ get_or-map (λ (w : ℕ). w - m) (take n (drop from ws)) i 0
    ∙ ap (λ (w : ℕ). w - m) (get_or-take n (drop from ws) i 0 h ∙ get_or-drop from ws i 0)

-- the word that a turn reads is as it was
read_word : (c : At-loop-i) →
    let q = c.args.at + 1 + c.loop-i.i in
    get_or c.loop-i.words q 0 ≡ get_or c.args.words.now q 0
read_word c =
    let a = c.args in
    let ws = a.words.now in
    let i = c.loop-i.i in
    let q = a.at + 1 + i in
    let l = length-lowered ws (a.at + 1) a.n a.m (omega (arith, c.requires.n_in_bounds)) in
    ap (λ (z : List ℕ). get_or z q 0) c.loop-i.invariant
    ∙ turned_read a.at (lowered ws (a.at + 1) a.n a.m) ws (omega (arith, l, c.requires.n_in_bounds)) i q (omega (arith, l)) (omega arith)

pub loop-i-init : goal.loop-i-init
loop-i-init c =
    let a = c.args in
    let ws = a.words.now in
    let l = length-lowered ws (a.at + 1) a.n a.m (omega arith) in
    turned_none a.at (lowered ws (a.at + 1) a.n a.m) ws (omega (arith, l))

pub overflow_sub-words : goal.overflow_sub-words
overflow_sub-words c =
    let a = c.args in
    omega (arith, read_word (goal.at.overflow_sub-words c).At-loop-i, c.requires.by_index c.loop-i.i c.loop-i-test.true)

pub loop-i-preserved : goal.loop-i-preserved
loop-i-preserved c =
    let L = c.loop-i in
    let a = c.args in
    let ws = a.words.now in
    let q = a.at + 1 + L.i in
    let new = lowered ws (a.at + 1) a.n a.m in
    let l = length-lowered ws (a.at + 1) a.n a.m (omega arith) in
    let x : get_or L.words q 0 - a.m ≡ get_or new L.i 0 =
    ap (λ (w : ℕ). w - a.m) (read_word (goal.at.loop-i-preserved c).At-loop-i) ∙ sym (get_d-lowered ws (a.at + 1) a.n a.m L.i (omega arith)) in
    ap (λ (z : List ℕ). set z (a.at + L.i) (get_or L.words q 0 - a.m)) L.invariant
    ∙ turned_more a.at new ws (omega (arith, l)) L.i (get_or L.words q 0 - a.m) (omega (arith, l)) x

pub returns : goal.returns
returns c =
    let a = c.args in
    let L = c.loop-i in
    let ws = a.words.now in
    let l = length-lowered ws (a.at + 1) a.n a.m (omega arith) in
    L.invariant ∙ turned_all a.at (lowered ws (a.at + 1) a.n a.m) ws (omega (arith, l)) L.i (omega (arith, l, c.loop-i-test.false))
