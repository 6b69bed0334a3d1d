-- What all proofs are written with: what definitions are written with, and the kit's laws and
-- tactics, under their own names; the laws of `Memᴰ` have its name in front. The operators of
-- statements come from the kit's own prelude.
pub use mathlib.Core.Path.{◌∙◌, ap, sym, refl, subst, ap₂}
pub use mathlib.Core.Logic.{inl, inr, ⊎_elim}
pub use mathlib.Core.Bool.{Bool, true, false, cond, not, true≢false, false≢true}
pub use Rattle.std.specs.Prelude.{Option, None, Some}
pub use Rattle.std.proofs.lemmas.Option.{same_Some, none-some}
pub use mathlib.Core.List.Memᴰ.{head as Memᴰ-head}
pub use mathlib.Core.List.Memᴰ.{not-nil as Memᴰ-not-nil}
pub use mathlib.Core.List.Memᴰ.{tail as Memᴰ-tail}
pub use mathlib.Core.List.{List, [], map, foldr, append-nil, Memᴰ, append_assoc}
pub use mathlib.Core.List.Memᴰ.{append_cases as Memᴰ-append_cases}
pub use mathlib.Core.List.Memᴰ.{append_left as Memᴰ-append_left}
pub use mathlib.Core.List.Memᴰ.{append_right as Memᴰ-append_right}
pub use mathlib.Core.List.Memᴰ.{cases_cons as Memᴰ-cases_cons}
pub use mathlib.Core.List.Memᴰ.{cast as Memᴰ-cast}
pub use mathlib.Core.List.Memᴰ.{eq_of_singleton as Memᴰ-eq_of_singleton}
pub use mathlib.Core.List.{nil≢cons, cons≢nil, head-eq_of_cons-eq, tail-eq_of_cons-eq}
unfoldable pub use mathlib.Core.List.{flatten}
pub use Prim.Native.Nat.{ℕ, zero, suc, pred, min, zero-le}
pub use lib.IntN.{ℤ, pos, negsuc}
pub use lib.Signed.{le_z, lt_z, lt_z_yes, le_z_yes, ≤ℤ_refl, <ℤ-≤ℤ_trans, mag, lt_z_no}
pub use lib.Dec.{T, eqb, leb, ltb, leb→le, le→leb, eqb→eq, ltb→lt, lt→ltb, eqb_refl, eqb-suc-zero, eqb-suc-suc, eqb-zero-suc, T_not, leb-suc-zero}
pub use lib.Dec.{not_T}
pub use lib.ListN.{length, get_or, take, drop, set, replicate, length-append, length-take, length-drop, length-set, drop_of_length-le, get_or-append}
pub use lib.ListN.{length-map, take-append-drop, length-replicate, get_or-map, get_or-replicate, get_or-eq_default}
pub use lib.Seq.{length-take-le, drop-cons, get_or-take, take-suc, take_all, append_snoc, get_or-drop, take_at, drop-drop, ext_get_or, set_at, drop_at}
pub use lib.Seq.{take-append_seam, get_or-set_same, get_or-set_other, take-add, drop-append-add, take-take, get_or_at, sets, take-length, get_or-append-add}
pub use lib.Seq.{take-append-le, length-sets, get_or-append_seam, split_at, sets-eq, take-nil, take-suc-set, take-append-add, drop-append_seam}
pub use lib.Seq.{drop-append-le, set-append_left, set_split, drop-set-lt, drop-nil}
pub use lib.Pow.{pow-lt, pow_mono, pow_pos, shr-shr, shr_lt, field}
pub use native.Mathlib.Nat.{le_refl, add-zero, zero-add, mod-lt, pow-suc, mod-eq_of_lt, add-suc, mul-add-mod_self_right, add-mul, le_trans}
pub use native.Mathlib.Nat.{mul-le-mul_right, div-add-mod', min-le_left, lt_of_lt_of_le, zero-mod, one-le-pow, add_assoc, mul_assoc, pow-le-pow_right}
pub use native.Mathlib.Nat.{le-min, mod-add-mod, mod-one, mul-pos, add-mul-div_right, div-eq_of_lt, add-mul-mod_self_right, min-le_right, sub_self}
pub use native.Mathlib.Nat.{one-mul, mul_right_comm, dvd-mul_left, mod-mod_of_dvd, le_step, le_of_lt, div-one, zero-min, min-zero, zero-lt-suc}
pub use native.Mathlib.Nat.{le_of_eq, mul_comm, mul-le-mul_left}
pub use native.Mathlib.Numerals.{add-one, sub-one, add-two}
pub use native.Mathlib.Decide.{dec_lt}
pub use native.Mathlib.Omega.{arith}
pub use mir.Syntax.{w32}
pub use mir.Val.{SFits, to_z, of_z}
pub use mir.ValLaws.{to_z-of_z, to_z_pos}
pub use borrow.Author.Tests.{eq-eqb, le-leb, ne_eqb, lt-leb, not-false, lt-ltb, not-true, le-ltb, leb-true, eqb-true, leb-false, ltb-false, ltb-true}
pub use borrow.Author.Tests.{eqb-false}
pub use borrow.Author.Count.{below_more, below_none}
pub use borrow.Author.Rules.{rules}
pub use Rattle.lists.specs.Prelude.{eq_z, last_of, begins}
unfoldable pub use Rattle.lists.specs.Prelude.{tabulate, last_below, any, all, select, same, before}
