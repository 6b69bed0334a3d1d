-- A code passes the test exactly if it is the rank of a realizable list of the length: ranking
-- loses nothing, so the list to test is the one that unranking finds.
use Rattle.std.specs.Prelude.{◌≡◌, ◌↔◌, ◌<◌}
use Rattle.lists.proofs.Prelude.{◌∙◌, sym, subst, ap₂, List, ℕ, T, ltb, ltb→lt, lt→ltb, length}
use Rattle.lists.proofs.Tests.{and_split, and_join}
use Rattle.realization.specs.Realization.{Realizable, realizable}
use Rattle.realization.proofs.Realizable.{realizable_iff, Realizable-Ok}
use Rattle.ranking.specs.Rank.{factorial, rank, unrank, is_rank}
use Rattle.ranking.proofs.Rank.{length-unrank, rank-unrank, rank-lt, decode_encode}

-- THE LAW
pub is_rank_iff : (n code : ℕ) → T (is_rank n code) ↔ ((ds : List ℕ) × Realizable ds × (length ds ≡ n) × (rank ds ≡ code))
unfolding is_rank
is_rank_iff n code = (
  λ t. let p = and_split (ltb code (factorial n)) (realizable (unrank n code)) t in
      (unrank n code, (realizable_iff (unrank n code)).0 p.1, length-unrank n code, rank-unrank n code (ltb→lt code (factorial n) p.0)),
  λ p.
      let ds = p.0 in
      let lt : code < factorial n =
      subst (λ (k : ℕ). code < factorial k) p.2 (subst (λ (k : ℕ). k < factorial (length ds)) p.3 (rank-lt ds (Realizable-Ok ds p.1))) in
      let e : ds ≡ unrank n code = sym (decode_encode ds p.1) ∙ ap₂ unrank p.2 p.3 in
      and_join (ltb code (factorial n)) (realizable (unrank n code)) (lt→ltb code (factorial n) lt)
      ((realizable_iff (unrank n code)).1 (subst Realizable e p.1)),
)
