-- Sums of a flow at the ends of edges, edge by edge.
use Rattle.std.proofs.Common.{◌≡◌, ◌≢◌, ◌==◌, ℕ, ◌+◌, ◌*◌, ◌<◌, ◌≤◌, List, length, cond, slice_index, slice_set, sym, ap, ◌∙◌, ⊎_elim, arith, get_or-set_same, get_or-set_other, eq-eqb}
use Rattle.std.proofs.lemmas.Bool.{cases_eq, ne_eqb, cond-true, cond-false}
use Rattle.std.proofs.lemmas.List.{length-set}
use Rattle.decomposition.specs.Answer.{sum_below}
use Rattle.decomposition.proofs.Sums.{sum_below_more}

-- for each of n vertices, the flow of the first `count` edges that have it as their end; no sum is great
pub record AddsUp (most : ℕ) (end flow : ℕ → ℕ) (n count : ℕ) (sums : List ℕ) : Type 0 where
  pub room : length sums ≡ n
  pub at : (v : ℕ) → v < n → slice_index sums v ≡ sum_below (λ e. cond (end e == v) (flow e) 0) count
  pub small : (v : ℕ) → slice_index sums v ≤ count * most

module _ (most : ℕ) (end flow : ℕ → ℕ) (n e h r w : ℕ) (sums : List ℕ) (is_end : h ≡ end e) (within : h < length sums) (read : r ≡ slice_index sums h) (units : w ≡ flow e) (little : w ≤ most) (so_far : AddsUp most end flow n e sums) where
  one_more : (v : ℕ) → sum_below (λ e. cond (end e == v) (flow e) 0) (e + 1) ≡ sum_below (λ e. cond (end e == v) (flow e) 0) e + cond (end e == v) (flow e) 0
  one_more v = sum_below_more (λ e. cond (end e == v) (flow e) 0) e

  -- one more edge adds its flow at its end
  pub AddsUp-more : AddsUp most end flow n (e + 1) (slice_set sums h (r + w))
  AddsUp-more = record {
    room = length-set sums h (r + w) ∙ so_far.room;
    at = λ v hv.
        ⊎_elim
        (λ (same : v ≡ h).
        omega (
          arith,
          ap (slice_index (slice_set sums h (r + w))) same,
          get_or-set_same sums h (r + w) 0 within,
          ap (slice_index sums) same,
          so_far.at v hv,
          one_more v,
          cond-true (end e == v) (flow e) 0 (eq-eqb (end e) v (sym (same ∙ is_end))),
        ))
        (λ (other : v ≢ h).
        omega (
          arith,
          get_or-set_other sums h v (r + w) 0 other,
          so_far.at v hv,
          one_more v,
          cond-false (end e == v) (flow e) 0 (ne_eqb (end e) v (λ s. other (sym (is_end ∙ s)))),
        ))
        (cases_eq v h);
    small = λ v.
        ⊎_elim
        (λ (same : v ≡ h). omega (arith, ap (slice_index (slice_set sums h (r + w))) same, get_or-set_same sums h (r + w) 0 within, so_far.small h))
        (λ (other : v ≢ h). omega (arith, get_or-set_other sums h v (r + w) 0 other, so_far.small v))
        (cases_eq v h);
  }
