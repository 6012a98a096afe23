-- The places of a run's edges by the vertices that they leave, one after another.
use Rattle.std.proofs.Common.{◌≡◌, ℕ, ◌+◌, ◌<◌, List, length, slice_index, set, length-set, arith, inl, inr, sym, ap, ◌∙◌}
use Rattle.std.proofs.lemmas.Bool.{cases_eq}
use Rattle.std.proofs.lemmas.List.{get_or-set_same, get_or-set_other}
use Rattle.decomposition.specs.Graph.{Graph, tail}
use Rattle.run_weight.specs.Exits.{ArePlacesBelow}

pub ArePlacesBelow-more : (g : Graph) (r : List ℕ) (k : ℕ) (places : List ℕ) → 0 < k → k < length r → tail g (slice_index r k) < length places
    → ArePlacesBelow g r k places → ArePlacesBelow g r (k + 1) (set places (tail g (slice_index r k)) k)
ArePlacesBelow-more g r k places behind inside vertex before =
    let v = tail g (slice_index r k) in
    let here = get_or-set_same places v k 0 vertex in
    record {
      count = length-set places v k ∙ before.count;
      there = λ u some. elim (cases_eq u v) [
        | inl same ↦
            let at : slice_index (set places v k) u ≡ k = ap (slice_index (set places v k)) same ∙ here in
            (omega (arith, at), ap (λ n. tail g (slice_index r n)) at ∙ sym same)
        | inr other ↦
            let at : slice_index (set places v k) u ≡ slice_index places u = get_or-set_other places v u k 0 other in
            let (low, is) = before.there u (omega (arith, at)) in
            (omega (arith, at), ap (λ n. tail g (slice_index r n)) at ∙ is)
      ];
      each = λ j positive below. elim (cases_eq (tail g (slice_index r j)) v) [
        | inl same ↦
            let at : slice_index (set places v k) (tail g (slice_index r j)) ≡ k = ap (slice_index (set places v k)) same ∙ here in
            omega (arith, at)
        | inr other ↦
            elim (cases_eq j k) [
              | inl is ↦ absurd (other (ap (λ n. tail g (slice_index r n)) is))
              | inr before_k ↦ omega (arith, get_or-set_other places v (tail g (slice_index r j)) k 0 other, before.each j positive (omega (arith, before_k)))
            ]
      ];
    }
