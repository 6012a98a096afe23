-- The width of a graph from a list of flags, one for each edge.
use Rattle.std.proofs.Common.{◌≡◌, ℕ, List, [], ◌∷◌, Bool, false, ◌&&◌, ◌<◌, ◌^◌, true, ltb-true, nat_le, nat_lt, length, refl, sym, ap, ◌∙◌}
use Rattle.std.specs.Prelude.{map, slice_index_or}
use Rattle.std.specs.List.{list_all}
use Rattle.std.proofs.Math.ListN.{get_or-map}
use Rattle.std.proofs.lemmas.Bool.{and_parts}
use Rattle.decomposition.proofs.Root.{all-place}
use Rattle.decomposition.specs.Answer.{is_ordered}
use Rattle.report_terms.specs.NetFacts.{AreRisingEdges}
use Rattle.decomposition.specs.declared.Range.{Range}
use Rattle.decomposition.specs.Graph.{Graph, edge_count}
use Rattle.decomposition.specs.Instance.{range_at}
use Rattle.decomposition.specs.Width.{IsPathCover, IsAntichainOf, IsWidthOf}
use Rattle.decomposition.proofs.Extremes.{covers_show_widths}

-- whether each edge has a lower bound of at least 1
abbrev pub flags : List Range → List Bool
flags ranges = map (λ r. nat_le 1 r.lo) ranges

flags-at : (ranges : List Range) (e : ℕ) → slice_index_or (flags ranges) e false ≡ nat_le 1 (range_at ranges e).lo
flags-at ranges e = get_or-map (λ (r : Range). nat_le 1 r.lo) ranges e (record { lo = 0; hi = 0 })

all-same : (p q : ℕ → Bool) → ((e : ℕ) → p e ≡ q e) → (es : List ℕ) → list_all p es ≡ list_all q es
all-same p q same [] = refl
all-same p q same (e ∷ es) = ap (λ b. b && list_all p es) (same e) ∙ ap (λ b. q e && b) (all-same p q same es)

antichain-same : (g : Graph) (p q : ℕ → Bool) (es : List ℕ) → ((e : ℕ) → p e ≡ q e) → IsAntichainOf g p es → IsAntichainOf g q es
antichain-same g p q es same chain = record {
  listed = sym (all-same (λ e. nat_lt e (edge_count g) && p e) (λ e. nat_lt e (edge_count g) && q e) (λ e. ap (λ b. nat_lt e (edge_count g) && b) (same e)) es) ∙ chain.listed;
  apart = chain.apart;
}

-- an antichain of the flagged edges
pub antichain-flags : (g : Graph) (ranges : List Range) (es : List ℕ) → IsAntichainOf g (λ e. slice_index_or (flags ranges) e false) es
    → IsAntichainOf g (λ e. nat_le 1 (range_at ranges e).lo) es
antichain-flags g ranges es chain = antichain-same g _ _ es (flags-at ranges) chain

-- and their width
pub width-flags : (g : Graph) (ranges : List Range) (cover : List (List ℕ)) (es : List ℕ) → IsPathCover g (λ e. slice_index_or (flags ranges) e false) cover
    → IsAntichainOf g (λ e. slice_index_or (flags ranges) e false) es → length cover ≡ length es → IsWidthOf g (λ e. nat_le 1 (range_at ranges e).lo) (length es)
width-flags g ranges cover es covers chain equal =
    let wide = covers_show_widths g (λ e. slice_index_or (flags ranges) e false) cover es covers chain equal in
    record {
      reached = (es, antichain-flags g ranges es chain, refl);
      greatest = λ fs other. wide.greatest fs (antichain-same g _ _ fs (λ e. sym (flags-at ranges e)) other);
    }

-- the edges of an antichain, where they rise and are few
pub rising_edges : (g : Graph) (needed : ℕ → Bool) (es : List ℕ) → length es < 2 ^ 64 → IsAntichainOf g needed es → is_ordered nat_lt es ≡ true → AreRisingEdges g es
rising_edges g needed es few chain rising = record {
  within = λ k d there. ltb-true _ _ (and_parts _ _ (all-place (λ e. nat_lt e (edge_count g) && needed e) es d k chain.listed there)).0;
  rising = rising;
  few = few;
}
