-- The totals of the bounds of a box are its sums.
use Rattle.std.proofs.Common.{◌^◌, ◌≡◌, ℕ, ◌+◌, ◌-◌, ◌<◌, ◌≤◌, max, cond, List, length, slice_index, refl, sym, ap, ◌∙◌, subst, arith}
use Rattle.std.proofs.lemmas.List.Elements.{All-get_or}
use Rattle.decomposition.specs.Graph.{Graph, IsNet, edge_count, has_edge, paths}
use Rattle.decomposition.specs.Answer.{sum_below}
use Rattle.decomposition.specs.Boxes.{Slot, slot_at, upper_at, lower_at, may_have, low_on, high_on, gap}
use Rattle.decomposition.specs.Instance.{Instance, range}
use Rattle.decomposition.specs.Reach.{IsBegun}
use Rattle.decomposition.specs.declared.Range.{Range}
use Rattle.decomposition.proofs.Sums.{sum_below-same, sum_below-add}
use Rattle.link_cells.specs.Links.{LinkList, walk_of}
use Rattle.refute_tree.specs.declared.sums.Weights.{Weights}
use Rattle.refute_tree.specs.OneBox.{box_of, IsBoxBegun}
use Rattle.refute_tree.specs.Sums.{AreBounds, AreTotals, AreSmall, SumsUp, sum_where, is_empty, leads_to, high_at, outside}
use Rattle.refute_tree.proofs.Placing.{walk_at}
use Rattle.refute_tree.proofs.SumsBounds.{length-box}
use Rattle.refute_tree.proofs.SumsTotals.{sum_where-few}
use Rattle.refute_tree.proofs.SumsWalks.{may_have-either}

-- the walk of a slot of a box is begun
pub begun-at : (g : Graph) (ranges : List Range) (links : List (ℕ × ℕ)) (k : ℕ) → k < length ranges → IsBoxBegun g (box_of ranges links) → IsBegun g (walk_of links k)
begun-at g ranges links k inside begun =
    subst (IsBegun g) (walk_at ranges links k inside) (All-get_or (λ (s : Slot). IsBegun g s.walk) (box_of ranges links) k _ (omega (arith, inside, length-box ranges links)) begun)

module _ (g : Graph) (net : IsNet g) (l : LinkList) (s : Weights) (totals : AreTotals g l s) where
  uppers_long : l.slots ≤ length s.uppers.items
  uppers_long = omega (arith, totals.room.uppers, s.uppers.ok.0)

  lowers_long : l.slots ≤ length s.lowers.items
  lowers_long = omega (arith, totals.room.lowers, s.lowers.ok.0)

  -- the greatest weight on an edge, over the slots with an empty walk and the others
  pub high-is : (e : ℕ) → e < edge_count g → high_at s e ≡ sum_where (λ k. may_have (paths g) (walk_of l.links k) e) s.uppers.items l.slots
  high-is e inside =
      let led = λ (k : ℕ). cond (leads_to g (walk_of l.links k) e) (slice_index s.uppers.items k) 0 in
      let free = λ (k : ℕ). cond (is_empty (walk_of l.links k)) (slice_index s.uppers.items k) 0 in
      let all = λ (k : ℕ). cond (may_have (paths g) (walk_of l.links k) e) (slice_index s.uppers.items k) 0 in
      let both = sum_below-same all (λ k. led k + free k) l.slots (λ k h. may_have-either g net (walk_of l.links k) e inside (slice_index s.uppers.items k)) in
      omega (arith, totals.high e inside, totals.everywhere, both, sum_below-add led free l.slots)

  -- the weights are small
  pub totals-small : AreSmall (2 ^ 96) s
  totals-small = record {
    low = λ e h. omega (arith, totals.low e (omega (arith, h, totals.room.low, s.low.ok.0)), sum_where-few (λ k. has_edge (walk_of l.links k) e) s.lowers.items l.slots lowers_long totals.few totals.lowers);
    high = λ e h. omega (arith, high-is e (omega (arith, h, totals.room.high, s.high.ok.0)), sum_where-few (λ k. may_have (paths g) (walk_of l.links k) e) s.uppers.items l.slots uppers_long totals.few totals.uppers);
    everywhere = omega (arith, totals.everywhere, sum_where-few (λ k. is_empty (walk_of l.links k)) s.uppers.items l.slots uppers_long totals.few totals.uppers);
  }

  module _ (ranges : List Range) (slots : l.slots ≡ length ranges) (bounds : AreBounds (box_of ranges l.links) s) where
    long : l.slots ≡ length (box_of ranges l.links)
    long = slots ∙ sym (length-box ranges l.links)

    -- the least weights are those of the box
    pub low-on_box : (e : ℕ) → e < edge_count g → slice_index s.low.items e ≡ low_on (box_of ranges l.links) e
    low-on_box e inside =
        let b = box_of ranges l.links in
        let kept = λ (k : ℕ). cond (has_edge (walk_of l.links k) e) (slice_index s.lowers.items k) 0 in
        let told = λ (k : ℕ). cond (has_edge (slot_at b k).walk e) (lower_at b k) 0 in
        totals.low e inside
        ∙ sum_below-same kept told l.slots (λ k h.
        ap (λ w. cond (has_edge w e) (slice_index s.lowers.items k) 0) (sym (walk_at ranges l.links k (omega (arith, h, slots))))
        ∙ ap (λ x. cond (has_edge (slot_at b k).walk e) x 0) (bounds.lowers k (omega (arith, h, long))))
        ∙ ap (sum_below told) long

    -- and so are the greatest
    pub high-on_box : (e : ℕ) → e < edge_count g → high_at s e ≡ high_on (paths g) (box_of ranges l.links) e
    high-on_box e inside =
        let b = box_of ranges l.links in
        let kept = λ (k : ℕ). cond (may_have (paths g) (walk_of l.links k) e) (slice_index s.uppers.items k) 0 in
        let told = λ (k : ℕ). cond (may_have (paths g) (slot_at b k).walk e) (upper_at b k) 0 in
        high-is e inside
        ∙ sum_below-same kept told l.slots (λ k h.
        ap (λ w. cond (may_have (paths g) w e) (slice_index s.uppers.items k) 0) (sym (walk_at ranges l.links k (omega (arith, h, slots))))
        ∙ ap (λ x. cond (may_have (paths g) (slot_at b k).walk e) x 0) (bounds.uppers k (omega (arith, h, long))))
        ∙ ap (sum_below told) long

-- so is the gap
pub gap-of_box : (i : Instance) (ranges : List Range) (l : LinkList) (s : Weights) → IsNet i.graph → AreTotals i.graph l s → l.slots ≡ length ranges → AreBounds (box_of ranges l.links) s
    → (m : ℕ) → m ≡ edge_count i.graph → sum_below (outside s i.ranges) m ≡ gap i (box_of ranges l.links)
gap-of_box i ranges l s net totals slots bounds m edges =
    let b = box_of ranges l.links in
    let told = λ (e : ℕ). max (low_on b e - (range i e).hi) ((range i e).lo - high_on (paths i.graph) b e) in
    ap (sum_below (outside s i.ranges)) edges ∙ sum_below-same (outside s i.ranges) told (edge_count i.graph) (λ e h.
    rw (low-on_box i.graph net l s totals ranges slots bounds e h, high-on_box i.graph net l s totals ranges slots bounds e h) refl)

-- the totals of the bounds of a box, with its gap
pub sums-up : (i : Instance) (ranges : List Range) (l : LinkList) (s : Weights) (n : ℕ) → IsNet i.graph → AreTotals i.graph l s → l.slots ≡ length ranges → AreBounds (box_of ranges l.links) s
    → n ≡ gap i (box_of ranges l.links) → SumsUp i (box_of ranges l.links) (record s { gap = n })
sums-up i ranges l s n net totals slots bounds is =
    let small = totals-small i.graph net l s totals in
    record {
      bounds = record { uppers = bounds.uppers; lowers = bounds.lowers };
      low = λ e h. low-on_box i.graph net l s totals ranges slots bounds e (omega (arith, h, totals.room.low, s.low.ok.0));
      high = λ e h. high-on_box i.graph net l s totals ranges slots bounds e (omega (arith, h, totals.room.high, s.high.ok.0));
      small = record { low = small.low; high = small.high; everywhere = small.everywhere };
      gap = is;
    }
