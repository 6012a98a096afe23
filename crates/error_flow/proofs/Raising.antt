-- Levels that are changed by 1 at the inner vertices of a cut have a greater bound.
--
-- The ranges are those in which a flow costs no more than the shares. Where the edges that enter a set must carry more than those that leave it can, a level that is higher by 1
-- there adds the lower bound of each edge that enters and takes away at most the upper bound of each edge that leaves. No edge that leaves falls, since then it could carry
-- as much as all weights together. The other side is the same against the edges.
use Rattle.std.proofs.Common.{◌≡◌, ℕ, zero, suc, ◌<◌, ◌≤◌, ◌&&◌, ◌||◌, cond, Bool, true, false, not, List, refl, sym, ap, ◌∙◌, arith, true≢false}
use Rattle.std.specs.Prelude.{ℤ, pos, negsuc, ◌+ℤ◌, ◌-ℤ◌, ◌≤ℤ◌, ◌<ℤ◌, nat_lt}
use Rattle.std.proofs.lemmas.Int.{ints, by_lt_z}
use Rattle.std.proofs.lemmas.Bool.{and_parts, not-true}
use Rattle.decomposition.specs.declared.Range.{Range}
use Rattle.decomposition.specs.declared.Side.TheVariants.{Entering, Leaving}
use Rattle.decomposition.specs.Graph.{Graph, IsNet, edge_count, tail, head, is_source, is_sink, is_inner}
use Rattle.decomposition.specs.Answer.{sum_below}
use Rattle.decomposition.specs.Instance.{range_at}
use Rattle.decomposition.specs.Certificates.{has_vertex, is_entering, is_leaving, IsCut}
use Rattle.decomposition.proofs.Sums.{sum_below-le, le-sum_below, sum_below-same}
use Rattle.decomposition.proofs.Nets.{inside-from_net}
use Rattle.decomposition.proofs.Flows.{head-no_source, tail-no_sink, inner_from}
use Rattle.decomposition.proofs.Cuts.{has-all}
use Rattle.lower_flow.specs.Found.{with_ranges}
use Rattle.error_flow.specs.Certificate.{rise, share, bound_before, AreAllowed, IsZeroAtEnds}
use Rattle.error_flow.specs.Tight.{total_of, IsTight, AreTight}
use Rattle.error_flow.specs.Climb.{IsShifted, Climbs}
use Rattle.error_flow.proofs.Shares.{share-more, share-less, share-same, tight-bounds}

-- 1 where a test holds
abbrev one_if : Bool → ℤ
one_if t = cond t (pos 1) (pos 0)

-- what an edge adds and what it takes away: whether its one end lies in the set, and whether its other end does
abbrev gain : Bool → Bool → ℕ → ℕ
gain a b lo = cond a (cond b 0 lo) 0

-- one edge; the level of its other end is changed only if that lies in the set
module _ (total : ℕ) (r : ℤ) (w : ℕ) (range : Range) (tight : IsTight total r w range) (gentle : negsuc 0 ≤ℤ r) (within : w ≤ total) where
  edge_ascent : (a b t : Bool) (s : ℤ) → s ≡ (r +ℤ one_if a) -ℤ one_if t → (t ≡ true → b ≡ true)
      → (share r w +ℤ pos (gain a b range.lo)) ≤ℤ (share s w +ℤ pos (gain b a range.hi))
  edge_ascent true true true s is kept = omega (arith, ints, share-same s r w (omega (arith, ints)))
  edge_ascent true true false s is kept = omega (arith, ints, share-more total r w range tight gentle s (omega (arith, ints)))
  edge_ascent true false true s is kept = absurd (true≢false (sym (kept refl)))
  edge_ascent true false false s is kept = omega (arith, ints, share-more total r w range tight gentle s (omega (arith, ints)))
  edge_ascent false true true s is kept = omega (arith, ints, share-less total r w range tight gentle s (omega (arith, ints)) within)
  edge_ascent false true false s is kept = omega (arith, ints, share-same s r w (omega (arith, ints)))
  edge_ascent false false true s is kept = absurd (true≢false (sym (kept refl)))
  edge_ascent false false false s is kept = omega (arith, ints, share-same s r w (omega (arith, ints)))

  edge_gentle : (a b t : Bool) (s : ℤ) → s ≡ (r +ℤ one_if a) -ℤ one_if t → (t ≡ true → b ≡ true) → gain b a range.hi < total → negsuc 0 ≤ℤ s
  edge_gentle true b true s is kept little = omega (arith, ints)
  edge_gentle true b false s is kept little = omega (arith, ints)
  edge_gentle false true true s is kept little = edge_stays s (omega (arith, ints)) little
    where
      edge_stays : (s : ℤ) → s ≡ r -ℤ pos 1 → range.hi < total → negsuc 0 ≤ℤ s
      edge_stays s is little = no_fall (λ falls. omega (arith, tight.falls falls)) s is
        where
          no_fall : ((r <ℤ pos 0) → ⊥) → (s : ℤ) → s ≡ r -ℤ pos 1 → negsuc 0 ≤ℤ s
          no_fall none s is = by_lt_z r (pos 0) (λ falls. absurd (none falls)) (λ rises. omega (arith, ints))
  edge_gentle false false true s is kept little = absurd (true≢false (sym (kept refl)))
  edge_gentle false true false s is kept little = omega (arith, ints)
  edge_gentle false false false s is kept little = omega (arith, ints)

-- all edges in turn
shares_more : (g : Graph) (weight : ℕ → ℕ) (old new : ℕ → ℤ) (gains losses : ℕ → ℕ) (n : ℕ) → n ≤ edge_count g
    → ((e : ℕ) → e < edge_count g → (share (rise g old e) (weight e) +ℤ pos (gains e)) ≤ℤ (share (rise g new e) (weight e) +ℤ pos (losses e)))
    → (bound_before g weight old n +ℤ pos (sum_below gains n)) ≤ℤ (bound_before g weight new n +ℤ pos (sum_below losses n))
shares_more g weight old new gains losses zero h each = omega (arith, ints)
shares_more g weight old new gains losses (suc n) h each =
    omega (arith, ints, shares_more g weight old new gains losses n (omega arith) each, each n (omega arith))

-- the ends keep the level 0
shifted-ends : (g : Graph) (inside : ℕ → Bool) (by : ℤ) (old new : ℕ → ℤ) → IsShifted g inside by old new → IsZeroAtEnds g old → IsZeroAtEnds g new
shifted-ends g inside by old new shifted ends v h end =
    shifted v h ∙ ap (λ t. old v +ℤ cond t by (pos 0)) (outside (inside v) (is_source g v) (is_sink g v) end) ∙ zero_more (old v) (ends v h end)
  where
    outside : (x s t : Bool) → (s || t) ≡ true → (x && (not s && not t)) ≡ false
    outside true true t h = refl
    outside true false true h = refl
    outside true false false h = absurd (true≢false (sym h))
    outside false s t h = refl

    zero_more : (z : ℤ) → z ≡ pos 0 → z +ℤ pos 0 ≡ pos 0
    zero_more z h = omega (arith, ints)

-- a set whose one ends of edges are inner vertices
module _ (g : Graph) (weight : ℕ → ℕ) (old new : ℕ → ℤ) (ranges : List Range) (net : IsNet g) (tight : AreTight g weight old ranges) (allowed : AreAllowed g old) (one other : ℕ → Bool) (moved : ℕ → Bool) (rises : (e : ℕ) → e < edge_count g → rise g new e ≡ (rise g old e +ℤ one_if (one e)) -ℤ one_if (moved e)) (kept : (e : ℕ) → e < edge_count g → moved e ≡ true → other e ≡ true) (ends : IsZeroAtEnds g new) (forced : sum_below (λ e. gain (other e) (one e) (range_at ranges e).hi) (edge_count g) < sum_below (λ e. gain (one e) (other e) (range_at ranges e).lo) (edge_count g)) where
  gain-le : (a b : Bool) (x y : ℕ) → x ≤ y → gain a b x ≤ y
  gain-le true true x y h = omega arith
  gain-le true false x y h = h
  gain-le false b x y h = omega arith

  within : (e : ℕ) → e < edge_count g → weight e ≤ total_of g weight
  within e h = le-sum_below weight (edge_count g) e h

  all_gains : sum_below (λ e. gain (one e) (other e) (range_at ranges e).lo) (edge_count g) ≤ total_of g weight
  all_gains =
      sum_below-le (λ e. gain (one e) (other e) (range_at ranges e).lo) weight (edge_count g)
      (λ e h. gain-le (one e) (other e) (range_at ranges e).lo (weight e)
      (tight-bounds (total_of g weight) (rise g old e) (weight e) (range_at ranges e) (tight.each e h) (allowed.gentle e h) (within e h)).1)

  pub climbs : Climbs g weight old new
  climbs = record {
    allowed = record {
      ends = ends;
      gentle = λ e h.
          edge_gentle (total_of g weight) (rise g old e) (weight e) (range_at ranges e) (tight.each e h) (allowed.gentle e h) (within e h) (one e) (other e) (moved e) (rise g new e)
          (rises e h) (kept e h)
          (omega (arith, le-sum_below (λ d. gain (other d) (one d) (range_at ranges d).hi) (edge_count g) e h, forced, all_gains));
    };
    higher =
        let more = shares_more g weight old new (λ e. gain (one e) (other e) (range_at ranges e).lo) (λ e. gain (other e) (one e) (range_at ranges e).hi) (edge_count g) (omega arith)
        (λ e h. edge_ascent (total_of g weight) (rise g old e) (weight e) (range_at ranges e) (tight.each e h) (allowed.gentle e h) (within e h) (one e) (other e) (moved e) (rise g new e)
        (rises e h) (kept e h)) in
        omega (arith, ints, more, forced);
  }

same_inside : (x inner : Bool) → (x ≡ true → inner ≡ true) → (x && inner) ≡ x
same_inside true inner h = h refl
same_inside false inner h = refl

fewer : (x inner : Bool) → (x && inner) ≡ true → x ≡ true
fewer true inner h = refl
fewer false inner h = h

entering-gain : (a b : Bool) (lo : ℕ) → cond (not b && a) lo 0 ≡ gain a b lo
entering-gain true true lo = refl
entering-gain true false lo = refl
entering-gain false true lo = refl
entering-gain false false lo = refl

leaving-gain : (a b : Bool) (lo : ℕ) → cond (a && not b) lo 0 ≡ gain a b lo
leaving-gain true true lo = refl
leaving-gain true false lo = refl
leaving-gain false b lo = refl

raised : (h t : Bool) (x y x' y' r r' : ℤ) → x' ≡ x +ℤ cond h (pos 1) (pos 0) → y' ≡ y +ℤ cond t (pos 1) (pos 0) → r ≡ x -ℤ y → r' ≡ x' -ℤ y' → r' ≡ (r +ℤ one_if h) -ℤ one_if t
raised true true x y x' y' r r' p q u v = omega (arith, ints)
raised true false x y x' y' r r' p q u v = omega (arith, ints)
raised false true x y x' y' r r' p q u v = omega (arith, ints)
raised false false x y x' y' r r' p q u v = omega (arith, ints)

lowered : (h t : Bool) (x y x' y' r r' : ℤ) → x' ≡ x +ℤ cond h (negsuc 0) (pos 0) → y' ≡ y +ℤ cond t (negsuc 0) (pos 0) → r ≡ x -ℤ y → r' ≡ x' -ℤ y' → r' ≡ (r +ℤ one_if t) -ℤ one_if h
lowered true true x y x' y' r r' p q u v = omega (arith, ints)
lowered true false x y x' y' r r' p q u v = omega (arith, ints)
lowered false true x y x' y' r r' p q u v = omega (arith, ints)
lowered false false x y x' y' r r' p q u v = omega (arith, ints)

module _ (g : Graph) (weight : ℕ → ℕ) (old new : ℕ → ℤ) (ranges : List Range) (net : IsNet g) (tight : AreTight g weight old ranges) (allowed : AreAllowed g old) (xs : List ℕ) where
  -- more must enter than can leave: higher by 1
  pub climbs-raised : IsCut (with_ranges g ranges) Entering xs → IsShifted g (has_vertex xs) (pos 1) old new → Climbs g weight old new
  climbs-raised cut shifted =
      climbs g weight old new ranges net tight allowed (λ e. has_vertex xs (head g e)) (λ e. has_vertex xs (tail g e)) (λ e. has_vertex xs (tail g e) && is_inner g (tail g e))
      (λ e h.
      let inner : has_vertex xs (head g e) ≡ true → is_inner g (head g e) ≡ true
      = λ has. inner_from g (head g e) (head-no_source g e h) (not-true _ (and_parts _ _ (has-all (λ v. nat_lt v g.vertices && not (is_sink g v)) xs (head g e) cut.0 has)).1) in
      raised (has_vertex xs (head g e)) (has_vertex xs (tail g e) && is_inner g (tail g e)) (old (head g e)) (old (tail g e)) (new (head g e)) (new (tail g e)) (rise g old e) (rise g new e)
      (shifted (head g e) (inside-from_net g net e h).1 ∙ ap (λ b. old (head g e) +ℤ cond b (pos 1) (pos 0)) (same_inside (has_vertex xs (head g e)) (is_inner g (head g e)) inner))
      (shifted (tail g e) (inside-from_net g net e h).0) refl refl)
      (λ e h. fewer (has_vertex xs (tail g e)) (is_inner g (tail g e)))
      (shifted-ends g (has_vertex xs) (pos 1) old new shifted allowed.ends)
      (omega (
        arith,
        cut.1,
        sum_below-same (λ e. cond (is_leaving g xs e) (range_at ranges e).hi 0) (λ e. gain (has_vertex xs (tail g e)) (has_vertex xs (head g e)) (range_at ranges e).hi) (edge_count g)
            (λ e h. leaving-gain (has_vertex xs (tail g e)) (has_vertex xs (head g e)) (range_at ranges e).hi),
        sum_below-same (λ e. cond (is_entering g xs e) (range_at ranges e).lo 0) (λ e. gain (has_vertex xs (head g e)) (has_vertex xs (tail g e)) (range_at ranges e).lo) (edge_count g)
            (λ e h. entering-gain (has_vertex xs (head g e)) (has_vertex xs (tail g e)) (range_at ranges e).lo),
      ))

  -- more must leave than can enter: lower by 1
  pub climbs-lowered : IsCut (with_ranges g ranges) Leaving xs → IsShifted g (has_vertex xs) (negsuc 0) old new → Climbs g weight old new
  climbs-lowered cut shifted =
      climbs g weight old new ranges net tight allowed (λ e. has_vertex xs (tail g e)) (λ e. has_vertex xs (head g e)) (λ e. has_vertex xs (head g e) && is_inner g (head g e))
      (λ e h.
      let inner : has_vertex xs (tail g e) ≡ true → is_inner g (tail g e) ≡ true
      = λ has. inner_from g (tail g e) (not-true _ (and_parts _ _ (has-all (λ v. nat_lt v g.vertices && not (is_source g v)) xs (tail g e) cut.0 has)).1) (tail-no_sink g e h) in
      lowered (has_vertex xs (head g e) && is_inner g (head g e)) (has_vertex xs (tail g e)) (old (head g e)) (old (tail g e)) (new (head g e)) (new (tail g e)) (rise g old e) (rise g new e)
      (shifted (head g e) (inside-from_net g net e h).1)
      (shifted (tail g e) (inside-from_net g net e h).0 ∙ ap (λ b. old (tail g e) +ℤ cond b (negsuc 0) (pos 0)) (same_inside (has_vertex xs (tail g e)) (is_inner g (tail g e)) inner)) refl refl)
      (λ e h. fewer (has_vertex xs (head g e)) (is_inner g (head g e)))
      (shifted-ends g (has_vertex xs) (negsuc 0) old new shifted allowed.ends)
      (omega (
        arith,
        cut.1,
        sum_below-same (λ e. cond (is_entering g xs e) (range_at ranges e).hi 0) (λ e. gain (has_vertex xs (head g e)) (has_vertex xs (tail g e)) (range_at ranges e).hi) (edge_count g)
            (λ e h. entering-gain (has_vertex xs (head g e)) (has_vertex xs (tail g e)) (range_at ranges e).hi),
        sum_below-same (λ e. cond (is_leaving g xs e) (range_at ranges e).lo 0) (λ e. gain (has_vertex xs (tail g e)) (has_vertex xs (head g e)) (range_at ranges e).lo) (edge_count g)
            (λ e h. leaving-gain (has_vertex xs (tail g e)) (has_vertex xs (head g e)) (range_at ranges e).lo),
      ))
