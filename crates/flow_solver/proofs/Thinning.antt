-- What is settled of a flow, and more along a path.
use Rattle.std.proofs.Common.{◌≡◌, ℕ, ◌+◌, ◌-◌, ◌≤◌, ◌<◌, ◌==◌, ◌&&◌, nat_le, cond, List, [], ◌∷◌, ◌++◌, true, length, length-append, get_or, slice_index, sym, subst, ◌∙◌, inl, inr, arith, leb-true, eqb-true}
use Rattle.std.specs.List.{list_all}
use Rattle.std.specs.Prelude.{All}
use Rattle.std.proofs.Math.ListN.{get_or-append}
use Rattle.std.proofs.Math.Seq.{get_or-append_seam}
use Rattle.std.proofs.lemmas.Bool.{and_parts, cases_Bool, cases_eq}
use Rattle.decomposition.specs.declared.Range.{Range}
use Rattle.decomposition.specs.Graph.{Graph, IsPath, edge_count, has_edge}
use Rattle.decomposition.specs.FirstAnswer.{path_width}
use Rattle.decomposition.specs.Instance.{range_at}
use Rattle.decomposition.proofs.Members.{any-place}
use Rattle.decomposition.proofs.Root.{all-place}
use Rattle.greedy_paths.proofs.Decomposing.{path-enough, path-inside}
use Rattle.flow_solver.specs.declared.thin.Settling.{Settling}
use Rattle.flow_solver.specs.Room.{FitsAlong, IsAddedAlong, IsFlowAbove, IsLeftOf, IsSettling}

-- one edge more
pub left-more : (n : ℕ) (flow settled left : List ℕ) (x : ℕ) → IsLeftOf n flow settled left → x ≡ slice_index flow n - slice_index settled n → IsLeftOf (n + 1) flow settled (left ++ x ∷ [])
left-more n flow settled left x so_far is = record {
  count = omega (arith, length-append left (x ∷ []), so_far.count);
  each = λ e there. elim (cases_eq e n) [
    | inl same ↦
        subst (λ m. slice_index (left ++ x ∷ []) m ≡ slice_index flow m - slice_index settled m) (sym same)
        (subst (λ m. slice_index (left ++ x ∷ []) m ≡ x) so_far.count (get_or-append_seam left x [] 0) ∙ is)
    | inr other ↦ get_or-append left (x ∷ []) 0 e (omega (arith, there, other, so_far.count)) ∙ so_far.each e (omega (arith, there, other))
  ];
}

-- what holds of each entry of a path holds of each of its edges
along : (holds : ℕ → Type 0) (path : List ℕ) (e : ℕ) → All holds path → has_edge path e ≡ true → holds e
along holds path e each hit =
    let at = any-place (λ f. e == f) path 0 hit in
    subst holds (sym (eqb-true e (slice_index path at.0) at.2)) (each at.0 0 at.1)

-- an upper bound is small
high_small : (ranges : List Range) (e : ℕ) → list_all (λ (r : Range). nat_le r.lo r.hi && nat_le r.hi 1000000000000) ranges ≡ true → e < length ranges → (range_at ranges e).hi ≤ 1000000000000
high_small ranges e bounded inside =
    leb-true _ _ (and_parts _ _ (all-place (λ (r : Range). nat_le r.lo r.hi && nat_le r.hi 1000000000000) ranges (record { lo = 0; hi = 0 }) e bounded inside)).1

-- more along a path is at most the numbers that it fits
pub added-at_most : (n more : ℕ) (settled path sums flow : List ℕ) → IsAddedAlong settled path more sums → ((e : ℕ) → e < n → slice_index settled e ≤ slice_index flow e)
    → All (λ e. slice_index settled e + more ≤ slice_index flow e) path → (e : ℕ) → e < n → slice_index sums e ≤ slice_index flow e
added-at_most n more settled path sums flow added at_most fits e inside = elim (cases_Bool (has_edge path e)) [
  | inl hit ↦
      let is : slice_index sums e ≡ slice_index settled e + more = subst (λ b. slice_index sums e ≡ slice_index settled e + cond b more 0) hit (added.each e) in
      omega (arith, is, along (λ e. slice_index settled e + more ≤ slice_index flow e) path e fits hit)
  | inr free ↦
      let is : slice_index sums e ≡ slice_index settled e + 0 = subst (λ b. slice_index sums e ≡ slice_index settled e + cond b more 0) free (added.each e) in
      omega (arith, is, at_most e inside)
]

module _ (g : Graph) (ranges : List Range) (s : Settling) (one_each : length ranges ≡ edge_count g) (settling : IsSettling g ranges s) where
  -- what is settled passes no upper bound
  pub settled-fits : (path : List ℕ) → All (λ e. e < edge_count g) path → FitsAlong ranges s.settled.items 0 path
  settled-fits path inside k d h =
      let e = get_or path k d in
      let there : e < edge_count g = inside k d h in
      omega (arith, settling.flow.above e there, settling.flow.within.1.high e there)

  -- the width of a path of what is left fits over what is settled
  pub widest-fits : (left path : List ℕ) (width : ℕ) → IsLeftOf (length s.flow) s.flow s.settled.items left → IsPath g path → width ≡ path_width (slice_index left) path
      → All (λ e. slice_index s.settled.items e + width ≤ slice_index s.flow e) path
  widest-fits left path width are is_path is k d h =
      let e = get_or path k d in
      let there : e < edge_count g = path-inside g path is_path k d h in
      omega (arith, path-enough g path (slice_index left) width is k d h, are.each e (omega (arith, there, settling.flow.within.0)), settling.flow.above e there)

  -- and so does a number that the flow has over what is settled
  pub width-fits : (path : List ℕ) (width : ℕ) → All (λ e. e < edge_count g) path → All (λ e. slice_index s.settled.items e + width ≤ slice_index s.flow e) path → FitsAlong ranges s.settled.items width path
  width-fits path width inside enough k d h =
      let e = get_or path k d in
      omega (arith, enough k d h, settling.flow.within.1.high e (inside k d h))

-- more is settled along a path where the flow has as much over what is settled
pub settling-more : (g : Graph) (ranges : List Range) (s t : Settling) (path : List ℕ) (more : ℕ) → t.flow ≡ s.flow → IsSettling g ranges s → IsAddedAlong s.settled.items path more t.settled.items
    → All (λ e. slice_index s.settled.items e + more ≤ slice_index s.flow e) path → IsSettling g ranges t
settling-more g ranges s t path more same settling added fits = record {
  count = added.count ∙ settling.count;
  flow = subst (IsFlowAbove g ranges t.settled.items) (sym same) (record {
    within = settling.flow.within;
    above = added-at_most (edge_count g) more s.settled.items path t.settled.items s.flow added settling.flow.above fits;
  });
}
