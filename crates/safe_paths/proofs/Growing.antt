-- The tests of windows: whether a window's run is safe, and whether it grows at an end.
use Rattle.std.proofs.Common.{◌≡◌, ◌≤◌, ◌<◌, ℕ, ◌+◌, ◌-◌, ◌==◌, List, [], ◌∷◌, ◌++◌, length, slice_index, slice_index_or, nat_lt, true, false, sym, ap, ◌∙◌, subst, arith, inl, inr, ltb-true, lt-ltb, eqb-true}
use Rattle.std.specs.Prelude.{◌↔◌, IsTrue}
use Rattle.std.proofs.lemmas.Bool.{both_ways, not-false}
use Rattle.std.proofs.lemmas.List.Elements.{All-get_or}
use Rattle.decomposition.specs.Graph.{Graph, IsRun, edge_count, tail, head, is_sink, walk_end}
use Rattle.decomposition.specs.Flow.{flow_out_of}
use Rattle.decomposition.specs.SafeRuns.{IsSafeFor}
use Rattle.decomposition.proofs.Members.{any-place}
use Rattle.decomposition.proofs.Flows.{walk_end-push}
use Rattle.safe_paths.specs.Sums.{carried, passed}
use Rattle.safe_paths.specs.VertexFlows.{IsGreatest}
use Rattle.safe_paths.specs.Windows.{IsLaidOut, IsWindow, window_run, part}
use Rattle.safe_paths.specs.declared.vertex_flows.VertexFlows.{VertexFlows}
use Rattle.safe_paths.specs.declared.windows.Window.{Window}
use Rattle.safe_paths.proofs.Parts.{part-push, part-cons, part-none, part-run, carried-cons, passed-cons}
use Rattle.safe_paths.proofs.SafeSums.{start, end, safe-from_sums, sums-from_safe, back-from_sums, sums-from_back, on-from_sums, sums-from_on}

-- some edge leaves a vertex that is no sink
edge-out : (g : Graph) (v : ℕ) → is_sink g v ≡ false → (e : ℕ) × (e < edge_count g) × (tail g e ≡ v)
edge-out g v no_sink =
    let found : (k : ℕ) × (k < length g.edges) × (((slice_index_or g.edges k (0, 0)).0 == v) ≡ true) = any-place (λ (e : ℕ × ℕ). e.0 == v) g.edges (0, 0) (not-false _ no_sink) in
    (found.0, found.1, eqb-true _ v found.2)

-- an edge out of such a vertex that carries the greatest flow
greatest-out : (g : Graph) (flow : ℕ → ℕ) (v most : ℕ) → is_sink g v ≡ false → IsGreatest (tail g) flow (edge_count g) v most → (e : ℕ) × (e < edge_count g) × (tail g e ≡ v) × (flow e ≡ most)
greatest-out g flow v most no_sink greatest =
    elim greatest.reached [
      | inl none ↦
          let found = edge-out g v no_sink in
          (found.0, found.1, found.2, omega (arith, greatest.above found.0 found.1 found.2))
      | inr found ↦ found
    ]

module _ (g : Graph) (flow : List ℕ) (at : VertexFlows) (path : List ℕ) (laid : IsLaidOut g flow at path) where
  -- one edge of the path is safe
  pub safe-single : (i : ℕ) → i < length path → IsSafeFor g (slice_index flow) (part path i (i + 1))
  safe-single i there =
      safe-from_sums g laid.given.net (slice_index flow) (part path i (i + 1)) (part-run g path i (i + 1) laid.is_path (omega arith) (omega arith))
      (omega (
        arith,
        ap (λ r. flow_out_of g (slice_index flow) (start g r)) (part-cons path i (i + 1) (omega arith) (omega arith)),
        carried-cons g (slice_index flow) path i (i + 1) (omega arith) (omega arith),
        passed-cons g (slice_index flow) path i (i + 1) (omega arith) (omega arith),
        ap (carried (slice_index flow)) (part-none path (i + 1)),
        ap (passed g (slice_index flow)) (part-none path (i + 1)),
        All-get_or (λ e. 1 ≤ slice_index flow e) path i 0 there laid.positive,
      ))

  module _ (w : Window) (window : IsWindow g (slice_index flow) path w) (some : w.from < w.to) where
    run : IsRun g (window_run path w)
    run = part-run g path w.from w.to laid.is_path some window.within

    start-is : start g (window_run path w) ≡ tail g (slice_index path w.from)
    start-is = ap (start g) (part-cons path w.from w.to some window.within)

    end-is : end g (window_run path w) ≡ head g (slice_index path (w.to - 1))
    end-is =
        let last : w.to - 1 + 1 ≡ w.to = omega arith in
        let push : window_run path w ≡ part path w.from (w.to - 1) ++ slice_index path (w.to - 1) ∷ []
        = ap (part path w.from) (sym last) ∙ part-push path w.from (w.to - 1) (omega arith) (omega (arith, window.within)) in
        ap (walk_end g (start g (window_run path w))) push ∙ walk_end-push g (start g (window_run path w)) (part path w.from (w.to - 1)) (slice_index path (w.to - 1))

    pub safe-test : (out : ℕ) → out ≡ flow_out_of g (slice_index flow) (tail g (slice_index path w.from)) → IsTrue (nat_lt w.passed (w.carried + out)) ↔ IsSafeFor g (slice_index flow) (window_run path w)
    safe-test out is =
        let from = ap (flow_out_of g (slice_index flow)) start-is in (
          λ h. safe-from_sums g laid.given.net (slice_index flow) (window_run path w) run (omega (arith, ltb-true w.passed (w.carried + out) h, window.carries, window.passes)),
          λ safe. lt-ltb w.passed (w.carried + out) (omega (arith, sums-from_safe g laid.given.net (slice_index flow) laid.given.balanced (window_run path w) safe, window.carries, window.passes)),
        )

    pub back-test : (most : ℕ) → IsGreatest (head g) (slice_index flow) (edge_count g) (tail g (slice_index path w.from)) most
        → IsTrue (nat_lt w.passed (w.carried + most)) ↔ ((e : ℕ) × IsSafeFor g (slice_index flow) (e ∷ window_run path w))
    back-test most greatest =
        let at_start : IsGreatest (head g) (slice_index flow) (edge_count g) (start g (window_run path w)) most = subst (λ v. IsGreatest (head g) (slice_index flow) (edge_count g) v most) (sym start-is) greatest in (
          λ h. back-from_sums g laid.given.net (slice_index flow) laid.given.balanced (window_run path w) most run at_start (omega (arith, ltb-true w.passed (w.carried + most) h, window.carries, window.passes)),
          λ (e, safe). lt-ltb w.passed (w.carried + most) (omega (arith, sums-from_back g laid.given.net (slice_index flow) laid.given.balanced (window_run path w) most e run at_start safe, window.carries, window.passes)),
        )

    module _ (most : ℕ) (greatest : IsGreatest (tail g) (slice_index flow) (edge_count g) (head g (slice_index path (w.to - 1))) most) where
      at_end : IsGreatest (tail g) (slice_index flow) (edge_count g) (end g (window_run path w)) most
      at_end = subst (λ v. IsGreatest (tail g) (slice_index flow) (edge_count g) v most) (sym end-is) greatest

      pub on-sink : is_sink g (head g (slice_index path (w.to - 1))) ≡ true → ¬ ((e : ℕ) × IsSafeFor g (slice_index flow) (window_run path w ++ e ∷ []))
      on-sink sink (e, safe) =
          both_ways (is_sink g (end g (window_run path w))) (sums-from_on g laid.given.net (slice_index flow) laid.given.balanced (window_run path w) most e run at_end safe).0
          (subst (λ v. is_sink g v ≡ true) (sym end-is) sink)

      pub on-test : (out first : ℕ) → is_sink g (head g (slice_index path (w.to - 1))) ≡ false → out ≡ flow_out_of g (slice_index flow) (head g (slice_index path (w.to - 1)))
          → first ≡ flow_out_of g (slice_index flow) (tail g (slice_index path w.from))
          → IsTrue (nat_lt (w.passed + out) (w.carried + first + most)) ↔ ((e : ℕ) × IsSafeFor g (slice_index flow) (window_run path w ++ e ∷ []))
      on-test out first no_sink out_is first_is =
          let to = ap (flow_out_of g (slice_index flow)) end-is in
          let from = ap (flow_out_of g (slice_index flow)) start-is in (
            λ h.
                let found = greatest-out g (slice_index flow) (end g (window_run path w)) most (subst (λ v. is_sink g v ≡ false) (sym end-is) no_sink) at_end in (
                  found.0,
                  on-from_sums g laid.given.net (slice_index flow) laid.given.balanced (window_run path w) most found.0 run found.1 found.2 found.3
                      (omega (arith, ltb-true (w.passed + out) (w.carried + first + most) h, window.carries, window.passes)),
                ),
            λ (e, safe).
                lt-ltb (w.passed + out) (w.carried + first + most)
                (omega (arith, (sums-from_on g laid.given.net (slice_index flow) laid.given.balanced (window_run path w) most e run at_end safe).1, window.carries, window.passes)),
          )
