-- What a decomposition says of its flow and of its paths, and the maximal safe runs that were found along them.
use Rattle.std.proofs.Common.{◌≡◌, ◌≤◌, ◌<◌, ℕ, zero, suc, ◌+◌, List, [], ◌∷◌, ◌++◌, length, length-append, slice_index, true, ◌&&◌, eqb, nat_le, leb-true, refl, sym, ap, ◌∙◌, subst, arith, inl, eq-eqb}
use Rattle.std.specs.Prelude.{Contains}
use Rattle.std.proofs.lemmas.Bool.{and_parts, cond-true}
use Rattle.std.proofs.lemmas.List.Elements.{All-from_get_or, All-map, All-contains}
use Rattle.decomposition.specs.Graph.{Graph, IsNet, IsPath, is_path, has_edge, contains_run}
use Rattle.decomposition.specs.Answer.{entry_at, weight_on}
use Rattle.decomposition.specs.Flow.{Decomposes, IsBalanced}
use Rattle.decomposition.specs.SafeRuns.{IsSafeFor, IsMaximal, AreMaximal}
use Rattle.decomposition.proofs.Root.{all-place}
use Rattle.decomposition.proofs.Members.{any-place, any-from_place}
use Rattle.decomposition.proofs.Walks.{walk-inside}
use Rattle.decomposition.proofs.Balance.{IsBalanced-same, weight_on-balanced}
use Rattle.decomposition.proofs.Exchange.{PathParts, path-parts}
use Rattle.decomposition.proofs.Extremes.{Around, contains_run-split}
use Rattle.safe_paths.specs.Windows.{IsFlowAt, IsSearched, part}
use Rattle.safe_paths.specs.Places.{IsPlaceIn, run_at, runs_at, Finds, AreInOrder}
use Rattle.safe_paths.specs.declared.vertex_flows.VertexFlows.{VertexFlows}
use Rattle.safe_paths.specs.declared.places.Place.{Place}
use Rattle.safe_paths.proofs.Parts.{part-at}

-- a path puts its weight on each of its edges
weight-le : (a : List (List ℕ × ℕ)) (k e : ℕ) → k < length a → has_edge (entry_at a k).0 e ≡ true → (entry_at a k).1 ≤ weight_on a e
weight-le [] k e there has = absurd (omega arith)
weight-le (x ∷ a) zero e there has = omega (arith, cond-true (has_edge x.0 e) x.1 0 has)
weight-le (x ∷ a) (suc k) e there has = omega (arith, weight-le a k e (omega arith) has)

module _ (g : Graph) (net : IsNet g) (flow : ℕ → ℕ) (a : List (List ℕ × ℕ)) (d : Decomposes g flow a) where
  pub balanced-from_decomposes : IsBalanced g flow
  balanced-from_decomposes = IsBalanced-same g (weight_on a) flow d.sums (weight_on-balanced g net a d.answer)

  entry-at : (k : ℕ) → k < length a → IsPath g (entry_at a k).0 × (1 ≤ (entry_at a k).1)
  entry-at k there =
      let passes : (is_path g (entry_at a k).0 && nat_le 1 (entry_at a k).1) ≡ true = all-place (λ entry. is_path g entry.0 && nat_le 1 entry.1) a ([], 0) k d.answer there in
      let parts = and_parts (is_path g (entry_at a k).0) (nat_le 1 (entry_at a k).1) passes in
      (parts.0, leb-true 1 (entry_at a k).1 parts.1)

  edge-positive : (k i : ℕ) → k < length a → i < length (entry_at a k).0 → 1 ≤ flow (slice_index (entry_at a k).0 i)
  edge-positive k i there inside =
      let path = (entry_at a k).0 in
      let e = slice_index path i in
      let has : has_edge path e ≡ true = any-from_place (λ f. eqb e f) path 0 i inside (eq-eqb e e refl) in
      let parts : PathParts g path = path-parts g path (entry-at k there).0 in
      omega (arith, weight-le a k e there has, (entry-at k there).1, d.sums e (walk-inside g parts.start path e parts.walk has))

pub IsSearched-from : (g : Graph) (flow : List ℕ) (at : VertexFlows) (a : List (List ℕ × ℕ)) → IsFlowAt g flow at → Decomposes g (slice_index flow) a → IsSearched g flow at a
IsSearched-from g flow at a given d = record {
  given = given;
  each = λ k there. record {
    given = given;
    is_path = (entry-at g given.net (slice_index flow) a d k there).0;
    positive = All-from_get_or (λ e. 1 ≤ slice_index flow e) (entry_at a k).0 0 (λ i inside. edge-positive g given.net (slice_index flow) a d k i there inside);
  };
}

-- the place of a run that a path contains
place-of : (a : List (List ℕ × ℕ)) (k : ℕ) (r : List ℕ) → k < length a → contains_run (entry_at a k).0 r ≡ true → (p : Place) × IsPlaceIn a p × (p.path ≡ k) × (run_at a p ≡ r)
place-of a k r there contains =
    let s : Around (entry_at a k).0 r = contains_run-split (entry_at a k).0 r contains in
    let p : Place = record { path = k; from = length s.before; to = length s.before + length r } in (
      p,
      record {
        there = there;
        ordered = omega arith;
        within = omega (arith, ap (λ (l : List ℕ). length l) s.is, length-append s.before (r ++ s.after), length-append r s.after);
      },
      refl,
      ap (λ (l : List ℕ). part l p.from p.to) s.is ∙ part-at s.before r s.after,
    )

-- what was found along all paths, in order, are the maximal safe runs
pub AreMaximal-from_found : (g : Graph) (flow : ℕ → ℕ) (a : List (List ℕ × ℕ)) (places : List Place) (runs : List (List ℕ)) → Decomposes g flow a → Finds (IsMaximal (IsSafeFor g flow)) a (length a) 0 places
    → AreInOrder (runs_at a places) runs → AreMaximal (IsSafeFor g flow) runs
AreMaximal-from_found g flow a places runs d found ordered = record {
  rising = ordered.rising;
  each = λ r c. All-contains (IsMaximal (IsSafeFor g flow)) (runs_at a places) r (All-map (IsMaximal (IsSafeFor g flow)) (run_at a) places found.each) ((ordered.same r).0 c);
  all = λ r maximal.
      let at : (k : ℕ) × (k < length a) × (contains_run (entry_at a k).0 r ≡ true) = any-place (λ entry. contains_run entry.0 r) a ([], 0) (maximal.holds.kept a d) in
      let p = place-of a at.0 r at.1 at.2 in
      let c : Contains (runs_at a places) (run_at a p.0) = found.all p.0 p.1 (inl (omega (arith, p.2, at.1))) (subst (IsMaximal (IsSafeFor g flow)) (sym p.3) maximal) in
      (ordered.same r).1 (subst (Contains (runs_at a places)) p.3 c);
}
