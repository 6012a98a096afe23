-- Entries that are settled make a lightest decomposition.
use Rattle.std.proofs.Common.{◌≡◌, ℕ, suc, ◌+◌, ◌<◌, ◌≤◌, ◌^◌, ◌&&◌, List, [], ◌∷◌, ◌++◌, get_or, cond, true, false, nat_le, le-leb, refl, sym, ap, arith, inl, inr, true≢false, slice_index, eqb, eq-eqb}
use Rattle.std.specs.Prelude.{All}
use Rattle.std.specs.List.{list_any}
use Rattle.std.proofs.lemmas.Bool.{both_ways, false_from_ne_true, and_from, and_parts, cond-true, cond-false}
use Rattle.std.proofs.lemmas.List.Sums.{sum_by-append, sum_by-cons}
use Rattle.std.proofs.lemmas.List.Elements.{All-append}
use Rattle.decomposition.specs.Graph.{Graph, IsNet, IsRun, IsPath, edge_count, is_path, is_walk_from, has_edge, contains_run, tail}
use Rattle.decomposition.specs.Answer.{IsAnswer, IsMerged, HaveSamePaths, weight_on, total_weight, sum_below}
use Rattle.decomposition.specs.Flow.{Decomposes}
use Rattle.decomposition.proofs.Sums.{le-sum_below, sum_below-add, sum_below-same}
use Rattle.decomposition.proofs.Members.{any-append_cases, any-place, any-here}
use Rattle.decomposition.proofs.Walks.{walk-cons, walk-inside}
use Rattle.decomposition.proofs.Open.{all-from_places}
use Rattle.decomposition.proofs.Root.{all-parts}
use Rattle.decomposition.proofs.Merging.{weight_on-where}
use Rattle.decomposition.proofs.Merging.{weighing-IsMerged}
use Rattle.decomposition.proofs.Exchange.{PathParts, path-parts, is_free_path}
use Rattle.decomposition.proofs.Exchange.{bound_answer, not_free}
use Rattle.safe_paths.proofs.OutSums.{small-at, sum_below-bound}
use Rattle.greedy_paths.proofs.Building.{Decomposes-merged}
use Rattle.run_weight.specs.Loads.{load, IsLightest}
use Rattle.run_weight.specs.Exits.{ArePlacesAlong, HasNoExit}
use Rattle.run_weight.specs.Sorting.{IsOther, IsSorted, HasWeights}
use Rattle.run_weight.specs.declared.sorting.Sorting.{Sorting}
use Rattle.run_weight.proofs.LoadSums.{weight_over-load, leaving-same, first-le}
use Rattle.run_weight.proofs.Exchanging.{free-none}

weight_on-append : (a b : List (List ℕ × ℕ)) (e : ℕ) → weight_on (a ++ b) e ≡ weight_on a e + weight_on b e
weight_on-append a b e =
    omega (arith, weight_on-where (a ++ b) e, weight_on-where a e, weight_on-where b e, sum_by-append (λ (entry : List ℕ × ℕ). cond (has_edge entry.0 e) entry.1 0) a b)

-- entries with paths that do not contain the run put nothing on it
load-others : (g : Graph) (r : List ℕ) (a : List (List ℕ × ℕ)) → All (IsOther g r) a → load a r ≡ 0
load-others g r [] all = refl
load-others g r (x ∷ a) all =
    omega (
      arith,
      sum_by-cons (λ (entry : List ℕ × ℕ). cond (contains_run entry.0 r) entry.1 0) x a,
      cond-false {A = ℕ} (contains_run x.0 r) x.1 0 (all 0 x (omega arith)).lacks,
      load-others g r a (λ k d there. all (suc k) d (omega arith)),
    )

-- an answer, by its entries
IsAnswer-entries : (g : Graph) (a : List (List ℕ × ℕ)) → All (λ entry. IsPath g entry.0 × (1 ≤ entry.1)) a → IsAnswer g a
IsAnswer-entries g a all =
    all-from_places (λ entry. is_path g entry.0 && nat_le 1 entry.1) a ([], 0)
    (λ k there. let each = all k ([], 0) there in and_from (is_path g (get_or a k ([], 0)).0) (nat_le 1 (get_or a k ([], 0)).1) each.0 (le-leb 1 (get_or a k ([], 0)).1 each.1))

module _ (g : Graph) (net : IsNet g) (e : ℕ) (es : List ℕ) (run : is_walk_from g (tail g e) (e ∷ es) ≡ true) (flow : ℕ → ℕ) (places : List ℕ) (a : List (List ℕ × ℕ)) (s : Sorting)
    (listed : ArePlacesAlong g (e ∷ es) places) (sorted : IsSorted g (e ∷ es) places s) (weights : HasWeights a s) (none : s.pending.items ≡ []) (d : Decomposes g flow a) where
  abbrev all_entries : List (List ℕ × ℕ)
  all_entries = s.carriers.items ++ s.settled.items

  decomposes : Decomposes g flow all_entries
  decomposes = record {
    answer = IsAnswer-entries g all_entries (All-append (λ entry. IsPath g entry.0 × (1 ≤ entry.1)) s.carriers.items s.settled.items
        (λ k x there. let each = sorted.carriers k x there in (each.path, each.positive)) (λ k x there. let each = sorted.settled k x there in (each.path, each.positive)));
    sums = λ y there. omega (arith, weight_on-append s.carriers.items s.settled.items y, weights y, ap (λ l. weight_on l y) none, d.sums y there);
  }

  loads : load all_entries (e ∷ es) ≡ load s.carriers.items (e ∷ es)
  loads = omega (arith, sum_by-append (λ (entry : List ℕ × ℕ). cond (contains_run entry.0 (e ∷ es)) entry.1 0) s.carriers.items s.settled.items, load-others g (e ∷ es) s.settled.items sorted.settled)

  free : All (λ entry. HasNoExit g (e ∷ es) places entry.0) s.settled.items → list_any (λ entry. is_free_path g (e ∷ es) entry.0) all_entries ≡ false
  free all =
      false_from_ne_true (list_any (λ entry. is_free_path g (e ∷ es) entry.0) all_entries)
      (λ h. elim (any-append_cases (λ (entry : List ℕ × ℕ). is_free_path g (e ∷ es) entry.0) s.carriers.items s.settled.items h) [
        | inl in_carriers ↦
            let found = any-place (λ (entry : List ℕ × ℕ). is_free_path g (e ∷ es) entry.0) s.carriers.items ([], 0) in_carriers in
            let p = (get_or s.carriers.items found.0 ([], 0)).0 in
            both_ways _ (not_free g net e es run p (sorted.carriers found.0 ([], 0) found.1).contains) found.2
        | inr in_settled ↦
            let found = any-place (λ (entry : List ℕ × ℕ). is_free_path g (e ∷ es) entry.0) s.settled.items ([], 0) in_settled in
            let p = (get_or s.settled.items found.0 ([], 0)).0 in
            both_ways _ (free-none g net e es run places p listed (all found.0 ([], 0) found.1)) found.2
      ])

  least : (b : List (List ℕ × ℕ)) → Decomposes g flow b → load all_entries (e ∷ es) ≤ load b (e ∷ es)
  least b made =
      elim sorted.done [
        | inl empty ↦ omega (arith, loads, ap (λ l. load l (e ∷ es)) empty)
        | inr all ↦
            omega (
              arith,
              bound_answer g net e es run all_entries decomposes.answer (free all),
              weight_over-load all_entries (e ∷ es),
              leaving-same g flow all_entries (e ∷ es) decomposes,
              decomposes.sums e (walk-cons g (tail g e) e es run).inside,
              first-le g net flow e es run b made,
            )
      ]

  lightened : (t : List (List ℕ × ℕ)) → IsMerged all_entries t → HaveSamePaths all_entries t → IsLightest g flow (e ∷ es) t
  lightened t merged same = record {
    decomposes = Decomposes-merged g flow all_entries t decomposes merged same;
    least = λ b made. omega (arith, weighing-IsMerged (λ p. contains_run p (e ∷ es)) all_entries t merged, least b made);
  }

-- settled entries with equal paths made one are a lightest decomposition
pub IsLightest-settled : (g : Graph) → IsNet g → (r : List ℕ) → IsRun g r → (flow : ℕ → ℕ) (places : List ℕ) (a : List (List ℕ × ℕ)) (s : Sorting) → ArePlacesAlong g r places → IsSorted g r places s → HasWeights a s
    → s.pending.items ≡ [] → Decomposes g flow a → (t : List (List ℕ × ℕ)) → IsMerged (s.carriers.items ++ s.settled.items) t → HaveSamePaths (s.carriers.items ++ s.settled.items) t → IsLightest g flow r t
IsLightest-settled g net [] run flow places a s listed sorted weights none d t merged same = absurd (true≢false (sym run))
IsLightest-settled g net (e ∷ es) run flow places a s listed sorted weights none d t merged same = lightened g net e es run flow places a s listed sorted weights none d t merged same

pub Decomposes-settled : (g : Graph) → IsNet g → (r : List ℕ) → IsRun g r → (flow : ℕ → ℕ) (places : List ℕ) (a : List (List ℕ × ℕ)) (s : Sorting) → ArePlacesAlong g r places → IsSorted g r places s → HasWeights a s
    → s.pending.items ≡ [] → Decomposes g flow a → Decomposes g flow (s.carriers.items ++ s.settled.items)
Decomposes-settled g net [] run flow places a s listed sorted weights none d = absurd (true≢false (sym run))
Decomposes-settled g net (e ∷ es) run flow places a s listed sorted weights none d = decomposes g net e es run flow places a s listed sorted weights none d

-- each path has an edge, so the weights sum to no more than the weights on all edges
path-on_edge : (g : Graph) (p : List ℕ) (w : ℕ) → IsPath g p → w ≤ sum_below (λ e. cond (has_edge p e) w 0) (edge_count g)
path-on_edge g [] w path = absurd (true≢false (sym path))
path-on_edge g (e ∷ p) w path =
    let has : has_edge (e ∷ p) e ≡ true = any-here (λ z. eqb e z) e p (eq-eqb e e refl) in
    let parts : PathParts g (e ∷ p) = path-parts g (e ∷ p) path in
    omega (
      arith,
      le-sum_below (λ y. cond (has_edge (e ∷ p) y) w 0) (edge_count g) e (walk-inside g parts.start (e ∷ p) e parts.walk has),
      cond-true {A = ℕ} (has_edge (e ∷ p) e) w 0 has,
    )

total-le : (g : Graph) (a : List (List ℕ × ℕ)) → IsAnswer g a → total_weight a ≤ sum_below (weight_on a) (edge_count g)
total-le g [] answer = omega arith
total-le g (x ∷ a) answer =
    let parts = all-parts (λ entry. is_path g entry.0 && nat_le 1 entry.1) x a answer in
    omega (
      arith,
      sum_by-cons (λ (entry : List ℕ × ℕ). entry.1) x a,
      path-on_edge g x.0 x.1 (and_parts (is_path g x.0) (nat_le 1 x.1) parts.0).0,
      total-le g a parts.1,
      sum_below-add (λ y. cond (has_edge x.0 y) x.1 0) (weight_on a) (edge_count g),
    )

pub total-small : (g : Graph) (flow : List ℕ) (a : List (List ℕ × ℕ)) → Decomposes g (slice_index flow) a → All (λ w. w ≤ 1000000000000) flow → edge_count g ≤ 4096 → total_weight a < 2 ^ 64
total-small g flow a d small few =
    omega (
      arith,
      few,
      total-le g a d.answer,
      sum_below-same (weight_on a) (λ e. cond true (slice_index flow e) 0) (edge_count g) d.sums,
      sum_below-bound (λ e. true) (slice_index flow) 1000000000000 (edge_count g) (small-at 1000000000000 flow small),
    )
