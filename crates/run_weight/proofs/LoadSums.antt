-- The load of a run, entry by entry, and against the excess.
use Rattle.std.proofs.Common.{◌≡◌, ℕ, ◌+◌, ◌<◌, ◌≤◌, List, [], ◌∷◌, length, take, cond, true, refl, arith}
use Rattle.std.proofs.lemmas.List.Recursion.{is_sum_by}
use Rattle.std.proofs.lemmas.List.Sums.{sum_by_more}
use Rattle.decomposition.specs.Graph.{Graph, IsNet, edge_count, tail, is_walk_from, contains_run}
use Rattle.decomposition.specs.Answer.{entry_at, weight_on}
use Rattle.decomposition.specs.Flow.{Decomposes}
use Rattle.decomposition.specs.SafeRuns.{leaves_run, leaving}
use Rattle.decomposition.proofs.Sums.{sum_below-same}
use Rattle.decomposition.proofs.Walks.{walk-cons}
use Rattle.decomposition.proofs.Excess.{answer_count, load as weight_over}
use Rattle.run_weight.specs.Loads.{load}

pub weight_over-load : (a : List (List ℕ × ℕ)) (r : List ℕ) → weight_over a r ≡ load a r
weight_over-load a r = is_sum_by (λ a. weight_over a r) (λ (entry : List ℕ × ℕ). cond (contains_run entry.0 r) entry.1 0) refl (λ _ _. refl) a

-- one entry more
pub load-more : (a : List (List ℕ × ℕ)) (r : List ℕ) (i : ℕ) → i < length a → load (take (i + 1) a) r ≡ load (take i a) r + cond (contains_run (entry_at a i).0 r) (entry_at a i).1 0
load-more a r i h = sum_by_more (λ (entry : List ℕ × ℕ). cond (contains_run entry.0 r) entry.1 0) a i ([], 0) h

-- what a decomposition has on the edges that leave a run
pub leaving-same : (g : Graph) (flow : ℕ → ℕ) (a : List (List ℕ × ℕ)) (r : List ℕ) → Decomposes g flow a → leaving g (weight_on a) r ≡ leaving g flow r
leaving-same g flow a r d =
    sum_below-same (λ x. cond (leaves_run g r x) (weight_on a x) 0) (λ x. cond (leaves_run g r x) (flow x) 0) (edge_count g) (λ x inside. rw (d.sums x inside) refl)

-- the flow of a run's first edge goes along the run or leaves it
pub first-le : (g : Graph) → IsNet g → (flow : ℕ → ℕ) (e : ℕ) (es : List ℕ) → is_walk_from g (tail g e) (e ∷ es) ≡ true → (a : List (List ℕ × ℕ)) → Decomposes g flow a
    → flow e ≤ load a (e ∷ es) + leaving g flow (e ∷ es)
first-le g net flow e es run a d =
    omega (
      arith,
      answer_count g net e es run a d.answer,
      leaving-same g flow a (e ∷ es) d,
      d.sums e (walk-cons g (tail g e) e es run).inside,
      weight_over-load a (e ∷ es),
    )
