-- Where an edge stands on a run of a net, by what is reached.
use Rattle.std.proofs.Common.{◌≡◌, ◌≢◌, ℕ, zero, suc, ◌<◌, sym, ap, ◌∙◌, arith, inl, inr, true, false, eqb, List, [], ◌∷◌, length, slice_index, get_or, eqb-true, subst}
use Rattle.std.proofs.lemmas.Bool.{cases_order, false_from_ne_true}
use Rattle.decomposition.specs.Graph.{Graph, IsNet, edge_count, tail, head, is_walk_from, IsRun, has_edge}
use Rattle.decomposition.specs.Reach.{Reaches}
use Rattle.decomposition.proofs.Members.{any-place}
use Rattle.decomposition.proofs.Walks.{IsStep, walk-cons}
use Rattle.decomposition.proofs.Reaching.{Reaches-self, Reaches-along, Reaches-trans}
use Rattle.decomposition.proofs.Runs.{run-place}
use Rattle.dag_net.proofs.Returns.{no_return}

-- a walk leads from its start to each of its edges
pub reaches-place : (g : Graph) (v : ℕ) (es : List ℕ) (k : ℕ) → is_walk_from g v es ≡ true → k < length es → Reaches g v (tail g (slice_index es k))
reaches-place g v [] k walk there = absurd (omega arith)
reaches-place g v (e ∷ es) zero walk there = Reaches-self g v (tail g e) (sym (walk-cons g v e es walk).leaves)
reaches-place g v (e ∷ es) (suc k) walk there =
    let s : IsStep g v e es = walk-cons g v e es walk in
    let rest : Reaches g (head g e) (tail g (slice_index es k)) = reaches-place g (head g e) es k s.rest (omega arith) in
    subst (λ u. Reaches g u (tail g (slice_index es k))) s.leaves (Reaches-along g e (tail g (slice_index es k)) s.inside rest)

-- and from the head of each edge to those behind it
pub reaches-between : (g : Graph) (v : ℕ) (es : List ℕ) (j k : ℕ) → is_walk_from g v es ≡ true → j < k → k < length es → Reaches g (head g (slice_index es j)) (tail g (slice_index es k))
reaches-between g v [] j k walk before there = absurd (omega arith)
reaches-between g v (e ∷ es) j zero walk before there = absurd (omega arith)
reaches-between g v (e ∷ es) zero (suc k) walk before there = reaches-place g (head g e) es k (walk-cons g v e es walk).rest (omega arith)
reaches-between g v (e ∷ es) (suc j) (suc k) walk before there = reaches-between g (head g e) es j k (walk-cons g v e es walk).rest (omega arith) (omega arith)

pub run-between : (g : Graph) (run : List ℕ) (j k : ℕ) → IsRun g run → j < k → k < length run → Reaches g (head g (slice_index run j)) (tail g (slice_index run k))
run-between g [] j k is before there = absurd (omega arith)
run-between g (e ∷ es) j k is before there = reaches-between g (tail g e) (e ∷ es) j k is before there

-- an edge whose tail the head of the middle edge reaches stands behind it
pub stands_behind : (g : Graph) → IsNet g → (run : List ℕ) (e middle k : ℕ) → IsRun g run → middle < length run → k < length run → slice_index run k ≡ e → slice_index run middle ≢ e
    → Reaches g (head g (slice_index run middle)) (tail g e) → middle < k
stands_behind g net run e middle k is inside there at other way =
    elim (cases_order middle k) [
      | inl same ↦ absurd (other (ap (slice_index run) same ∙ at))
      | inr apart ↦ elim apart [
        | inl before ↦ before
        | inr behind ↦
            let edge : slice_index run middle < edge_count g = run-place g run middle is inside in
            let ahead : Reaches g (head g e) (tail g (slice_index run middle)) = subst (λ f. Reaches g (head g f) (tail g (slice_index run middle))) at (run-between g run k middle is behind inside) in
            let back : Reaches g (tail g (slice_index run middle)) (tail g e) = Reaches-along g (slice_index run middle) (tail g e) edge way in
            absurd (no_return g net e (subst (λ f. f < edge_count g) at (run-place g run k is there)) (Reaches-trans g (head g e) (tail g (slice_index run middle)) (tail g e) ahead back))
      ]
    ]

-- and one whose tail it does not reach stands before it
pub stands_before : (g : Graph) (run : List ℕ) (e middle k : ℕ) → IsRun g run → k < length run → slice_index run k ≡ e → slice_index run middle ≢ e
    → (Reaches g (head g (slice_index run middle)) (tail g e) → ⊥) → k < middle
stands_before g run e middle k is there at other away =
    elim (cases_order middle k) [
      | inl same ↦ absurd (other (ap (slice_index run) same ∙ at))
      | inr apart ↦ elim apart [
        | inl before ↦ absurd (away (subst (λ f. Reaches g (head g (slice_index run middle)) (tail g f)) at (run-between g run middle k is before there)))
        | inr behind ↦ behind
      ]
    ]

-- what stands at no place is not in the list
pub has_edge-none : (es : List ℕ) (e : ℕ) → ((k : ℕ) → k < length es → slice_index es k ≡ e → ⊥) → has_edge es e ≡ false
has_edge-none es e none =
    false_from_ne_true (has_edge es e) (λ has.
    let at : (k : ℕ) × (k < length es) × (eqb e (get_or es k 0) ≡ true) = any-place (λ f. eqb e f) es 0 has in
    none at.0 at.1 (sym (eqb-true e (get_or es at.0 0) at.2)))

pub Reaches-same : (g : Graph) (u v a b : ℕ) → u ≡ a → v ≡ b → Reaches g u v → Reaches g a b
Reaches-same g u v a b from to way = subst (λ x. Reaches g x b) from (subst (λ y. Reaches g u y) to way)
