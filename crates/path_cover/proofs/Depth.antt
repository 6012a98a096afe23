-- How many vertices reach a vertex: one more at least at the head of an edge than at its tail.
use Rattle.std.proofs.Common.{◌≡◌, ℕ, ◌<◌, ◌≤◌, true, false, cond, refl, arith, inl, inr}
use Rattle.std.proofs.lemmas.Bool.{cases_Bool}
use Rattle.decomposition.specs.Graph.{Graph, IsNet, edge_count, tail, head}
use Rattle.decomposition.specs.Answer.{sum_below}
use Rattle.decomposition.specs.Reach.{Reaches, reaches}
use Rattle.decomposition.proofs.Sums.{sum_below-lt}
use Rattle.decomposition.proofs.FewPaths.{sum_below-ones, one_or_none}
use Rattle.decomposition.proofs.Nets.{Contains-edge, inside-from_net}
use Rattle.decomposition.proofs.Reaching.{Reaches-self, Reaches-push, reaches_by_walks}
use Rattle.dag_net.proofs.Returns.{no_return}

-- how many vertices reach v
abbrev pub depth : Graph → ℕ → ℕ
depth g v = sum_below (λ u. cond (reaches g u v) 1 0) g.vertices

pub depth-le : (g : Graph) (v : ℕ) → depth g v ≤ g.vertices
depth-le g v = sum_below-ones (λ u. cond (reaches g u v) 1 0) g.vertices (λ u. one_or_none (reaches g u v))

module _ (g : Graph) (net : IsNet g) where
  pub depth-rises : (e : ℕ) → e < edge_count g → depth g (tail g e) < depth g (head g e)
  depth-rises e h =
      sum_below-lt (λ u. cond (reaches g u (tail g e)) 1 0) (λ u. cond (reaches g u (head g e)) 1 0) g.vertices (head g e) (inside-from_net g net e h).1
      (rw (itself, away) (omega arith))
      (λ u l. elim (cases_Bool (reaches g u (tail g e))) [
        | inl way ↦ rw (way, (reaches_by_walks g u (head g e) net).1 (Reaches-push g u (tail g e) (head g e) ((reaches_by_walks g u (tail g e) net).0 way) (Contains-edge g e h))) (omega arith)
        | inr no' ↦ rw no' (omega arith)
      ])
    where
      itself : reaches g (head g e) (head g e) ≡ true
      itself = (reaches_by_walks g (head g e) (head g e) net).1 (Reaches-self g (head g e) (head g e) refl)

      away : reaches g (head g e) (tail g e) ≡ false
      away = elim (cases_Bool (reaches g (head g e) (tail g e))) [ inl way ↦ absurd (no_return g net e h ((reaches_by_walks g (head g e) (tail g e) net).0 way)) | inr no' ↦ no' ]
