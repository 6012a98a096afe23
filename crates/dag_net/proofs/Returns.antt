-- No walk leads back over an edge of a net.
use Rattle.std.proofs.Common.{◌≡◌, ℕ, ◌<◌, [], ◌∷◌, refl, true}
use Rattle.decomposition.specs.Graph.{Graph, IsNet, edge_count, tail, head, is_walk_from}
use Rattle.decomposition.specs.Reach.{Reaches}
use Rattle.decomposition.proofs.Walks.{walk-from_step}

-- the head of an edge does not lead back to its tail
pub no_return : (g : Graph) → IsNet g → (e : ℕ) → e < edge_count g → Reaches g (head g e) (tail g e) → ⊥
no_return g net e there way =
    let walk : is_walk_from g (tail g e) (e ∷ way.edges) ≡ true = walk-from_step g (tail g e) e way.edges (record { inside = there; leaves = refl; rest = way.walk }) in
    let none : e ∷ way.edges ≡ [] = net.acyclic (tail g e) (e ∷ way.edges) walk way.end in
    let no' : ⊥ = cc in no'
