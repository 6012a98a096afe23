-- What a test of two edges tells of the paths.
use Rattle.std.proofs.Common.{◌≡◌, ℕ, ◌<◌, ◌↔◌, ◌⊎◌, Bool, IsTrue}
use Rattle.decomposition.specs.Graph.{Graph, IsNet, edge_count, tail, head, EdgesShareAPath}
use Rattle.decomposition.specs.Reach.{Reaches}
use Rattle.decomposition.proofs.Reach.{edges_share_by_reach}

-- a test whether two edges are one, or the one reaches the other, tells whether some path has both
pub share-decides :
    (r : Bool) (g : Graph) (e f : ℕ) → IsNet g → e < edge_count g → f < edge_count g →
    IsTrue r ↔ ((e ≡ f) ⊎ (Reaches g (head g e) (tail g f) ⊎ Reaches g (head g f) (tail g e))) → IsTrue r ↔ EdgesShareAPath g e f
share-decides r g e f net in_e in_f says =
    let law : EdgesShareAPath g e f ↔ ((e ≡ f) ⊎ (Reaches g (head g e) (tail g f) ⊎ Reaches g (head g f) (tail g e))) = edges_share_by_reach g e f net in_e in_f in
    (λ passed. law.1 (says.0 passed), λ share. says.1 (law.0 share))
