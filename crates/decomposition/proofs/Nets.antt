-- What a net says of its list of edges, and the facts by which a list of edges makes a net.
use Rattle.std.proofs.Common.{◌≡◌, ◌≢◌, ◌==◌, ℕ, ◌<◌, ◌&&◌, true, nat_lt, ap, subst, ◌∙◌, eq-eqb, eqb-true, ltb-true, lt-ltb}
use Rattle.std.specs.Prelude.{All, AllPairs, Contains, IsTrue}
use Rattle.std.specs.List.{list_all, IsDistinct}
use Rattle.std.proofs.lemmas.Bool.{and_parts, and_from}
use Rattle.std.proofs.lemmas.List.{get_or_default}
use Rattle.std.proofs.lemmas.Map.Made.{IsDistinct-from_AllPairs}
use Rattle.decomposition.specs.Graph.{Graph, IsNet, edge_count, tail, head, is_inner, same_ends}
use Rattle.decomposition.specs.Flow.{IsBalanced, IsBalancedAt}
use Rattle.decomposition.proofs.Root.{all-place}
use Rattle.decomposition.proofs.Open.{all-from_places}
use Rattle.decomposition.proofs.Balance.{inner-parts}
use Rattle.decomposition.proofs.Walks.{edge_into}

-- edge e joins its tail to its head
pub Contains-edge : (g : Graph) (e : ℕ) → e < edge_count g → Contains g.edges (tail g e, head g e)
Contains-edge g e h = (e, h, get_or_default g.edges e _ (0, 0) h)

-- the number of an edge
pub edge_number : (g : Graph) (u v : ℕ) → Contains g.edges (u, v) → (e : ℕ) × (e < edge_count g) × (tail g e ≡ u) × (head g e ≡ v)
edge_number g u v h =
    let is : (tail g h.0, head g h.0) ≡ (u, v) = get_or_default g.edges h.0 (0, 0) (u, v) h.1 ∙ h.2 in
    (h.0, h.1, ap (λ (edge : ℕ × ℕ). edge.0) is, ap (λ (edge : ℕ × ℕ). edge.1) is)

-- every end is a vertex, as a test
pub in_range-from_inside : (g : Graph) → All (λ edge. (edge.0 < g.vertices) × (edge.1 < g.vertices)) g.edges → list_all (λ e. nat_lt e.0 g.vertices && nat_lt e.1 g.vertices) g.edges ≡ true
in_range-from_inside g inside =
    all-from_places (λ e. nat_lt e.0 g.vertices && nat_lt e.1 g.vertices) g.edges (0, 0)
    (λ k h. let ends = inside k (0, 0) h in and_from _ _ (lt-ltb _ _ ends.0) (lt-ltb _ _ ends.1))

pub inside-from_net : (g : Graph) → IsNet g → (e : ℕ) → e < edge_count g → (tail g e < g.vertices) × (head g e < g.vertices)
inside-from_net g net e there =
    let parts = and_parts _ _ (all-place (λ e. nat_lt e.0 g.vertices && nat_lt e.1 g.vertices) g.edges (0, 0) e net.in_range there) in
    (ltb-true _ _ parts.0, ltb-true _ _ parts.1)

-- two edges have the same ends exactly where they are equal
pub same_ends-Decides : (a b : ℕ × ℕ) → (same_ends a b ≡ true → a ≡ b) × (a ≡ b → same_ends a b ≡ true)
same_ends-Decides a b = (
  λ t.
      let parts = and_parts (a.0 == b.0) (a.1 == b.1) t in
      subst (λ y. ◌≡◌ {A = ℕ × ℕ} a (b.0, y)) (eqb-true a.1 b.1 parts.1) (ap (λ x. let e : ℕ × ℕ = (x, a.1) in e) (eqb-true a.0 b.0 parts.0)),
  λ e. and_from (a.0 == b.0) (a.1 == b.1) (eq-eqb _ _ (ap (λ (x : ℕ × ℕ). x.0) e)) (eq-eqb _ _ (ap (λ (x : ℕ × ℕ). x.1) e)),
)

pub simple-from_pairs : (g : Graph) → AllPairs (λ a b. a ≢ b) g.edges → IsDistinct same_ends g.edges
simple-from_pairs g pairs = IsDistinct-from_AllPairs same_ends-Decides g.edges pairs

-- a flow is balanced where each inner vertex below the number of vertices is
pub IsBalanced-from_none : (g : Graph) (flow : ℕ → ℕ) → IsNet g → ((v : ℕ) → v < g.vertices → IsTrue (is_inner g v) → IsBalancedAt g flow v) → IsBalanced g flow
IsBalanced-from_none g flow net each v inner =
    let into = edge_into g v (inner-parts g v inner).0 in
    each v (subst (λ u. u < g.vertices) into.2 (inside-from_net g net into.0 into.1).1) inner
