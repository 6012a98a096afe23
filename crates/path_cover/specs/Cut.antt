-- Sets of vertices that every path leaves once.
use Rattle.std.specs.Prelude.{◌≡◌, ℕ, ◌≤◌, ◌<◌, ◌&&◌, nat_lt, Bool, not, cond, List, length, IsTrue}
use Rattle.std.specs.List.{list_all}
use Rattle.decomposition.specs.Graph.{Graph, edge_count, tail, head, is_source, is_sink}
use Rattle.decomposition.specs.Answer.{is_ordered, sum_below}
use Rattle.path_cover.specs.Carrying.{least_flow}

-- a set with the sources and without the sinks that edges have, which edges leave with no more than their least flow and none enters
pub record IsClosed (g : Graph) (needed : ℕ → Bool) (flow : ℕ → ℕ) (inside : ℕ → Bool) : Type 0 where
  pub sources : (e : ℕ) → e < edge_count g → IsTrue (is_source g (tail g e)) → IsTrue (inside (tail g e))
  pub sinks : (e : ℕ) → e < edge_count g → IsTrue (is_sink g (head g e)) → IsTrue (not (inside (head g e)))
  pub onward : (e : ℕ) → e < edge_count g → IsTrue (inside (tail g e)) → IsTrue (not (inside (head g e))) → flow e ≤ least_flow needed e
  pub back : (e : ℕ) → e < edge_count g → IsTrue (inside (head g e)) → IsTrue (inside (tail g e))

-- whether an edge leaves a set of vertices
abbrev pub leaves : Graph → (ℕ → Bool) → ℕ → Bool
leaves g inside e = inside (tail g e) && not (inside (head g e))

-- the edges before place n that pass a test, rising
pub record AreThose (test : ℕ → Bool) (n : ℕ) (es : List ℕ) : Type 0 where
  pub listed : IsTrue (list_all (λ e. nat_lt e n && test e) es)
  pub count : length es ≡ sum_below (λ e. cond (test e) 1 0) n
  pub rising : IsTrue (is_ordered nat_lt es)
