-- What a search for a way to less flow has found.
use Rattle.std.specs.Prelude.{◌≡◌, ◌≢◌, ℕ, ◌+◌, ◌^◌, ◌<◌, ◌≤◌, ◌⊎◌, Bool, true, cond, not, List, [], ◌∷◌, ◌++◌, length, vec_len, slice_index, slice_set, Option, None, MatchOption, slice_index_or, IsTrue}
use Rattle.decomposition.specs.Graph.{Graph, edge_count, tail, head, is_source, is_sink}
use Rattle.decomposition.specs.Answer.{sum_below}
use Rattle.dag_net.specs.Marks.{is_set}
use Rattle.path_cover.specs.Carrying.{least_flow, IsCarrying}
use Rattle.path_cover.specs.Cut.{IsClosed}
use Rattle.path_cover.specs.declared.search.Reached.{Reached}
use Rattle.path_cover.specs.declared.search.Search.{Search}

-- the entry at a place
abbrev pub entry_at : List Reached → ℕ → Reached
entry_at entries k = slice_index_or entries k (record { vertex = 0; way = None })

-- one unit less may pass from u to v: along an edge that has one to spare, or against an edge, which then has one more
abbrev pub IsStepOver : Graph → (ℕ → Bool) → (ℕ → ℕ) → ℕ → ℕ → ℕ → Type 0
IsStepOver g needed flow e u v = ((tail g e ≡ u) × (head g e ≡ v) × (least_flow needed e < flow e)) ⊎ ((head g e ≡ u) × (tail g e ≡ v))

-- a step over edge e leads from the earlier entry at place `from`, which is no sink, to a vertex
pub record IsStepFrom (g : Graph) (needed : ℕ → Bool) (flow : ℕ → ℕ) (entries : List Reached) (k v e from : ℕ) : Type 0 where
  pub edge : e < edge_count g
  pub earlier : from < k
  pub goes_on : IsTrue (not (is_sink g (entry_at entries from).vertex))
  pub step : IsStepOver g needed flow e (entry_at entries from).vertex v

-- a vertex that may stand at place k: a source with an edge, or one step from an earlier entry
abbrev pub IsReached : Graph → (ℕ → Bool) → (ℕ → ℕ) → List Reached → ℕ → ℕ → Option (ℕ × ℕ) → Type 0
IsReached g needed flow entries k v way =
    MatchOption way (IsTrue (is_source g v) × IsTrue (not (is_sink g v))) (λ s. IsStepFrom g needed flow entries k v s.0 s.1)

-- entries that are reached, each vertex once, and marks on just their vertices
pub record IsSearch (g : Graph) (needed : ℕ → Bool) (flow : ℕ → ℕ) (entries : List Reached) (marked : List Bool) : Type 0 where
  pub count : length marked ≡ g.vertices
  pub reached : (k : ℕ) → k < length entries → IsReached g needed flow entries k (entry_at entries k).vertex (entry_at entries k).way
  pub distinct : (j k : ℕ) → j < k → k < length entries → (entry_at entries j).vertex ≢ (entry_at entries k).vertex
  pub marks : (k : ℕ) → k < length entries → IsTrue (is_set marked (entry_at entries k).vertex)
  pub listed : (v : ℕ) → IsTrue (is_set marked v) → (k : ℕ) × (k < length entries) × ((entry_at entries k).vertex ≡ v)
  pub size : sum_below (λ v. cond (is_set marked v) 1 0) g.vertices ≡ length entries

-- an entry is added where its vertex was not marked, and then is
pub record Enters (old : List Reached) (old_marked : List Bool) (r : Reached) (new : List Reached) (new_marked : List Bool) : Type 0 where
  pub entries : new ≡ cond (is_set old_marked r.vertex) old (old ++ r ∷ [])
  pub marked : new_marked ≡ cond (is_set old_marked r.vertex) old_marked (slice_set old_marked r.vertex true)

-- the search is right for every flow: its entries are sources
abbrev pub IsBegun : Graph → List Reached → List Bool → Type 0
IsBegun g entries marked = (needed : ℕ → Bool) (flow : ℕ → ℕ) → IsSearch g needed flow entries marked

-- what was there is still there
pub record Grows (old : List Reached) (old_marked : List Bool) (new : List Reached) (new_marked : List Bool) : Type 0 where
  pub longer : length old ≤ length new
  pub same : (k : ℕ) → k < length old → entry_at new k ≡ entry_at old k
  pub marks : (v : ℕ) → IsTrue (is_set old_marked v) → IsTrue (is_set new_marked v)

-- the vertices that steps over edge e lead to from v are marked
pub record IsFollowed (g : Graph) (needed : ℕ → Bool) (flow : ℕ → ℕ) (marked : List Bool) (v e : ℕ) : Type 0 where
  pub along : tail g e ≡ v → least_flow needed e < flow e → IsTrue (is_set marked (head g e))
  pub against : head g e ≡ v → IsTrue (is_set marked (tail g e))

-- the same for every edge
abbrev pub IsVisited : Graph → (ℕ → Bool) → (ℕ → ℕ) → List Bool → ℕ → Type 0
IsVisited g needed flow marked v = (e : ℕ) → e < edge_count g → IsFollowed g needed flow marked v e

-- the sources that edges have are marked
abbrev pub AreSourcesMarked : Graph → ℕ → List Bool → Type 0
AreSourcesMarked g n marked = (e : ℕ) → e < n → IsTrue (is_source g (tail g e)) → IsTrue (is_set marked (tail g e))

-- where a search has ended: at an entry that is a sink, or with a closed set of marked vertices
abbrev pub EndsAt : Graph → (ℕ → Bool) → (ℕ → ℕ) → List Reached → List Bool → Option ℕ → Type 0
EndsAt g needed flow entries marked end =
    MatchOption end (IsClosed g needed flow (is_set marked)) (λ k. (k < length entries) × IsTrue (is_sink g (entry_at entries k).vertex))

-- a search for a flow and a need of each edge, whose entry at place k may go on: it is no sink
pub record MayVisit (g : Graph) (flow : List ℕ) (needed : List Bool) (s : Search) (k : ℕ) : Type 0 where
  pub one_flow : length flow ≡ edge_count g
  pub one_need : length needed ≡ edge_count g
  pub place : k < vec_len s.entries
  pub goes_on : IsTrue (not (is_sink g (entry_at s.entries.items k).vertex))
  pub search : IsSearch g (is_set needed) (slice_index flow) s.entries.items s.marked.items

-- the search is still right, and what was there is still there
pub record KeepsSearch (g : Graph) (flow : List ℕ) (needed : List Bool) (old new : Search) : Type 0 where
  pub search : IsSearch g (is_set needed) (slice_index flow) new.entries.items new.marked.items
  pub grows : Grows old.entries.items old.marked.items new.entries.items new.marked.items

-- a search that came to a sink at place `last`, where the flow carries the needed edges and has room for one unit more of each vertex
pub record MayTakeUnit (g : Graph) (needed : List Bool) (flow : List ℕ) (s : Search) (last : ℕ) : Type 0 where
  pub one_need : length needed ≡ edge_count g
  pub one_flow : length flow ≡ edge_count g
  pub search : IsSearch g (is_set needed) (slice_index flow) s.entries.items s.marked.items
  pub carrying : IsCarrying g (is_set needed) (slice_index flow)
  pub place : last < vec_len s.entries
  pub sink : IsTrue (is_sink g (entry_at s.entries.items last).vertex)
  pub small : (e : ℕ) → slice_index flow e + g.vertices < 2 ^ 64
