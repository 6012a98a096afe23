-- What a search for a way for a surplus has found.
use Rattle.std.specs.Prelude.{◌≡◌, ◌≢◌, ℕ, ◌<◌, ◌≤◌, ◌⊎◌, Bool, true, cond, not, List, [], ◌∷◌, ◌++◌, length, slice_set, Option, None, MatchOption, slice_index_or, IsTrue}
use Rattle.decomposition.specs.Answer.{sum_below}
use Rattle.dag_net.specs.Marks.{is_set}
use Rattle.lower_flow.specs.Residual.{Residual}
use Rattle.lower_flow.specs.declared.search.Reached.{Reached}
use Rattle.lower_flow.specs.declared.search.Target.{Target}

-- the entry at a place
abbrev pub entry_at : List Reached → ℕ → Reached
entry_at entries k = slice_index_or entries k (record { vertex = 0; room = 0; way = None })

-- over edge e a surplus gets from u to v where it has this room: onward with more flow on it, or back with less
abbrev pub IsStepOver : Residual → ℕ → ℕ → ℕ → ℕ → Type 0
IsStepOver r e u v room = ((r.near e ≡ u) × (r.far e ≡ v) × (room ≡ r.above e)) ⊎ ((r.far e ≡ u) × (r.near e ≡ v) × (room ≡ r.below e))

-- a step over edge e leads from the earlier entry at place `from` to a vertex, with room for as much as gets there
pub record IsStepFrom (r : Residual) (entries : List Reached) (k v room e from : ℕ) : Type 0 where
  pub edge : e < r.edges
  pub earlier : from < k
  pub step : (wide : ℕ) × IsStepOver r e (entry_at entries from).vertex v wide × (room ≤ wide)
  pub less : room ≤ (entry_at entries from).room

-- a vertex that may stand at place k: one that has too much, or one step from an earlier entry
abbrev pub IsReached : Residual → List Reached → ℕ → ℕ → ℕ → Option (ℕ × ℕ) → Type 0
IsReached r entries k v room way = MatchOption way (room ≤ r.surplus v) (λ s. IsStepFrom r entries k v room s.0 s.1)

-- entries that are reached, each vertex once, and marks on just their vertices
pub record IsSearch (r : Residual) (entries : List Reached) (marked : List Bool) : Type 0 where
  pub count : length marked ≡ r.vertices
  pub reached : (k : ℕ) → k < length entries → IsReached r entries k (entry_at entries k).vertex (entry_at entries k).room (entry_at entries k).way
  pub positive : (k : ℕ) → k < length entries → 0 < (entry_at entries k).room
  pub distinct : (j k : ℕ) → j < k → k < length entries → (entry_at entries j).vertex ≢ (entry_at entries k).vertex
  pub marks : (k : ℕ) → k < length entries → IsTrue (is_set marked (entry_at entries k).vertex)
  pub listed : (v : ℕ) → IsTrue (is_set marked v) → (k : ℕ) × (k < length entries) × ((entry_at entries k).vertex ≡ v)
  pub size : sum_below (λ v. cond (is_set marked v) 1 0) r.vertices ≡ length entries

-- an entry is added where its vertex was not marked, and then is
pub record Enters (old : List Reached) (old_marked : List Bool) (r : Reached) (new : List Reached) (new_marked : List Bool) : Type 0 where
  pub entries : new ≡ cond (is_set old_marked r.vertex) old (old ++ r ∷ [])
  pub marked : new_marked ≡ cond (is_set old_marked r.vertex) old_marked (slice_set old_marked r.vertex true)

-- what was there is still there
pub record Grows (old : List Reached) (old_marked : List Bool) (new : List Reached) (new_marked : List Bool) : Type 0 where
  pub longer : length old ≤ length new
  pub same : (k : ℕ) → k < length old → entry_at new k ≡ entry_at old k
  pub marks : (v : ℕ) → IsTrue (is_set old_marked v) → IsTrue (is_set new_marked v)

-- the vertices that steps over edge e lead to from v are marked
pub record IsFollowed (r : Residual) (marked : List Bool) (v e : ℕ) : Type 0 where
  pub onward : r.near e ≡ v → 0 < r.above e → IsTrue (is_set marked (r.far e))
  pub back : r.far e ≡ v → 0 < r.below e → IsTrue (is_set marked (r.near e))

-- the same for every edge
abbrev pub IsVisited : Residual → List Bool → ℕ → Type 0
IsVisited r marked v = (e : ℕ) → e < r.edges → IsFollowed r marked v e

-- the vertices below n that have too much are marked
abbrev pub AreStarted : Residual → ℕ → List Bool → Type 0
AreStarted r n marked = (v : ℕ) → v < n → 0 < r.surplus v → IsTrue (is_set marked v)

-- marked are all vertices that have too much and none that takes up anything, and no edge has room for a step out of them
pub record IsClosed (r : Residual) (inside : ℕ → Bool) : Type 0 where
  pub started : (v : ℕ) → v < r.vertices → 0 < r.surplus v → IsTrue (inside v)
  pub full : (v : ℕ) → v < r.vertices → IsTrue (inside v) → r.lack v ≡ 0
  pub onward : (e : ℕ) → e < r.edges → IsTrue (inside (r.near e)) → IsTrue (not (inside (r.far e))) → r.above e ≡ 0
  pub back : (e : ℕ) → e < r.edges → IsTrue (inside (r.far e)) → IsTrue (not (inside (r.near e))) → r.below e ≡ 0

-- an amount that gets to the entry and that its vertex takes up
pub record IsTarget (r : Residual) (entries : List Reached) (target : Target) : Type 0 where
  pub there : target.place < length entries
  pub positive : 0 < target.amount
  pub gets_there : target.amount ≤ (entry_at entries target.place).room
  pub taken : target.amount ≤ r.lack (entry_at entries target.place).vertex

-- where a search has ended: at a target, or with a closed set of marked vertices
abbrev pub EndsAt : Residual → List Reached → List Bool → Option Target → Type 0
EndsAt r entries marked target = MatchOption target (IsClosed r (is_set marked)) (IsTarget r entries)
