-- When a walk leads to a run, and where an edge stands in a walk, counted from the walk's end.
use Rattle.std.specs.Prelude.{◌≡◌, ◌≢◌, ◌⊎◌, ℕ, ◌-◌, ◌<◌, ◌≤◌, List, [], length, slice_index}
use Rattle.decomposition.specs.Graph.{Graph}
use Rattle.decomposition.specs.Reach.{Reaches}
use Rattle.subpath_rules.specs.Follows.{run_start, run_end}
use Rattle.link_cells.specs.Links.{LinkList, walk_of}

-- the walk is empty, or its end leads to where the run begins
abbrev pub LeadsTo : Graph → List ℕ → List ℕ → Type 0
LeadsTo g walk run = (walk ≡ []) ⊎ Reaches g (run_end g walk) (run_start g run)

-- a slot whose upper bound is positive leads to the run
pub record IsAhead (g : Graph) (uppers : List ℕ) (l : LinkList) (run : List ℕ) : Type 0 where
  pub slot : ℕ
  pub inside : slot < l.slots
  pub positive : 1 ≤ slice_index uppers slot
  pub leads : LeadsTo g (walk_of l.links slot) run

-- the edge stands nowhere in the walk
abbrev pub IsNowhere : List ℕ → ℕ → Type 0
IsNowhere walk e = (k : ℕ) → k < length walk → slice_index walk k ≢ e

-- the last `count` edges of the walk begin with the edge
pub record IsLengthFrom (walk : List ℕ) (e count : ℕ) : Type 0 where
  pub positive : 0 < count
  pub within : count ≤ length walk
  pub first : slice_index walk (length walk - count) ≡ e
