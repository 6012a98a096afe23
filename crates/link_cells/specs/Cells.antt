-- Lists of edges that share their beginnings.
use Rattle.std.specs.Prelude.{ℕ, ◌^◌, ◌<◌, ◌≤◌, List, [], ◌∷◌, ◌++◌, slice_index_or, vec_len, vec_capacity, Option, Some, None}
use Rattle.link_cells.specs.declared.cells.Cell.{Cell}
use Rattle.link_cells.specs.declared.cells.Cells.TheInside.{Inside}

-- what cells stand for: how many there may be, and for each the list that ends with its edge
pub record CellLists : Type 0 where
  pub room : ℕ
  pub lists : List (List ℕ)

-- the list of a tail: the empty one, or that of its cell
abbrev pub list_at : List (List ℕ) → Option ℕ → List ℕ
list_at lists None = []
list_at lists (Some k) = slice_index_or lists k []

-- among so many cells a tail is live: it is the empty one, or its cell is in use
abbrev pub IsLive : ℕ → Option ℕ → Type 0
IsLive count None = Unit {0}
IsLive count (Some k) = k < count

-- the lists so far, and those of further cells: each is the list of the tail below, and then the cell's own edge
abbrev pub lists_from : List (List ℕ) → List Cell → List (List ℕ)
lists_from lists [] = lists
lists_from lists (c ∷ cells) = lists_from (lists ++ (list_at lists c.below ++ c.edge ∷ []) ∷ []) cells

-- the cell at a place
abbrev pub cell_at : List Cell → ℕ → Cell
cell_at cells k = slice_index_or cells k (record { edge = 0; below = None })

-- what the fields stand for
abbrev pub shown : Inside → CellLists
shown a = record { room = a.room; lists = lists_from [] a.cells.items }

-- the room is a number of 32 bits, the cells fit it, and each hangs on the empty tail or on a cell before it
pub record IsKept (a : Inside) : Type 0 where
  pub in_word : a.room < 2 ^ 32
  pub fits : vec_len a.cells ≤ a.room
  pub taken : a.room ≤ vec_capacity a.cells
  pub linked : (k : ℕ) → k < vec_len a.cells → IsLive k (cell_at a.cells.items k).below
