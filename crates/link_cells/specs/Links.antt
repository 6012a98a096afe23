-- Links of slots and edges, in the order in which they were made.
use Rattle.std.specs.Prelude.{◌≡◌, ℕ, zero, suc, ◌+◌, ◌^◌, ◌<◌, ◌≤◌, Bool, ◌==◌, cond, List, [], map, filter, length, slice_index_or, take, vec_len, vec_capacity, Option, Some, None, All}
use Rattle.link_cells.specs.declared.incidence.Link.{Link}
use Rattle.link_cells.specs.declared.incidence.Incidence.TheInside.{Inside}

-- what an incidence stands for: how many slots, edges and links there may be, and the links, (slot, edge) each, the latest last
pub record LinkList : Type 0 where
  pub slots : ℕ
  pub edges : ℕ
  pub room : ℕ
  pub links : List (ℕ × ℕ)

-- the slot and the edge of a link
abbrev pub slot_in : List (ℕ × ℕ) → ℕ → ℕ
slot_in links p = (slice_index_or links p (0, 0)).0

abbrev pub edge_in : List (ℕ × ℕ) → ℕ → ℕ
edge_in links p = (slice_index_or links p (0, 0)).1

-- the greatest number below n that passes, if there is one
abbrev pub latest : (ℕ → Bool) → ℕ → Option ℕ
latest test zero = None
latest test (suc n) = cond (test n) (Some n) (latest test n)

-- of the first n links, the latest of a slot, and the latest of an edge
abbrev pub latest_of : List (ℕ × ℕ) → ℕ → ℕ → Option ℕ
latest_of links k n = latest (λ p. slot_in links p == k) n

abbrev pub latest_on : List (ℕ × ℕ) → ℕ → ℕ → Option ℕ
latest_on links e n = latest (λ p. edge_in links p == e) n

-- the edges that were linked to a slot, in order
abbrev pub walk_of : List (ℕ × ℕ) → ℕ → List ℕ
walk_of links k = map (λ l. l.1) (filter (λ l. l.0 == k) links)

-- the edges of a slot up to one of its links, and with it; none where there is no link
abbrev pub walk_to : List (ℕ × ℕ) → Option ℕ → List ℕ
walk_to links None = []
walk_to links (Some p) = walk_of (take (p + 1) links) (slot_in links p)

-- the links that entries stand for
abbrev pub links_in : List Link → List (ℕ × ℕ)
links_in cells = map (λ c. (c.slot, c.edge)) cells

-- what the fields stand for
abbrev pub shown : Inside → LinkList
shown a = record { slots = length a.last.items; edges = length a.first.items; room = a.room; links = links_in a.cells.items }

-- each link names the one of its slot before it, and the one of its edge before it
pub record IsLinked (links : List (ℕ × ℕ)) (p : ℕ) (c : Link) : Type 0 where
  pub before : c.before ≡ latest_of links c.slot p
  pub next : c.next ≡ latest_on links c.edge p

-- the room is a number of 32 bits, the links fit it, and the ends of all lists are the latest links
pub record IsKept (a : Inside) : Type 0 where
  pub in_word : a.room < 2 ^ 32
  pub fits : vec_len a.cells ≤ a.room
  pub taken : a.room ≤ vec_capacity a.cells
  pub inside : All (λ c. (c.slot < length a.last.items) × (c.edge < length a.first.items)) a.cells.items
  pub linked : (p : ℕ) (d : Link) → p < length a.cells.items → IsLinked (links_in a.cells.items) p (slice_index_or a.cells.items p d)
  pub last : (k : ℕ) → k < length a.last.items → slice_index_or a.last.items k None ≡ latest_of (links_in a.cells.items) k (length a.cells.items)
  pub first : (e : ℕ) → e < length a.first.items → slice_index_or a.first.items e None ≡ latest_on (links_in a.cells.items) e (length a.cells.items)
