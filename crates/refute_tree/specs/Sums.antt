-- What is kept of the sums of a box.
use Rattle.std.specs.Prelude.{◌≡◌, ◌≢◌, ℕ, ◌+◌, ◌≤◌, ◌<◌, ◌^◌, ◌-◌, max, Bool, true, false, cond, List, [], ◌∷◌, length, slice_index, slice_index_or, vec_len, IsTrue}
use Rattle.decomposition.specs.Graph.{Graph, edge_count, has_edge, paths}
use Rattle.decomposition.specs.Answer.{sum_below}
use Rattle.decomposition.specs.declared.Range.{Range}
use Rattle.decomposition.specs.Instance.{Instance, range_at}
use Rattle.decomposition.specs.Boxes.{Slot, upper_at, lower_at, may_have, low_on, high_on, gap}
use Rattle.link_cells.specs.Links.{LinkList, walk_of}
use Rattle.refute_tree.specs.declared.sums.Weights.{Weights}

-- room for so many slots and edges
pub record HasRoom (slots edges : ℕ) (s : Weights) : Type 0 where
  pub uppers : vec_len s.uppers ≡ slots
  pub lowers : vec_len s.lowers ≡ slots
  pub low : vec_len s.low ≡ edges
  pub high : vec_len s.high ≡ edges

-- the upper bounds of the slots
abbrev pub AreUppers : List Slot → List ℕ → Type 0
AreUppers b uppers = (k : ℕ) → k < length b → slice_index_or uppers k 0 ≡ upper_at b k

-- the lower bounds of the slots
abbrev pub AreLowers : List Slot → List ℕ → Type 0
AreLowers b lowers = (k : ℕ) → k < length b → slice_index_or lowers k 0 ≡ lower_at b k

-- the bounds kept are those of the box
pub record AreBounds (b : List Slot) (s : Weights) : Type 0 where
  pub uppers : AreUppers b s.uppers.items
  pub lowers : AreLowers b s.lowers.items

-- each weight has so much less, and then so much more, where a test passes; the others are the same
abbrev pub ChangesWhere : (ℕ → Bool) → ℕ → ℕ → List ℕ → List ℕ → Type 0
ChangesWhere test less more old new = (e : ℕ) → e < length old → slice_index new e + cond (test e) less 0 ≡ slice_index old e + cond (test e) more 0

-- each weight is at most so much
abbrev pub AreWithin : ℕ → List ℕ → Type 0
AreWithin most weights = (e : ℕ) → e < length weights → slice_index weights e ≤ most

-- each weight is at least so much where a test passes
abbrev pub AreAbove : (ℕ → Bool) → ℕ → List ℕ → Type 0
AreAbove test least weights = (e : ℕ) → e < length weights → IsTrue (test e) → least ≤ slice_index weights e

-- those of the first n numbers whose place passes a test, added up
abbrev pub sum_where : (ℕ → Bool) → List ℕ → ℕ → ℕ
sum_where test numbers n = sum_below (λ k. cond (test k) (slice_index numbers k) 0) n

-- whether a walk is empty
abbrev pub is_empty : List ℕ → Bool
is_empty [] = true
is_empty (e ∷ es) = false

-- whether a walk that is not empty may have the edge
abbrev pub leads_to : Graph → List ℕ → ℕ → Bool
leads_to g [] f = false
leads_to g (e ∷ es) f = may_have (paths g) (e ∷ es) f

-- the weights add up the bounds that are kept, whatever bounds these are: on each edge the lower ones of the slots whose walk has it, and
-- the upper ones of those whose walk may have it; where the walk is empty, the upper one is added for all edges at once
pub record AreTotals (g : Graph) (l : LinkList) (s : Weights) : Type 0 where
  pub room : HasRoom l.slots (edge_count g) s
  pub few : l.slots < 2 ^ 32
  pub lowers : AreWithin (2 ^ 64 - 1) s.lowers.items
  pub uppers : AreWithin (2 ^ 64 - 1) s.uppers.items
  pub low : (e : ℕ) → e < edge_count g → slice_index s.low.items e ≡ sum_where (λ k. has_edge (walk_of l.links k) e) s.lowers.items l.slots
  pub high : (e : ℕ) → e < edge_count g → slice_index s.high.items e ≡ sum_where (λ k. leads_to g (walk_of l.links k) e) s.uppers.items l.slots
  pub everywhere : s.everywhere ≡ sum_where (λ k. is_empty (walk_of l.links k)) s.uppers.items l.slots

-- the walks are the same, but for that of one slot
pub record ChangesWalk (k : ℕ) (old new : LinkList) : Type 0 where
  pub slots : new.slots ≡ old.slots
  pub others : (j : ℕ) → j ≢ k → walk_of new.links j ≡ walk_of old.links j

-- the greatest weight kept for an edge: its own, and what may be on every edge
abbrev pub high_at : Weights → ℕ → ℕ
high_at s e = slice_index s.high.items e + s.everywhere

-- each of the weights kept is at most so much
pub record AreSmall (most : ℕ) (s : Weights) : Type 0 where
  pub low : AreWithin most s.low.items
  pub high : (e : ℕ) → e < length s.high.items → high_at s e ≤ most
  pub everywhere : s.everywhere ≤ most

-- the sums are those of a box: the bounds of its slots, the least and the greatest weight on each edge, and the gap
pub record SumsUp (i : Instance) (b : List Slot) (s : Weights) : Type 0 where
  pub bounds : AreBounds b s
  pub low : (e : ℕ) → e < length s.low.items → slice_index s.low.items e ≡ low_on b e
  pub high : (e : ℕ) → e < length s.high.items → high_at s e ≡ high_on (paths i.graph) b e
  pub small : AreSmall (2 ^ 96) s
  pub gap : s.gap ≡ gap i b

-- how far the weights kept lie outside the range of an edge
abbrev pub outside : Weights → List Range → ℕ → ℕ
outside s ranges e = max (slice_index s.low.items e - (range_at ranges e).hi) ((range_at ranges e).lo - high_at s e)
