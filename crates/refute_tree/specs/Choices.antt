-- The record of choices that led to the first box, the latest first, and the boxes that it has still to give.
use Rattle.std.specs.Prelude.{ℕ, ◌+◌, ◌-◌, ◌<◌, cond, nat_lt, List, [], ◌∷◌, ◌++◌, map, filter, length, set, take, Option, Some, None, All}
use Rattle.decomposition.specs.declared.Token.{Token}
use Rattle.decomposition.specs.declared.Token.TheVariants.{Gap, Miss, Split as SplitToken, Step as StepToken}
use Rattle.decomposition.specs.Graph.{Graph, edge_count, tail, is_source, edges_from, edges_from_sources}
use Rattle.decomposition.specs.Instance.{Instance}
use Rattle.decomposition.specs.Boxes.{Slot, slot_at}
use Rattle.decomposition.specs.Tokens.{next_edges, middle, with_hi, with_lo, with_edge}
use Rattle.refute_tree.specs.declared.choice.Choice.{Choice}
use Rattle.refute_tree.specs.declared.choice.Choice.TheVariants.{Step, Lower, Upper}

-- the edges that may follow a walk, after edge e
abbrev pub later : Graph → List ℕ → ℕ → List ℕ
later g walk e = filter (λ f. nat_lt e f) (next_edges g walk)

-- the edges after e that may follow the walks that e may follow: those that leave a source where e does, else those that leave the same vertex
abbrev pub later_of : Graph → ℕ → List ℕ
later_of g e = filter (λ f. nat_lt e f) (cond (is_source g (tail g e)) (edges_from_sources g) (edges_from g (tail g e)))

-- a list without its last entry
abbrev pub without_last : List ℕ → List ℕ
without_last es = take (length es - 1) es

-- a box without the last edge of the walk of one slot
abbrev pub without_edge : List Slot → ℕ → List Slot
without_edge b k = set b k (record (slot_at b k) { walk = without_last (slot_at b k).walk })

-- the box before a choice, from the box after it
abbrev pub before : List Slot → Choice → List Slot
before b (Step k e) = without_edge b k
before b (Lower k lo hi) = with_hi b k hi
before b (Upper k lo) = with_lo b k lo

-- the boxes that a choice has still to give, from the box before it: the later edges of a step, the upper half of a split
abbrev pub to_come : Graph → List Slot → Choice → List (List Slot)
to_come g b (Step k e) = map (λ f. with_edge b k f) (later g (slot_at b k).walk e)
to_come g b (Lower k lo hi) = with_lo b k lo ∷ []
to_come g b (Upper k lo) = []

-- how many boxes a choice has still to give
abbrev pub coming : Graph → Choice → ℕ
coming g (Step k e) = length (later_of g e)
coming g (Lower k lo hi) = 1
coming g (Upper k lo) = 0

-- the edge of a choice is one of the graph
abbrev pub HasEdge : Graph → Choice → Type 0
HasEdge g (Step k e) = e < edge_count g
HasEdge g (Lower k lo hi) = Unit {0}
HasEdge g (Upper k lo) = Unit {0}

-- the boxes that wait behind a box: those of the choices that led to it, the latest first
abbrev pub waiting : Graph → List Slot → List Choice → List (List Slot)
waiting g b [] = []
waiting g b (c ∷ cs) = to_come g (before b c) c ++ waiting g (before b c) cs

-- what a first box and the choices that led to it stand for
abbrev pub stands_for : Graph → List Slot → List Choice → List (List Slot)
stands_for g b cs = b ∷ waiting g b cs

-- the slot of a choice
abbrev pub slot_of : Choice → ℕ
slot_of (Step k e) = k
slot_of (Lower k lo hi) = k
slot_of (Upper k lo) = k

-- each choice is of one of so many slots
abbrev pub AreWithin : ℕ → List Choice → Type 0
AreWithin n cs = All (λ c. slot_of c < n) cs

-- the links of the choices, (slot, edge) each, the latest first
abbrev pub links_of : List Choice → List (ℕ × ℕ)
links_of [] = []
links_of (Step k e ∷ cs) = (k, e) ∷ links_of cs
links_of (Lower k lo hi ∷ cs) = links_of cs
links_of (Upper k lo ∷ cs) = links_of cs

-- a box and the choices that led to it
pub record Place : Type 0 where
  pub box : List Slot
  pub choices : List Choice

-- the first of two places that is there
abbrev pub or_place : Option Place → Option Place → Option Place
or_place (Some p) q = Some p
or_place None q = q

-- a step by the first of some edges, if there is one
abbrev pub step_by : List Slot → ℕ → List Choice → List ℕ → Option Place
step_by b k cs [] = None
step_by b k cs (e ∷ es) = Some (record { box = with_edge b k e; choices = Step k e ∷ cs })

-- the next place that a choice gives, from the box before it
abbrev pub next_of : Graph → List Slot → Choice → List Choice → Option Place
next_of g b (Step k e) cs = step_by b k cs (later g (slot_at b k).walk e)
next_of g b (Lower k lo hi) cs = Some (record { box = with_lo b k lo; choices = Upper k (slot_at b k).lo ∷ cs })
next_of g b (Upper k lo) cs = None

-- the undo: back over the choices that have nothing to give, and on with the first that has
abbrev pub undone : Graph → List Slot → List Choice → Option Place
undone g b [] = None
undone g b (c ∷ cs) = or_place (next_of g (before b c) c cs) (undone g (before b c) cs)

-- the boxes at a place; none where there is none
abbrev pub boxes_at : Graph → Option Place → List (List Slot)
boxes_at g None = []
boxes_at g (Some p) = stands_for g p.box p.choices

-- the place after a token; none where no box is left
abbrev pub place_after : Instance → Place → Token → Option Place
place_after i p Gap = undone i.graph p.box p.choices
place_after i p (Miss c) = undone i.graph p.box p.choices
place_after i p (SplitToken k) = Some (record { box = with_hi p.box k (middle p.box k); choices = Lower k (middle p.box k + 1) (slot_at p.box k).hi ∷ p.choices })
place_after i p (StepToken k) = or_place (step_by p.box k p.choices (next_edges i.graph (slot_at p.box k).walk)) (undone i.graph p.box p.choices)
