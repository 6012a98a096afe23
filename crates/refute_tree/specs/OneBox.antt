-- One box, by the ranges of its slots and the links of slots and edges, and the record of choices that led to it.
use Rattle.std.specs.Prelude.{◌^◌, ◌≡◌, ℕ, suc, ◌<◌, ◌≤◌, List, [], ◌∷◌, length, reverse, vec_capacity, Bool, MatchBool, Some, None, All}
use Rattle.decomposition.specs.Graph.{Graph, IsNet, edge_count}
use Rattle.decomposition.specs.Boxes.{Slot}
use Rattle.decomposition.specs.declared.Range.{Range}
use Rattle.decomposition.specs.Reach.{IsBegun}
use Rattle.refute_tree.specs.declared.choice.Choice.{Choice}
use Rattle.refute_tree.specs.declared.one_box.OneBox.{OneBox}
use Rattle.refute_tree.specs.Choices.{Place, AreWithin, links_of, stands_for, before, next_of, undone}
use Rattle.link_cells.specs.Links.{walk_of}

-- the slots from number k on, by their ranges and the links
abbrev pub slots_from : ℕ → List Range → List (ℕ × ℕ) → List Slot
slots_from k [] links = []
slots_from k (r ∷ rs) links = record { lo = r.lo; hi = r.hi; walk = walk_of links k } ∷ slots_from (suc k) rs links

-- the box of ranges and links
abbrev pub box_of : List Range → List (ℕ × ℕ) → List Slot
box_of ranges links = slots_from 0 ranges links

-- every walk of a box is begun
abbrev pub IsBoxBegun : Graph → List Slot → Type 0
IsBoxBegun g b = All (λ s. IsBegun g s.walk) b

-- the place that is kept: the box, and the choices, of which the latest stands last in the code
abbrev pub place_of : OneBox → Place
place_of a = record { box = box_of a.ranges.items a.links.links; choices = reverse a.choices.items }

-- the boxes that are kept
abbrev pub boxes_of : Graph → OneBox → List (List Slot)
boxes_of g a = stands_for g (place_of a).box (place_of a).choices

-- these choices led to the box: its links are theirs, all of slots of the box, and there is room for one link and one entry a choice
pub record IsLedTo (g : Graph) (cs : List Choice) (a : OneBox) : Type 0 where
  pub net : IsNet g
  pub slots : a.links.slots ≡ length a.ranges.items
  pub edges : a.links.edges ≡ edge_count g
  pub links : a.links.links ≡ reverse (links_of cs)
  pub within : AreWithin (length a.ranges.items) cs
  pub begun : IsBoxBegun g (box_of a.ranges.items a.links.links)
  pub choices : a.links.room ≤ vec_capacity a.choices
  pub few : length a.ranges.items < 2 ^ 32

-- the choices that are kept led to the box
abbrev pub IsOneBox : Graph → OneBox → Type 0
IsOneBox g a = IsLedTo g (place_of a).choices a

-- the place is this, and there is as much room as before
pub record Comes (g : Graph) (old new : OneBox) (p : Place) : Type 0 where
  pub box : IsOneBox g new
  pub place : place_of new ≡ p
  pub room : new.links.room ≡ old.links.room

-- nothing is to come of a choice, and the box is the one before it
pub record IsBack (g : Graph) (c : Choice) (old new : OneBox) : Type 0 where
  pub box : IsOneBox g new
  pub none : next_of g (before (place_of old).box c) c (place_of old).choices ≡ None
  pub place : place_of new ≡ record { box = before (place_of old).box c; choices = (place_of old).choices }
  pub room : new.links.room ≡ old.links.room

-- the place is the next one of a choice that was taken off the record, if it gives one, and else the box before it
abbrev pub GivesNext : Graph → Choice → OneBox → OneBox → Bool → Type 0
GivesNext g c old new done =
    MatchBool done ((p : Place) × (next_of g (before (place_of old).box c) c (place_of old).choices ≡ Some p) × Comes g old new p)
    (IsBack g c old new)

-- as far as what is undone goes, nothing was to come of the latest choice
pub record GoesBack (g : Graph) (old new : OneBox) : Type 0 where
  pub box : IsOneBox g new
  pub undone : undone g (place_of old).box (place_of old).choices ≡ undone g (place_of new).box (place_of new).choices
  pub fewer : length new.choices.items < length old.choices.items
  pub room : new.links.room ≡ old.links.room

-- the latest choice gives the place that the undo gives, or nothing
abbrev pub GoesOn : Graph → OneBox → OneBox → Bool → Type 0
GoesOn g old new done =
    MatchBool done ((p : Place) × (undone g (place_of old).box (place_of old).choices ≡ Some p) × Comes g old new p) (GoesBack g old new)
