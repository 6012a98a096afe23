-- What a front keeps, and what its fields stand for.
use Rattle.std.specs.Prelude.{◌≡◌, ◌≢◌, ◌<◌, ◌≤◌, ◌^◌, true, cond, List, [], length, IsTrue}
use Rattle.std.specs.List.{list_all}
use Rattle.decomposition.specs.Graph.{Graph, IsNet, edge_count, is_run}
use Rattle.decomposition.specs.declared.Token.{Token}
use Rattle.decomposition.specs.declared.Token.TheVariants.{Gap, Miss, Split, Step}
use Rattle.decomposition.specs.Boxes.{Slot, slot_at, lower_at, upper_at}
use Rattle.decomposition.specs.Tokens.{next_edges}
use Rattle.flow_models.specs.Problem.{instance}
use Rattle.flow_models.specs.declared.problem.Problem.{Problem}
use Rattle.refute_tree.specs.Ends.{AreSeen}
use Rattle.refute_tree.specs.Front.{Boxes, closing, AreLeft}
use Rattle.refute_tree.specs.OneBox.{place_of, boxes_of, IsOneBox}
use Rattle.refute_tree.specs.Sums.{AreTotals, SumsUp}
use Rattle.refute_tree.specs.declared.front.Front.TheInside.{Inside}

-- what the fields stand for: where there is a first box, it and those that its choices have still to give
abbrev pub shown : Inside → Boxes
shown a = record {
  instance = instance a.net.now a.problem.now;
  slots = a.decision.slots;
  limit = a.decision.limit;
  room = a.room;
  used = a.used;
  boxes = cond a.has_first (boxes_of a.net.now a.one) [];
}

-- a token may replace a box: one that closes it, a split between two bounds, or a step along an edge
abbrev pub Replaces : Graph → List Slot → Token → Type 0
Replaces g b Gap = Unit {0}
Replaces g b (Miss c) = Unit {0}
Replaces g b (Split k) = (k < length b) × (lower_at b k < upper_at b k)
Replaces g b (Step k) = (k < length b) × (next_edges g (slot_at b k).walk ≢ [])

-- a net, with a range for each edge and rules that are runs
pub record IsProblemOn (g : Graph) (p : Problem) : Type 0 where
  pub net : IsNet g
  pub ranged : length p.ranges ≡ edge_count g
  pub rules : IsTrue (list_all (is_run g) p.rules)

-- the choices led to the first box, there is room for one choice a token, the sums are those of the bounds kept, which are those of the box, and what is known of its walks is so
pub record KeepsFirst (a : Inside) : Type 0 where
  pub one : IsOneBox a.net.now a.one
  pub cells : a.one.links.room ≡ a.room
  pub spent : length a.one.choices.items ≤ a.used
  pub totals : AreTotals a.net.now a.one.links a.beside.sums
  pub sums : SumsUp (instance a.net.now a.problem.now) (place_of a.one).box a.beside.sums
  pub known : AreSeen a.problem.now.rules a.one.links.links a.beside.known

-- the fields go with each other, and the boxes are those that legal tokens left; where no box is left, nothing is said of the last one
pub record IsKept (a : Inside) : Type 0 where
  pub problem : IsProblemOn a.net.now a.problem.now
  pub fits : a.used ≤ a.room
  pub few : a.room < 2 ^ 32
  pub first : a.has_first ≡ true → KeepsFirst a
  pub closing : a.closing ≡ closing (shown a)
  pub left : AreLeft (shown a)
