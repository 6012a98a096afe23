use Rattle.std.proofs.Common.{◌<◌, ◌&&◌, not, length, ap, sym, ◌∙◌, le-leb, arith}
use Rattle.decomposition.specs.Boxes.{slot_at, upper_at}
use Rattle.decomposition.specs.Tokens.{is_finished}
use Rattle.refute_tree.specs.Front.{Boxes, first_of}
use Rattle.refute_tree.proofs.Fronts.{bounds-there, has-first, first-kept, first-length, upper-kept, walk-kept}
use Rattle.refute_tree.proofs.Taking.{walk_begun}
use Rattle.refute_tree.proofs.front.Front.is_unfinished.Goals as goal
use Rattle.refute_tree.proofs.front.Front.is_unfinished.Goals.{After-self}

-- the slot is one of the ranges that are kept
inside : (c : After-self) → c.args.slot < length c.self.inside.one.ranges.items
inside c =
    let a = c.self.inside in
    let f = c.args.self.now in
    omega (arith, c.requires.slot, first-length a f c.self.view_is (has-first a f c.self.view_is c.requires.some))

pub index-requires : goal.index-requires
index-requires c = (bounds-there c.self.inside c.args.self.now c.args.slot c.self.view_is c.self.invariant c.requires.some c.requires.slot).1

pub is_finished-requires-clause-slot : goal.is_finished-requires-clause-slot
is_finished-requires-clause-slot c =
    let a = c.self.inside in
    omega (arith, inside (goal.at.is_finished-requires-clause-slot c).After-self, (first-kept a c.args.self.now c.self.view_is c.self.invariant c.requires.some).one.slots)

pub is_finished-requires-clause-begun : goal.is_finished-requires-clause-begun
is_finished-requires-clause-begun c =
    let a = c.self.inside in
    walk_begun a.net.now a.one c.args.slot (first-kept a c.args.self.now c.self.view_is c.self.invariant c.requires.some).one (inside (goal.at.is_finished-requires-clause-begun c).After-self)

pub returns-then-index-ge1 : goal.returns-then-index-ge1
returns-then-index-ge1 c =
    let a = c.self.inside in
    let f = c.args.self.now in
    let b = first_of f.boxes in
    let k = c.args.slot in
    let upper = upper-kept a f k c.index.result.now c.self.view_is c.self.invariant c.requires.some c.requires.slot c.index.ensures in
    let walk = walk-kept a f k c.self.view_is (has-first a f c.self.view_is c.requires.some) (inside (goal.at.returns-then-index-ge1 c).After-self) in
    let one = le-leb 1 (upper_at b k) (omega (arith, upper)) in
    let same = c.is_finished.ensures ∙ ap (is_finished a.net.now) (sym walk) ∙ ap (λ (x : Boxes). is_finished x.instance.graph (slot_at b k).walk) c.self.view_is in
    ap not same ∙ sym (ap (λ t. t && not (is_finished f.instance.graph (slot_at b k).walk)) one)
