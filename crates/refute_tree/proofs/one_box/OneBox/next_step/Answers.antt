use Rattle.std.proofs.Common.{◌≡◌, ◌<◌, [], ◌∷◌, ◌++◌, length, ap, ◌∙◌, sym, refl, subst}
use Rattle.std.specs.Prelude.{reverse, IsTrue}
use Rattle.std.proofs.lemmas.List.Elements.{All-head}
use Rattle.decomposition.specs.Graph.{has_edge}
use Rattle.decomposition.specs.Boxes.{slot_at}
use Rattle.decomposition.specs.Tokens.{next_edges, with_edge}
use Rattle.refute_tree.specs.Choices.{later, later_of, slot_of, links_of}
use Rattle.refute_tree.proofs.NextEdges.{later_has, next_inside}
use Rattle.refute_tree.specs.declared.choice.Choice.TheVariants.{Step}
use Rattle.refute_tree.specs.declared.one_box.OneBox.{OneBox}
use Rattle.link_cells.specs.Links.{LinkList, walk_of}
use Rattle.refute_tree.specs.OneBox.{box_of}
use Rattle.refute_tree.proofs.Leading.{place_is, next_some, next_none, unlink_split, unlink_left, unlink_led, unlink_box, unlink_next, unlink_inside}
use Rattle.refute_tree.specs.Ends.{AreSeen, GoWith}
use Rattle.refute_tree.specs.Sums.{ChangesWalk}
use Rattle.refute_tree.proofs.SumsBoxes.{begun-at}
use Rattle.refute_tree.proofs.SumsTotals.{unlinked}
use Rattle.refute_tree.proofs.Placing.{walk_at}
use Rattle.refute_tree.proofs.Taking.{later_at}
use Rattle.refute_tree.proofs.one_box.OneBox.next_step.Goals as goal
use Rattle.refute_tree.proofs.one_box.OneBox.next_step.Goals.{After-unlink_last}

-- the box without the edge
abbrev less : After-unlink_last → OneBox
less c = record { ranges = c.args.self.now.ranges; links = c.unlink_last.new.self; choices = c.args.self.now.choices }

-- the edges after the one that is undone, by that edge alone
law : (c : After-unlink_last) → later c.args.net.now (walk_of c.unlink_last.new.self.links c.args.slot) c.args.edge ≡ later_of c.args.net.now c.args.edge
law c =
    let old : OneBox = c.args.self.now in
    let g = c.args.net.now in
    let cs = reverse old.choices.items in
    let led = c.requires.led in
    later_at g (less c) c.args.slot c.args.edge (unlink_led g cs old (less c) c.args.slot c.args.edge led refl c.unlink_last.ensures led.choices)
    (unlink_inside g cs old (less c) c.args.slot c.args.edge led refl c.unlink_last.ensures led.choices) (unlink_next g cs old (less c) c.args.slot c.args.edge led refl c.unlink_last.ensures led.choices)

-- the walk of no other slot has changed
changes : (c : After-unlink_last) → ChangesWalk c.args.slot c.args.self.now.links c.unlink_last.new.self
changes c =
    let old : OneBox = c.args.self.now in
    let g = c.args.net.now in
    let k = c.args.slot in
    let e = c.args.edge in
    let cs = reverse old.choices.items in
    let led = c.requires.led in
    let was : old.links.links ≡ reverse (links_of cs) ++ (k, e) ∷ [] = unlink_split g cs old (less c) k e led refl c.unlink_last.ensures led.choices in
    unlinked old.links c.unlink_last.new.self k e (ap (λ (l : LinkList). l.slots) c.unlink_last.ensures)
    (was ∙ ap (λ links. links ++ (k, e) ∷ []) (sym (unlink_left g cs old (less c) k e led refl c.unlink_last.ensures led.choices)))

pub clear-requires-clause-begun : goal.clear-requires-clause-begun
clear-requires-clause-begun c =
    let old : OneBox = c.args.self.now in
    let inside = All-head (λ d. slot_of d < length old.ranges.items) (Step c.args.slot c.args.edge) (reverse old.choices.items) c.requires.led.within in
    begun-at c.args.net.now old.ranges.items old.links.links c.args.slot inside c.requires.led.begun

-- the sums and what is known of the walks are those without the link
beside : (c : After-unlink_last) → GoWith c.args.net.now c.args.beside.now.known.rules.now c.unlink_last.new.self (record { sums = c.clear.new.self; known = c.set_back.new.self })
beside c = record {
  totals = c.clear.ensures c.unlink_last.new.self (changes c);
  known = subst (λ (l : LinkList). AreSeen c.args.beside.now.known.rules.now l.links c.set_back.new.self) (sym c.unlink_last.ensures) c.set_back.ensures;
}

pub step-requires-clause-beside : goal.step-requires-clause-beside
step-requires-clause-beside c =
    let b = (goal.at.step-requires-clause-beside c).After-unlink_last in
    subst (λ rules. GoWith c.args.net.now rules c.unlink_last.new.self (record { sums = c.clear.new.self; known = c.set_back.new.self })) (sym c.set_back.ensures.same) (beside b)

pub returns-in-None-clause-beside : goal.returns-in-None-clause-beside
returns-in-None-clause-beside c = beside (goal.at.returns-in-None-clause-beside c).After-unlink_last

pub returns-in-Some-clause-beside : goal.returns-in-Some-clause-beside
returns-in-Some-clause-beside c = subst (λ rules. GoWith c.args.net.now rules c.step.new.self.links c.step.new.beside) c.set_back.ensures.same c.step.ensures.beside

pub next_after-requires : goal.next_after-requires
next_after-requires c =
    let old : OneBox = c.args.self.now in
    let new : OneBox = record { ranges = old.ranges; links = c.unlink_last.new.self; choices = old.choices } in
    next_inside c.args.net.now _ c.args.edge (unlink_next c.args.net.now (reverse old.choices.items) old new c.args.slot c.args.edge c.requires.led refl c.unlink_last.ensures c.requires.led.choices)

pub step-requires-clause-kept : goal.step-requires-clause-kept
step-requires-clause-kept c =
    let old : OneBox = c.args.self.now in
    let new : OneBox = record { ranges = old.ranges; links = c.unlink_last.new.self; choices = old.choices } in
    unlink_led c.args.net.now (reverse old.choices.items) old new c.args.slot c.args.edge c.requires.led refl c.unlink_last.ensures c.requires.led.choices

pub step-requires-clause-follows : goal.step-requires-clause-follows
step-requires-clause-follows c =
    let old : OneBox = c.args.self.now in
    let g = c.args.net.now in
    let new : OneBox = record { ranges = old.ranges; links = c.unlink_last.new.self; choices = old.choices } in
    let cs = reverse old.choices.items in
    let inside = unlink_inside g cs old new c.args.slot c.args.edge c.requires.led refl c.unlink_last.ensures c.requires.led.choices in
    subst (λ w. IsTrue (has_edge (next_edges g w) c.in-Some.next)) (sym (walk_at old.ranges.items c.unlink_last.new.self.links c.args.slot inside))
    (later_has g (walk_of c.unlink_last.new.self.links c.args.slot) c.args.edge c.in-Some.next _ (law (goal.at.step-requires-clause-follows c).After-unlink_last ∙ c.in-Some.ensures)).0

pub returns-in-Some-clause-place : goal.returns-in-Some-clause-place
returns-in-Some-clause-place c =
    let old : OneBox = c.args.self.now in
    let g = c.args.net.now in
    let k = c.args.slot in
    let e = c.args.edge in
    let new : OneBox = record { ranges = old.ranges; links = c.unlink_last.new.self; choices = old.choices } in
    let cs = reverse old.choices.items in
    let led = c.requires.led in
    let inside = unlink_inside g cs old new k e led refl c.unlink_last.ensures led.choices in
    let walk = walk_at old.ranges.items c.unlink_last.new.self.links k inside in
    let next : later g (slot_at (box_of old.ranges.items c.unlink_last.new.self.links) k).walk e ≡ c.in-Some.next ∷ later_of g c.in-Some.next
    = ap (λ w. later g w e) walk ∙ law (goal.at.returns-in-Some-clause-place c).After-unlink_last ∙ c.in-Some.ensures in (
      record { box = with_edge (box_of old.ranges.items c.unlink_last.new.self.links) k c.in-Some.next; choices = Step k c.in-Some.next ∷ cs },
      next_some g (box_of old.ranges.items old.links.links) (box_of old.ranges.items c.unlink_last.new.self.links) k e c.in-Some.next _ cs (unlink_box g cs old new k e led refl c.unlink_last.ensures led.choices) next,
      record { box = c.step.ensures.place.box; place = c.step.ensures.place.place; room = c.step.ensures.place.room ∙ ap (λ (l : LinkList). l.room) c.unlink_last.ensures },
    )

pub returns-in-None-clause-place : goal.returns-in-None-clause-place
returns-in-None-clause-place c =
    let old : OneBox = c.args.self.now in
    let g = c.args.net.now in
    let k = c.args.slot in
    let e = c.args.edge in
    let new : OneBox = record { ranges = old.ranges; links = c.unlink_last.new.self; choices = old.choices } in
    let cs = reverse old.choices.items in
    let led = c.requires.led in
    let inside = unlink_inside g cs old new k e led refl c.unlink_last.ensures led.choices in
    let walk = walk_at old.ranges.items c.unlink_last.new.self.links k inside in
    let is = unlink_box g cs old new k e led refl c.unlink_last.ensures led.choices in
    record {
      box = unlink_led g cs old new k e led refl c.unlink_last.ensures led.choices;
      none = next_none g (box_of old.ranges.items old.links.links) (box_of old.ranges.items c.unlink_last.new.self.links) k e cs is (ap (λ w. later g w e) walk ∙ law (goal.at.returns-in-None-clause-place c).After-unlink_last ∙ c.in-None.ensures);
      place = place_is new _ cs (sym is) refl;
      room = ap (λ (l : LinkList). l.room) c.unlink_last.ensures;
    }
