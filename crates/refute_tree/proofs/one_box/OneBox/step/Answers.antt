use Rattle.std.proofs.Common.{◌≡◌, ◌≤◌, [], ◌∷◌, ◌++◌, ap, refl, arith, rules}
use Rattle.std.specs.Prelude.{reverse, vec_capacity}
use Rattle.std.proofs.lemmas.List.{length-reverse}
use Rattle.refute_tree.proofs.NextEdges.{next_inside}
use Rattle.refute_tree.specs.declared.choice.Choice.TheVariants.{Step}
use Rattle.refute_tree.specs.declared.one_box.OneBox.{OneBox}
use Rattle.link_cells.specs.Links.{LinkList}
use Rattle.refute_tree.proofs.Seeing.{seen_all-more}
use Rattle.refute_tree.proofs.SumsBoxes.{begun-at}
use Rattle.refute_tree.proofs.SumsTotals.{linked}
use Rattle.refute_tree.proofs.Leading.{step_box, step_led, link_room, comes}
use Rattle.refute_tree.proofs.one_box.OneBox.step.Goals as goal

pub link-requires-clause-edge : goal.link-requires-clause-edge
link-requires-clause-edge c = omega (arith, next_inside c.args.net.now _ c.args.edge c.requires.follows, c.requires.kept.edges)

pub unwrap-newest-requires : goal.unwrap-newest-requires
unwrap-newest-requires c =
    let few = link_room c.args.net.now _ c.args.self.now c.requires.kept (omega (arith, c.requires.room, length-reverse c.args.self.now.choices.items)) in
    search (few, rules)

pub clear-requires-clause-begun : goal.clear-requires-clause-begun
clear-requires-clause-begun c = begun-at c.args.net.now c.args.self.now.ranges.items c.args.self.now.links.links c.args.slot c.requires.slot c.requires.kept.begun

pub note-requires-clause-seen : goal.note-requires-clause-seen
note-requires-clause-seen c =
    let links : c.link.new.self ≡ record c.args.self.now.links { links = c.args.self.now.links.links ++ (c.args.slot, c.args.edge) ∷ [] } = search rules in
    seen_all-more c.args.beside.now.known.rules.now c.args.self.now.links.links c.link.new.self.links (c.args.slot, c.args.edge) c.args.beside.now.known (ap (λ (l : LinkList). l.links) links) c.requires.beside.known

pub returns-clause-beside : goal.returns-clause-beside
returns-clause-beside c =
    let links : c.link.new.self ≡ record c.args.self.now.links { links = c.args.self.now.links.links ++ (c.args.slot, c.args.edge) ∷ [] } = search rules in
    record {
      totals = c.clear.ensures c.link.new.self (linked c.args.self.now.links c.link.new.self c.args.slot c.args.edge links);
      known = c.note.ensures;
    }

pub returns-clause-place : goal.returns-clause-place
returns-clause-place c =
    let old : OneBox = c.args.self.now in
    let new : OneBox = record { ranges = old.ranges; links = c.link.new.self; choices = c.push.new.self } in
    let links : c.link.new.self ≡ record old.links { links = old.links.links ++ (c.args.slot, c.args.edge) ∷ [] } = search rules in
    let items : c.push.new.self.items ≡ old.choices.items ++ Step c.args.slot c.args.edge ∷ [] = search rules in
    let room : old.links.room ≤ vec_capacity c.push.new.self = search rules in
    comes c.args.net.now old new old.choices.items (Step c.args.slot c.args.edge) _ items
    (step_led c.args.net.now (reverse old.choices.items) old new c.args.slot c.args.edge c.requires.kept c.requires.slot c.requires.follows refl links room)
    (step_box c.args.net.now (reverse old.choices.items) old new c.args.slot c.args.edge c.requires.kept c.requires.slot c.requires.follows refl links room)
    (ap (λ (l : LinkList). l.room) links)
