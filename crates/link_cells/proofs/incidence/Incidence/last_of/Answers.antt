use Rattle.std.proofs.Common.{◌<◌, ◌++◌, [], ◌∷◌, length, take, ap, ◌∙◌, sym, rules}
use Rattle.link_cells.specs.Links.{LinkList, walk_of, links_in}
use Rattle.link_cells.proofs.Linking.{end_none, end_some, edge_read}
use Rattle.link_cells.proofs.incidence.Incidence.last_of.Goals as goal

pub index-requires-in-Some : goal.index-requires-in-Some
index-requires-in-Some c =
    let in_last : c.args.slot < length c.self.inside.last.items = search rules in
    let ends = end_some c.self.inside.cells.items c.self.inside.last.items c.args.slot c.in-Some.place c.index.result.now c.self.invariant.last in_last c.index.ensures c.in-Some.is in
    let less : c.in-Some.place < length c.self.inside.cells.items = ends.0 in
    search (less, rules)

pub returns-in-Some : goal.returns-in-Some
returns-in-Some c =
    let cells = c.self.inside.cells.items in
    let in_last : c.args.slot < length c.self.inside.last.items = search rules in
    let ends = end_some cells c.self.inside.last.items c.args.slot c.in-Some.place c.index.result.now c.self.invariant.last in_last c.index.ensures c.in-Some.is in (
      walk_of (take c.in-Some.place (links_in cells)) c.args.slot,
      ap (λ (v : LinkList). walk_of v.links c.args.slot) (sym c.self.view_is) ∙ ends.1
          ∙ ap (λ e. walk_of (take c.in-Some.place (links_in cells)) c.args.slot ++ e ∷ []) (edge_read cells c.in-Some.place c.index-in-Some.result.now ends.0 c.index-in-Some.ensures),
    )

pub returns-in-None : goal.returns-in-None
returns-in-None c =
    let in_last : c.args.slot < length c.self.inside.last.items = search rules in
    ap (λ (v : LinkList). walk_of v.links c.args.slot) (sym c.self.view_is)
    ∙ end_none c.self.inside.cells.items c.self.inside.last.items c.args.slot c.index.result.now c.self.invariant.last in_last c.index.ensures c.in-None.is
