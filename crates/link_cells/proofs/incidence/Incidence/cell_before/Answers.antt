use Rattle.std.proofs.Common.{arith, ◌≡◌}
use Rattle.std.proofs.lemmas.Grind.{common_steps}
use Rattle.link_cells.specs.Links.{slot_in, latest_of}
use Rattle.link_cells.proofs.Linking.{to_before, latest_live}
use Rattle.link_cells.proofs.incidence.Incidence.cell_before.Goals as goal

pub returns-clause-walk : goal.returns-clause-walk
returns-clause-walk c =
    let links = c.args.self.now.links in
    let is : c.map.result ≡ latest_of links (slot_in links c.args.cell) c.args.cell = grind (arith, common_steps) in
    to_before links c.args.cell c.map.result c.requires.cell is

pub returns-clause-before : goal.returns-clause-before
returns-clause-before c =
    let links = c.args.self.now.links in
    let is : c.map.result ≡ latest_of links (slot_in links c.args.cell) c.args.cell = grind (arith, common_steps) in
    latest_live links (slot_in links c.args.cell) c.args.cell c.map.result is
