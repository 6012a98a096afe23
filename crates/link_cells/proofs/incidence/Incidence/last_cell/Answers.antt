use Rattle.std.proofs.Common.{arith, ◌≡◌, length}
use Rattle.std.proofs.lemmas.Grind.{common_steps}
use Rattle.link_cells.specs.Links.{latest_of}
use Rattle.link_cells.proofs.Linking.{to_last, latest_live}
use Rattle.link_cells.proofs.incidence.Incidence.last_cell.Goals as goal

pub returns-clause-walk : goal.returns-clause-walk
returns-clause-walk c =
    let links = c.args.self.now.links in
    let is : c.map.result ≡ latest_of links c.args.slot (length links) = grind (arith, common_steps) in
    to_last links c.args.slot c.map.result is

pub returns-clause-live : goal.returns-clause-live
returns-clause-live c =
    let links = c.args.self.now.links in
    let is : c.map.result ≡ latest_of links c.args.slot (length links) = grind (arith, common_steps) in
    latest_live links c.args.slot (length links) c.map.result is
