use Rattle.std.proofs.Common.{rules, arith}
use Rattle.std.proofs.lemmas.Grind.{common_steps}
use Rattle.cert_check.proofs.Apart.{share-decides}
use Rattle.cert_check.proofs.wide.share_a_path.Goals as goal

pub returns-then-leads_to : goal.returns-then-leads_to
returns-then-leads_to c =
    share-decides c.if-e-f.value c.args.net.now c.args.e c.args.f c.edges.ensures.net c.requires.first c.requires.second (search rules)

pub returns-else-leads_to : goal.returns-else-leads_to
returns-else-leads_to c =
    share-decides c.leads_to-else-leads_to.result c.args.net.now c.args.e c.args.f c.edges.ensures.net c.requires.first c.requires.second (grind (arith, common_steps))
