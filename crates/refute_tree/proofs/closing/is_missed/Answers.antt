use Rattle.std.proofs.Common.{[], not, get_or, sym, ap, ◌∙◌, subst}
use Rattle.refute_tree.specs.Ends.{IsOnWay}
use Rattle.refute_tree.proofs.Seeing.{misses-known}
use Rattle.refute_tree.proofs.closing.is_missed.Goals as goal

pub returns-else-not-is_known : goal.returns-else-not-is_known
returns-else-not-is_known c =
    let beside = c.args.beside.now in
    let one = c.args.one.now in
    let way = c.is_known.ensures c.if-not-is_known.false in
    let here = subst (λ rules. IsOnWay beside.sums.uppers.items one.links (get_or rules c.args.rule [])) c.requires.beside.known.same way in
    ap not c.if-not-is_known.false ∙ sym (misses-known c.args.net.now c.args.problem.now one beside c.args.rule c.requires.rules c.requires.rule c.requires.kept c.requires.beside here)
