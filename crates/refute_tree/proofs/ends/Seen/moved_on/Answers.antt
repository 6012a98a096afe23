use Rattle.std.proofs.Common.{refl}
use Rattle.refute_tree.proofs.Seeing.{seen-next}
use Rattle.refute_tree.proofs.ends.Seen.moved_on.Goals as goal

pub returns-then-goes_on : goal.returns-then-goes_on
returns-then-goes_on c =
    let edge = c.if-goes_on.ensures.edge refl in
    seen-next c.args.links.now.links c.args.run.now c.args.self.now c.args.newest c.requires.newest c.requires.seen (c.if-goes_on.ensures.next refl) edge.0 edge.1
