use Rattle.refute_tree.proofs.Seeing.{seen-whole, seen-last}
use Rattle.refute_tree.proofs.ends.Seen.overlaps.Goals as goal

pub returns-then-self-run : goal.returns-then-self-run
returns-then-self-run c = λ _. seen-whole c.args.links.now.links c.args.run.now c.args.self.now c.requires.seen c.if-self-run.true

pub returns-else-self-run : goal.returns-else-self-run
returns-else-self-run c = λ last. seen-last c.args.links.now.links c.args.run.now c.args.self.now c.requires.seen (c.is_last.ensures.walk last)
