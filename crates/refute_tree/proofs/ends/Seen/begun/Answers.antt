use Rattle.std.proofs.Common.{◌∙◌, refl, sym}
use Rattle.refute_tree.proofs.Seeing.{seen-first}
use Rattle.refute_tree.proofs.ends.Seen.begun.Goals as goal

pub returns-then-has_at : goal.returns-then-has_at
returns-then-has_at c =
    let here = c.if-has_at.ensures refl in
    seen-first c.args.links.now.links c.args.run.now c.args.newest c.requires.newest here.0 (sym c.edge_of.ensures ∙ here.1)
