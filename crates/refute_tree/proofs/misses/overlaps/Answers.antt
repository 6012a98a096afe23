use Rattle.std.proofs.Common.{true≢false, sym, refl}
use Rattle.link_cells.specs.Links.{walk_of}
use Rattle.refute_tree.proofs.Overlapping.{overlaps-decides, overlaps-nowhere}
use Rattle.refute_tree.proofs.misses.overlaps.Goals as goal

pub returns-in-Some : goal.returns-in-Some
returns-in-Some c =
    overlaps-decides c.ends_like.result (walk_of c.args.links.now.links c.args.slot) c.args.run.now _ c.in-Some.count c.requires.once c.requires.run refl c.in-Some.ensures c.ends_like.ensures

pub returns-in-None : goal.returns-in-None
returns-in-None c = (
  λ t. absurd (true≢false (sym t)),
  λ over. absurd (overlaps-nowhere (walk_of c.args.links.now.links c.args.slot) c.args.run.now _ c.requires.run refl c.in-None.ensures over),
)
