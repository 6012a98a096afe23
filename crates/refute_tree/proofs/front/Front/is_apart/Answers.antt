use Rattle.std.proofs.Common.{nat_lt, ap₂, sym}
use Rattle.refute_tree.proofs.Fronts.{bounds-there, lower-kept, upper-kept}
use Rattle.refute_tree.proofs.front.Front.is_apart.Goals as goal

pub index-requires : goal.index-requires
index-requires c = (bounds-there c.self.inside c.args.self.now c.args.slot c.self.view_is c.self.invariant c.requires.some c.requires.slot).0

pub index-requires-2 : goal.index-requires-2
index-requires-2 c = (bounds-there c.self.inside c.args.self.now c.args.slot c.self.view_is c.self.invariant c.requires.some c.requires.slot).1

pub returns : goal.returns
returns c =
    ap₂ nat_lt (sym (lower-kept c.self.inside c.args.self.now c.args.slot c.index.result.now c.self.view_is c.self.invariant c.requires.some c.requires.slot c.index.ensures))
    (sym (upper-kept c.self.inside c.args.self.now c.args.slot c.index-2.result.now c.self.view_is c.self.invariant c.requires.some c.requires.slot c.index-2.ensures))
