use Rattle.std.proofs.Common.{sym, ◌∙◌}
use Rattle.refute_tree.proofs.Fronts.{may_branch-has, may_take-split}
use Rattle.refute_tree.proofs.front.Front.can_split.Goals as goal

pub is_apart-requires : goal.is_apart-requires
is_apart-requires c =
    let branching = may_branch-has c.args.self.now c.args.slot (sym c.can_branch.ensures ∙ c.if-can_branch.true) in
    record { some = branching.some; slot = branching.inside }

pub returns-then-can_branch : goal.returns-then-can_branch
returns-then-can_branch c =
    c.is_apart.ensures ∙ may_take-split c.args.self.now c.args.slot (may_branch-has c.args.self.now c.args.slot (sym c.can_branch.ensures ∙ c.if-can_branch.true))
