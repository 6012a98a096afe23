use Rattle.std.proofs.Common.{sym, ◌∙◌}
use Rattle.refute_tree.proofs.Fronts.{may_branch-has, may_take-step}
use Rattle.refute_tree.proofs.front.Front.can_step.Goals as goal

pub is_unfinished-requires : goal.is_unfinished-requires
is_unfinished-requires c =
    let branching = may_branch-has c.args.self.now c.args.slot (sym c.can_branch.ensures ∙ c.if-can_branch.true) in
    record { some = branching.some; slot = branching.inside }

pub returns-then-can_branch : goal.returns-then-can_branch
returns-then-can_branch c =
    c.is_unfinished.ensures ∙ may_take-step c.args.self.now c.args.slot (may_branch-has c.args.self.now c.args.slot (sym c.can_branch.ensures ∙ c.if-can_branch.true))
