use Rattle.refute_tree.specs.Ends.{AreSeen}
use Rattle.refute_tree.proofs.ends.Known.note.Given as goal

-- what is seen of each rule is so
abbrev pub invariant-loop-rule : goal.invariant-loop-rule
invariant-loop-rule l = AreSeen l.initial.self.rules.now l.links.links l.self
