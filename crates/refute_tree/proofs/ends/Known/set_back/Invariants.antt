use Rattle.refute_tree.proofs.Seeing.{AreSetBack}
use Rattle.refute_tree.proofs.ends.Known.set_back.Given as goal

-- the rules so far are set back
abbrev pub invariant-loop-place : goal.invariant-loop-place
invariant-loop-place l = AreSetBack l.initial.self.rules.now l.links.links l.place l.self
