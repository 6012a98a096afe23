use Rattle.std.specs.Prelude.{◌≡◌, IfSome}
use Rattle.branch_bound.specs.Search.{GoesOn, steps_left}
use Rattle.branch_bound.proofs.search.Search.run.Given as goal

abbrev pub invariant-loop-self : goal.invariant-loop-self
invariant-loop-self l = record { goes_on : GoesOn l.initial.self l.self; ended : IfSome l.initial.self.outcome (λ _. l.self ≡ l.initial.self) }

abbrev pub decreases-loop-self : goal.decreases-loop-self
decreases-loop-self l = steps_left l.self
