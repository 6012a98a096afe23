-- What the reading of a whole input comes to.
pub use Rattle.program_runs.specs.Inputs.{Seen, WhereSeen, taken, TakesFirst, IsAtEnd}
use Rattle.std.specs.Prelude.{◌≡◌, ℕ, List, Option, IfSome}
use Rattle.flow_io.specs.Outside.{Selected}
use Rattle.flow_io.specs.declared.status.Status.{Status}
use Rattle.flow_io.specs.declared.status.Status.TheVariants.{Clean, Partial, Refused, Words, Fault, Memory, Long}

-- no other input than this one is selected
abbrev pub IsNoOther : List ℕ → Option Selected → Type 0
IsNoOther file last = IfSome last (λ s. s.name ≡ file)

-- the answers after which an input was not read to its end
abbrev pub IsStopped : Status → Type 0
IsStopped Clean = ⊥
IsStopped Partial = ⊥
IsStopped Refused = ⊥
IsStopped Words = ⊥
IsStopped Fault = Unit {0}
IsStopped Memory = Unit {0}
IsStopped Long = Unit {0}
