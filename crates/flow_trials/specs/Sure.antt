-- How a run ends that no fault cuts off.
use Rattle.std.specs.Prelude.{ℕ, ◌^◌, ◌<◌, ◌≤◌}
use Rattle.flow_io.specs.declared.status.Status.{Status}
use Rattle.flow_io.specs.declared.status.Status.TheVariants.{Clean, Partial, Refused, Words, Fault, Memory, Long}

-- With right words and no fault a run may end so, where the longest of its texts has n bytes.
abbrev pub EndsSurely : ℕ → Status → Type 0
EndsSurely n Clean = n < 2 ^ 30
EndsSurely n Partial = n < 2 ^ 30
EndsSurely n Refused = n < 2 ^ 30
EndsSurely n Words = ⊥
EndsSurely n Fault = ⊥
EndsSurely n Memory = Unit {0}
EndsSurely n Long = 2 ^ 30 ≤ n
