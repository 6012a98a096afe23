-- The statuses of runs that came to their end.
use Rattle.std.specs.Prelude.{Bool, true, false, if◌then◌else◌}
use Rattle.flow_io.specs.declared.status.Status.TheVariants.{Clean, Partial, Refused}
use Rattle.program_runs.specs.Inputs.{IsDone}

-- such a status by what was refused and what was left open
pub done-by : (is_refused is_open : Bool) → IsDone (if is_refused then Refused else (if is_open then Partial else Clean))
done-by true is_open = tt
done-by false true = tt
done-by false false = tt
