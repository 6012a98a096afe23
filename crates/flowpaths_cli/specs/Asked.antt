-- What the settings ask of the solver.
use Rattle.flow_solver.specs.declared.asked.Asked.{Asked}
use Rattle.flowpaths_cli.specs.declared.settings.Settings.{Settings}

-- the model, the most tokens of a search, and whether the safe runs are listed
abbrev pub asked_by : Settings → Asked
asked_by s = record { mode = s.mode; nodes = s.nodes; safe = s.safe }
