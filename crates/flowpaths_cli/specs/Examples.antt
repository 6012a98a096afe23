-- The settings of examples.
use Rattle.std.specs.Prelude.{ℕ, List, true, false, Option, Some, None, codes}
use Rattle.decomposition.specs.declared.Mode.{Mode}
use Rattle.decomposition.specs.declared.Mode.TheVariants.{Exact}
use Rattle.flowpaths_cli.specs.declared.settings.Settings.{Settings}

-- the settings with a largest number of tokens and a name
abbrev pub naming : ℕ → List ℕ → Option Settings
naming nodes file = Some (record { mode = Exact; nodes = nodes; safe = false; demo = None; file = file })

-- the same, with safe runs to be listed
abbrev pub naming_safely : ℕ → List ℕ → Option Settings
naming_safely nodes file = Some (record { mode = Exact; nodes = nodes; safe = true; demo = None; file = file })

-- the settings with a model and a name
abbrev pub naming_in : Mode → List ℕ → Option Settings
naming_in mode file = Some (record { mode = mode; nodes = 20000; safe = false; demo = None; file = file })

-- the settings with a largest number of tokens and a seed
abbrev pub generating : ℕ → ℕ → Option Settings
generating nodes seed = Some (record { mode = Exact; nodes = nodes; safe = false; demo = Some seed; file = codes "-" })
