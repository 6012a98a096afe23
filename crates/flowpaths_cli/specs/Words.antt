-- The settings that the words of the command line give.
use Rattle.std.specs.Prelude.{List, not, ◌&&◌, if◌then◌else◌, Option, Some, None, map, String, string_bytes}
use Rattle.std.specs.declared.alloc.Global.{Global}
use Rattle.clap.specs.Walk.{is_empty}
use Rattle.clap.specs.Words.{Kinds, Text, fault_of, matches_of}
use Rattle.flowpaths_cli.specs.Command.{command}
use Rattle.flowpaths_cli.specs.Values.{Values, values_at, is_refused, settings_by}
use Rattle.flowpaths_cli.specs.declared.settings.Settings.{Settings}

-- the words as bytes
abbrev pub texts : List (String Global) → List Text
texts words = map string_bytes words

-- the faults for which clap refuses the words; where there is none, it takes them
unfoldable pub faults_of : List Text → Kinds
faults_of words = fault_of command words

-- the values that clap reads from words that it takes
unfoldable pub values_of : List Text → Values
values_of words = values_at (matches_of command words)

-- the settings that the words give, where clap takes them and their values are not refused
unfoldable pub settings_of : List Text → Option Settings
settings_of words = if is_empty (faults_of words) && not (is_refused (values_of words)) then Some (settings_by (values_of words)) else None
