-- The program's command, whose words the crate clap reads.
use Rattle.std.specs.Prelude.{List, [], ◌∷◌, Some, true, codes}
use Rattle.clap.specs.Words.{App, Rule, Text, new_app, new_rule}
use Rattle.clap.specs.Simple.{on_top}
use Rattle.clap.specs.declared.builder.action.ArgAction.TheVariants.{SetTrue}

-- an option with a value, behind two dashes
abbrev pub option : Text → Rule
option name = record (new_rule name) { long = Some name }

-- an option without a value
abbrev pub flag : Text → Rule
flag name = record (option name) { action = Some SetTrue }

-- the arguments: options, and the name of the input
abbrev pub arguments : List Rule
arguments = option (codes "model") ∷ option (codes "paths") ∷ option (codes "nodes") ∷ flag (codes "safe") ∷ option (codes "demo")
    ∷ new_rule (codes "file") ∷ []

-- the command: no word stands for the program, and no option asks for help
abbrev pub command : App
command = on_top (λ top. record top { rules = arguments; no_binary_name = true; disable_help_flag = true }) (new_app (codes "flowpaths"))
