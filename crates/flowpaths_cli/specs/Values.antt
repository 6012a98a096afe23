-- What words give to the arguments of the command, which of it is refused, and the settings by it.
use Rattle.std.specs.Prelude.{ℕ, List, [], ◌∷◌, Bool, false, not, ◌&&◌, ◌||◌, if◌then◌else◌, Option, is_some, is_none, unwrap_or, option_and_then, codes}
use Rattle.std.specs.List.{list_any}
use Rattle.std.specs.Option.{option_copied, option_map_or}
use Rattle.std.specs.Str.{bytes_eq}
use Rattle.clap.specs.Words.{Row, Text, first_of}
use Rattle.decomposition.specs.declared.Mode.{Mode}
use Rattle.decomposition.specs.declared.Mode.TheVariants.{Exact, Interval, Abs}
use Rattle.flowpaths_cli.specs.Numbers.{number_in, most_nodes, most_paths, most_seed}
use Rattle.flowpaths_cli.specs.declared.given.Given.{Given}
use Rattle.flowpaths_cli.specs.declared.settings.Settings.{Settings}

-- What words give to the arguments: a text to each but the flag, where they give one.
pub record Values : Type 0 where
  pub model : Option Text
  pub paths : Option Text
  pub nodes : Option Text
  pub safe : Bool
  pub demo : Option Text
  pub file : Option Text

-- the flag's value, as clap writes it
abbrev pub is_true_text : Option Text → Bool
is_true_text text = option_map_or (λ t. bytes_eq t (codes "true")) text false

-- the values among the matches of the command
abbrev pub values_at : List Row → Values
values_at rows = record {
  model = first_of (codes "model") rows;
  paths = first_of (codes "paths") rows;
  nodes = first_of (codes "nodes") rows;
  safe = is_true_text (first_of (codes "safe") rows);
  demo = first_of (codes "demo") rows;
  file = first_of (codes "file") rows;
}

-- the values that the code holds
abbrev pub values_in : Given → Values
values_in given = record {
  model = option_copied given.model;
  paths = option_copied given.paths;
  nodes = option_copied given.nodes;
  safe = given.safe;
  demo = option_copied given.demo;
  file = option_copied given.file;
}

-- whether this model is asked for, by its name or by default
abbrev pub asks_model : Text → Values → Bool
asks_model name v = bytes_eq (unwrap_or v.model (codes "exact")) name

-- whether a text is given, and is no number in the range
abbrev pub is_bad_number : ℕ → ℕ → Option Text → Bool
is_bad_number least most text = option_map_or (λ t. is_none (number_in least most t)) text false

-- whether a name other than `-` is given to the input
abbrev pub names_file : Values → Bool
names_file v = not (bytes_eq (unwrap_or v.file (codes "-")) (codes "-"))

-- the model is none of the three
abbrev pub has_bad_model : Values → Bool
has_bad_model v = not (asks_model (codes "exact") v || (asks_model (codes "interval") v || asks_model (codes "abs") v))

abbrev pub has_bad_paths : Values → Bool
has_bad_paths v = is_bad_number 0 most_paths v.paths

abbrev pub has_bad_nodes : Values → Bool
has_bad_nodes v = is_bad_number 1 most_nodes v.nodes

abbrev pub has_bad_seed : Values → Bool
has_bad_seed v = is_bad_number 0 most_seed v.demo

-- a number of paths stands without the model abs, or that model without one
abbrev pub has_stray_paths : Values → Bool
has_stray_paths v = is_some v.paths && not (asks_model (codes "abs") v)

abbrev pub lacks_paths : Values → Bool
lacks_paths v = asks_model (codes "abs") v && is_none v.paths

-- safe runs are asked for in a model other than exact
abbrev pub has_stray_safe : Values → Bool
has_stray_safe v = v.safe && not (asks_model (codes "exact") v)

-- a generated text is asked for, and besides it another model, safe runs or an input
abbrev pub has_stray_seed : Values → Bool
has_stray_seed v = is_some v.demo && (not (asks_model (codes "exact") v) || (v.safe || names_file v))

-- the tests by which values are refused
abbrev pub refusals : List (Values → Bool)
refusals = has_bad_model ∷ has_bad_paths ∷ has_bad_nodes ∷ has_bad_seed ∷ has_stray_paths ∷ lacks_paths ∷ has_stray_safe ∷ has_stray_seed
    ∷ []

abbrev pub is_refused : Values → Bool
is_refused v = list_any (λ test. test v) refusals

-- the largest number of tokens of a search, where the words name none
abbrev pub default_nodes : ℕ
default_nodes = 20000

-- the model with its number of paths
abbrev pub mode_by : Values → Mode
mode_by v =
    if asks_model (codes "abs") v then Abs (unwrap_or (option_and_then (number_in 0 most_paths) v.paths) 0)
    else (if asks_model (codes "interval") v then Interval else Exact)

-- the settings by values that are not refused
abbrev pub settings_by : Values → Settings
settings_by v = record {
  mode = mode_by v;
  nodes = unwrap_or (option_and_then (number_in 1 most_nodes) v.nodes) default_nodes;
  safe = v.safe;
  demo = option_and_then (number_in 0 most_seed) v.demo;
  file = unwrap_or v.file (codes "-");
}
