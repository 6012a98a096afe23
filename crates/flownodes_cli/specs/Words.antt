-- What the words of the command line ask for: `--split` comes first, where it stands, and then at most the name of the input.
pub use Rattle.plain_words.specs.FileWords.{texts}
use Rattle.std.specs.Prelude.{ℕ, List, [], ◌∷◌, Bool, true, false, if◌then◌else◌, Option, codes, option_map, bytes_eq}
use Rattle.plain_words.specs.FileWords.{file_in}

-- whether the text of the split graph is asked for in place of a report, and the name of the input
pub record Asked : Type 0 where
  pub split : Bool
  pub file : List ℕ

-- what is asked for where the words name at most the input
abbrev pub calling : Bool → List (List ℕ) → Option Asked
calling split words = option_map (λ file. record { split = split; file = file }) (file_in words)

abbrev pub call_of : List (List ℕ) → Option Asked
call_of [] = calling false []
call_of (word ∷ words) = if bytes_eq word (codes "--split") then calling true words else calling false (word ∷ words)
