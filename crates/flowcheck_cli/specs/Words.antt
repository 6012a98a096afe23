-- The two inputs that the words of the command line name.
use Rattle.std.specs.Prelude.{ℕ, List, [], ◌∷◌, if◌then◌else◌, Option, Some, None, map, String, string_bytes, bytes_eq}
use Rattle.std.specs.declared.alloc.Global.{Global}

-- the words as bytes
abbrev pub texts : List (String Global) → List (List ℕ)
texts words = map string_bytes words

-- the names of the graph text and of the text of reports
pub record InputNames : Type 0 where
  pub graph : List ℕ
  pub report : List ℕ

-- exactly two words that differ name the two inputs
abbrev pub names_of : List (List ℕ) → Option InputNames
names_of [] = None
names_of (graph ∷ []) = None
names_of (graph ∷ report ∷ []) = if bytes_eq graph report then None else Some (record { graph = graph; report = report })
names_of (graph ∷ report ∷ word ∷ words) = None
