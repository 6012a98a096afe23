-- A line as it is handed to a draft, and what kind of line it is.
use Rattle.std.specs.Prelude.{◌≡◌, ℕ, List, Bool, true, false, nat_lt}
use Rattle.graph_text.specs.Lines.{fields_of, are_no_fields, are_hash_fields, are_run_fields}
use Rattle.graph_text.specs.Reading.{Line, most_bytes}

-- The number of a line, whether it is too long, and a text with the same fields. Of a line that is too long the text may
-- be cut, and then shows only of which kind the line is.
pub record ShowsLine (number : ℕ) (is_long : Bool) (text : List ℕ) (line : Line) : Type 0 where
  pub number_is : line.number ≡ number
  pub long : nat_lt most_bytes line.bytes ≡ is_long
  pub fields : is_long ≡ false → line.fields ≡ fields_of text
  pub blank : are_no_fields line.fields ≡ are_no_fields (fields_of text)
  pub hash : are_hash_fields line.fields ≡ are_hash_fields (fields_of text)
  pub run : are_run_fields line.fields ≡ are_run_fields (fields_of text)

-- a blank line
pub record IsBlank (line : Line) : Type 0 where
  pub none : are_no_fields line.fields ≡ true

-- a `#` line
pub record IsHash (line : Line) : Type 0 where
  pub some : are_no_fields line.fields ≡ false
  pub hash : are_hash_fields line.fields ≡ true

-- a `#` line that is no `#S` line
pub record IsComment (line : Line) : Type 0 where
  pub is_hash : IsHash line
  pub no_run : are_run_fields line.fields ≡ false

-- a `#S` line
pub record IsRunLine (line : Line) : Type 0 where
  pub is_hash : IsHash line
  pub run : are_run_fields line.fields ≡ true

-- a content line
pub record IsContent (line : Line) : Type 0 where
  pub some : are_no_fields line.fields ≡ false
  pub no_hash : are_hash_fields line.fields ≡ false
