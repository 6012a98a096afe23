-- The constraints that a draft keeps: lists of vertices with the numbers of their lines.
use Rattle.std.specs.Prelude.{ℕ, Bool, List, [], ◌∷◌, ◌++◌, if◌then◌else◌, Option, Some, None}
use Rattle.std.specs.List.{list_any}
use Rattle.graph_text.specs.Labels.{LabelLists}
use Rattle.graph_text.specs.Reading.{Line, listed, same_fields, has_unknown}

-- a list of vertices, and the number of its line
pub record Listing : Type 0 where
  pub number : ℕ
  pub names : List (List ℕ)

-- what is kept of a `#S` line
abbrev pub listing_of : Line → Listing
listing_of line = record { number = line.number; names = listed line }

-- whether one of the lists has these vertices
abbrev pub has_list : List Listing → List (List ℕ) → Bool
has_list listings vertices = list_any (λ listing. same_fields listing.names vertices) listings

-- the lists with one more, unless it is among them
abbrev pub with_listing : List Listing → Listing → List Listing
with_listing listings listing = if has_list listings listing.names then listings else listings ++ listing ∷ []

-- names in a row, each with a space behind it
abbrev pub spelled : List (List ℕ) → List ℕ
spelled [] = []
spelled (name ∷ names) = name ++ 32 ∷ spelled names

-- whether two neighbours of a list are no edge of the labels
abbrev pub is_unknown : LabelLists → Listing → Bool
is_unknown labels listing = has_unknown labels.names labels.edges listing.names

-- the number of the first list of which two neighbours are no edge
abbrev pub first_unknown : LabelLists → List Listing → Option ℕ
first_unknown labels [] = None
first_unknown labels (listing ∷ listings) = if is_unknown labels listing then Some listing.number else first_unknown labels listings
