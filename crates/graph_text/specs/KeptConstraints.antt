-- The fields of `Constraints`: which constraints they stand for, and how they are spelled.
use Rattle.std.specs.Prelude.{◌≡◌, List, map, All}
use Rattle.graph_text.specs.Constraints.{Listing, spelled}
use Rattle.graph_text.specs.Lines.{fields_of}
use Rattle.graph_text.specs.declared.constraints.Constraints.TheInside.{Inside}

-- the constraints that the fields stand for
abbrev pub shown : Inside → List Listing
shown a = map (λ entry. record { number = entry.1; names = fields_of entry.0.items }) a.entries.entries

-- each is spelled in one way, with one space behind each name
abbrev pub AreSpelled : Inside → Type 0
AreSpelled a = All (λ entry. spelled (fields_of entry.0.items) ≡ entry.0.items) a.entries.entries
