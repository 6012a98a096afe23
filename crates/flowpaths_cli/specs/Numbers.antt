-- Numbers as the words spell them.
pub use Rattle.flow_solver.specs.Asked.{most_nodes}
use Rattle.std.specs.Prelude.{ℕ, List, ◌&&◌, nat_le, length, if◌then◌else◌, Option, Some, None}
use Rattle.graph_text.specs.Reading.{are_digits, number_of}

-- the number of 1 to 10 digits that a word spells, where it is in a range
abbrev pub number_in : ℕ → ℕ → List ℕ → Option ℕ
number_in least most word =
    let in_range = nat_le least (number_of word) && nat_le (number_of word) most in
    if are_digits word && (nat_le (length word) 10 && in_range) then Some (number_of word) else None

-- the largest numbers that the words may name beside that of the tokens of a search: of paths, and of a seed
abbrev pub most_paths : ℕ
most_paths = 64

abbrev pub most_seed : ℕ
most_seed = 2147483647
