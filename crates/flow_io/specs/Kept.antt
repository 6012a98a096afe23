-- What the fields of named inputs in memory stand for.
use Rattle.std.specs.Prelude.{ℕ, ◌<◌, ◌≤◌, List, length, drop, Option, option_map, IfSome}
use Rattle.flow_io.specs.Outside.{Selected}
use Rattle.flow_io.specs.Store.{input_at}
use Rattle.flow_io.specs.declared.mem_inputs.Place.{Place}

-- the selected input, with the bytes before the place taken
abbrev pub selected_at : List (List ℕ × List ℕ) → Option Place → Option Selected
selected_at inputs place =
    option_map (λ p. record { name = (input_at inputs p.input).0; left = drop p.taken (input_at inputs p.input).1 }) place

-- a place within an input
pub record IsWithin (inputs : List (List ℕ × List ℕ)) (place : Place) : Type 0 where
  pub input : place.input < length inputs
  pub taken : place.taken ≤ length (input_at inputs place.input).1

-- a read may give a byte, and the selected place is within an input
pub record IsKept (chunk : ℕ) (inputs : List (List ℕ × List ℕ)) (selected : Option Place) : Type 0 where
  pub some : 1 ≤ chunk
  pub within : IfSome selected (IsWithin inputs)
