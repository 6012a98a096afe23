-- What named inputs in memory are seen as, and what their calls do.
use Rattle.std.specs.Prelude.{ℕ, ◌==◌, nat_lt, min, List, [], ◌∷◌, length, slice_index_or, Bool, ◌||◌, not, Option, None, bytes_eq}
use Rattle.std.specs.List.{list_any, position_or_len}
use Rattle.std.specs.Option.{option_map_or}
use Rattle.flow_io.specs.Outside.{Selected}
use Rattle.flow_io.specs.Counter.{counted}

-- Each input is the pair of its name and its bytes, the newest first. Calls of `select` and `read` are counted together from 0.
pub record Store : Type 0 where
  pub chunk : ℕ
  pub inputs : List (List ℕ × List ℕ)
  pub failing : List ℕ
  pub calls : ℕ
  pub selected : Option Selected
  pub faults : ℕ

-- the place of the newest input of this name, or how many inputs there are where none has it
abbrev pub place_in : List (List ℕ × List ℕ) → List ℕ → ℕ
place_in inputs name = position_or_len (λ input. bytes_eq input.0 name) inputs

-- an input of this name was added
abbrev pub is_added : List (List ℕ × List ℕ) → List ℕ → Bool
is_added inputs name = nat_lt (place_in inputs name) (length inputs)

-- the input at a place, and an empty one past the end
abbrev pub input_at : List (List ℕ × List ℕ) → ℕ → List ℕ × List ℕ
input_at inputs place = slice_index_or inputs place ([], [])

-- the bytes of a name: those of the newest input of that name, and none where there is no such input
abbrev pub held_in : List (List ℕ × List ℕ) → List ℕ → List ℕ
held_in inputs name = (input_at inputs (place_in inputs name)).1

-- the next call is to fail
abbrev pub is_to_fail : Store → Bool
is_to_fail s = list_any (λ call. call == s.calls) s.failing

-- the next call fails, where it is a `select` of this name
abbrev pub select_fails : Store → List ℕ → Bool
select_fails s name = is_to_fail s || not (is_added s.inputs name)

-- how many bytes a `read` gives that does not fail, where it has so much room
abbrev pub count_given : Store → ℕ → ℕ
count_given s room = option_map_or (λ one. min s.chunk (min room (length one.left))) s.selected 0

-- with one more input, and none selected
abbrev pub added : List ℕ → List ℕ → Store → Store
added name bytes s = record s { inputs = (name, bytes) ∷ s.inputs; selected = None }

-- after a call that did not fail, with this selection
abbrev pub after_call : Option Selected → Store → Store
after_call selected s = record s { calls = counted s.calls; selected = selected }

-- after a call that failed, with this selection
abbrev pub after_fault : Option Selected → Store → Store
after_fault selected s = record s { calls = counted s.calls; selected = selected; faults = counted s.faults }
