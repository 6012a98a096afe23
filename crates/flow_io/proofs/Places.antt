-- The place at which an input of a name is found.
use Rattle.std.specs.Prelude.{◌≡◌, ℕ, List, [], true, Some, bytes_eq}
use Rattle.std.specs.List.{position}
use Rattle.std.proofs.Common.{sym, ap}
use Rattle.std.proofs.lemmas.Option.{cond_some}
use Rattle.std.proofs.lemmas.List.Quantifiers.{position-Some}
use Rattle.std.proofs.lemmas.Slice.Eq.{bytes_eq-Decides}
use Rattle.flow_io.specs.Outside.{Selected}
use Rattle.flow_io.specs.Store.{input_at, held_in}

-- the input that was found is the one whose bytes the name holds
pub bytes_at_place : (inputs : List (List ℕ × List ℕ)) (name : List ℕ) (place : ℕ) →
    position (λ input. bytes_eq input.0 name) inputs ≡ Some place → (input_at inputs place).1 ≡ held_in inputs name
bytes_at_place inputs name place found = ap (λ k. (input_at inputs k).1) (sym (cond_some _ _ _ found).1)

-- the input that was found has the name
pub name_at_place : (inputs : List (List ℕ × List ℕ)) (name : List ℕ) (place : ℕ) →
    position (λ input. bytes_eq input.0 name) inputs ≡ Some place → (input_at inputs place).0 ≡ name
name_at_place inputs name place found =
    let is_test : bytes_eq (input_at inputs place).0 name ≡ true =
    (position-Some (λ input. bytes_eq input.0 name) inputs place ([], []) found).1 in
    (bytes_eq-Decides (input_at inputs place).0 name).0 is_test

-- so the selection begins with that name, and all bytes that it holds
pub selected_at_place : (inputs : List (List ℕ × List ℕ)) (name : List ℕ) (place : ℕ) →
    position (λ input. bytes_eq input.0 name) inputs ≡ Some place →
    ◌≡◌ {A = Selected} (record { name = (input_at inputs place).0; left = (input_at inputs place).1 }) (record { name = name; left = held_in inputs name })
selected_at_place inputs name place found =
    let same_name = name_at_place inputs name place found in
    let same_bytes = bytes_at_place inputs name place found in cc (same_name, same_bytes)
