-- What becomes of a text that is put behind bytes that are held back.
use Rattle.std.specs.Prelude.{◌≡◌, ℕ, List, ◌∷◌, ◌++◌, Option, Result, OnOk}
use Rattle.flow_io.specs.Outside.{Adds, HasCause}

-- of the bytes that were held, with a text behind them, the first were written and the others are held now; a fault has a cause, and loses the others
pub record PutsText {O T E : Type 0} (text : List ℕ) (written : O → Option (List ℕ)) (faults : O → ℕ) (old new : O) (held now_held : List ℕ) (result : Result T E) : Type 0 where
  pub sent : List ℕ
  pub left : List ℕ
  pub all : sent ++ left ≡ held ++ text
  pub adds : Adds (written old) (written new) sent
  pub holds : OnOk result (left ≡ now_held)
  pub cause : HasCause (faults old) (faults new) result

-- a field with a space before it
abbrev pub spaced : List ℕ → List ℕ
spaced field = 32 ∷ field
