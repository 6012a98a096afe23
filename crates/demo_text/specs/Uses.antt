-- Edges gathered one after another.
use Rattle.std.specs.Prelude.{ℕ, List, [], ◌∷◌, ◌++◌, if◌then◌else◌}
use Rattle.std.specs.List.{list_any}
use Rattle.demo_text.specs.Demo.{same_names}

-- the edges with one more at their end, unless it is among them
abbrev pub with_use : List (List ℕ × List ℕ) → List ℕ × List ℕ → List (List ℕ × List ℕ)
with_use used e = if list_any (same_names e) used then used else used ++ e ∷ []

-- the edges with others, one after another
abbrev pub with_uses : List (List ℕ × List ℕ) → List (List ℕ × List ℕ) → List (List ℕ × List ℕ)
with_uses used [] = used
with_uses used (e ∷ edges) = with_uses (with_use used e) edges
