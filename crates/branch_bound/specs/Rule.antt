-- The rule token of the first of some boxes.
use Rattle.std.specs.Prelude.{◌≡◌, ℕ, List, [], ◌∷◌, length, Option, Some, None, option_and_then}
use Rattle.decomposition.specs.declared.Token.{Token}
use Rattle.decomposition.specs.Boxes.{Slot}
use Rattle.decomposition.specs.Tokens.{first_from, rule_token}
use Rattle.refute_tree.specs.Front.{Boxes, may_take}

-- the first token of one kind that may be taken at the first box, over its first n slots
abbrev pub first_taken : Boxes → (ℕ → Token) → ℕ → Option Token
first_taken f kind n = option_and_then (λ k. Some (kind k)) (first_from (λ k. may_take f (kind k)) 0 n)

-- the rule token of the first box; none where there is no box
abbrev pub rule_of : Boxes → Option Token
rule_of f = elim f.boxes [ [] ↦ None | b ∷ bs ↦ rule_token f.instance f.limit b ]

-- the first box has so many slots
abbrev pub HasSlots : Boxes → ℕ → Type 0
HasSlots f n = (b : List Slot) (bs : List (List Slot)) → f.boxes ≡ b ∷ bs → length b ≡ n
