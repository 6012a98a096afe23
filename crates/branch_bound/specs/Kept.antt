-- What the fields of a search stand for, and how they go with each other.
use Rattle.std.specs.Prelude.{◌≡◌, ℕ, ◌≤◌, List, [], ◌∷◌, length, Option, Some, None, IfSome, vec_capacity}
use Rattle.decomposition.specs.declared.Token.{Token}
use Rattle.decomposition.specs.declared.Decision.{Decision}
use Rattle.decomposition.specs.Boxes.{Slot}
use Rattle.decomposition.specs.Tokens.{boxes_left, rule_list}
use Rattle.refute_tree.specs.Front.{Boxes}
use Rattle.branch_bound.specs.Rule.{rule_of}
use Rattle.branch_bound.specs.Search.{SearchState}
use Rattle.branch_bound.specs.declared.search.Outcome.{Outcome}
use Rattle.branch_bound.specs.declared.search.Outcome.TheVariants.{Found, Refuted, Spent}
use Rattle.branch_bound.specs.declared.search.Search.TheInside.{Inside}

-- what the fields stand for
abbrev pub shown : Inside → SearchState
shown a = record { instance = a.front.instance; decision = a.decision; nodes = a.nodes; tokens = a.tokens.items; outcome = a.outcome }

-- the outcome is that of the boxes: none is left, the first has no rule token, or it has one and all tokens are used
abbrev pub IsOutcomeOf : Boxes → Outcome → Type 0
IsOutcomeOf f Refuted = f.boxes ≡ []
IsOutcomeOf f Found = (b : List Slot) × (bs : List (List Slot)) × (f.boxes ≡ b ∷ bs) × (rule_of f ≡ None)
IsOutcomeOf f Spent = (t : Token) × (rule_of f ≡ Some t) × (f.room ≤ f.used)

-- the boxes are those that the tokens leave, and the tokens are the beginning of the rule list
pub record Agree (f : Boxes) (d : Decision) (nodes : ℕ) (ts : List Token) (outcome : Option Outcome) : Type 0 where
  pub limit : f.limit ≡ d.limit
  pub room : f.room ≡ nodes
  pub used : f.used ≡ length ts
  pub few : length ts ≤ nodes
  pub left : boxes_left f.instance d ts ≡ Some f.boxes
  pub begun : ts ≡ rule_list f.instance d (length ts)
  pub ended : IfSome outcome (IsOutcomeOf f)

-- the fields go with each other, and there is room for all tokens
pub record IsKept (a : Inside) : Type 0 where
  pub agree : Agree a.front a.decision a.nodes a.tokens.items a.outcome
  pub capacity : a.nodes ≤ vec_capacity a.tokens
