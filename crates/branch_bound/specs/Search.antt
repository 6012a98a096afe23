-- How far a search has come, and how it ends.
use Rattle.std.specs.Prelude.{◌≡◌, ℕ, ◌+◌, ◌-◌, ◌≤◌, cond, List, ◌++◌, length, Option, is_none}
use Rattle.decomposition.specs.declared.Token.{Token}
use Rattle.decomposition.specs.declared.Decision.{Decision}
use Rattle.decomposition.specs.Instance.{Instance}
use Rattle.decomposition.specs.Boxes.{Slot}
use Rattle.decomposition.specs.Tokens.{IsRefutation, rule_list}
use Rattle.decomposition.specs.Searches.{EndsRefuted, EndsFound, EndsSpent}
use Rattle.branch_bound.specs.declared.search.Outcome.{Outcome}
use Rattle.branch_bound.specs.declared.search.Outcome.TheVariants.{Found, Refuted, Spent}

-- how far a search has come: its decision, how many tokens it may apply, those applied so far, and how it has ended
pub record SearchState : Type 0 where
  pub instance : Instance
  pub decision : Decision
  pub nodes : ℕ
  pub tokens : List Token
  pub outcome : Option Outcome

-- the tokens applied so far are a beginning of the rule list, and no more than there may be
pub record IsOnList (s : SearchState) : Type 0 where
  pub begun : s.tokens ≡ rule_list s.instance s.decision (length s.tokens)
  pub few : length s.tokens ≤ s.nodes

-- a search has gone on: its decision is the same, and its tokens are those from before and then others
pub record GoesOn (old new : SearchState) : Type 0 where
  pub instance : new.instance ≡ old.instance
  pub decision : new.decision ≡ old.decision
  pub nodes : new.nodes ≡ old.nodes
  pub onward : (more : List Token) × (new.tokens ≡ old.tokens ++ more)

-- how the rule list of so many tokens ends
abbrev pub EndsAs : Instance → Decision → ℕ → Outcome → Type 0
EndsAs i d n Found = (b : List Slot) × EndsFound i d n b
EndsAs i d n Refuted = EndsRefuted i d n
EndsAs i d n Spent = EndsSpent i d n

-- what the tokens of a search that has ended show: a refutation, or that all tokens that there may be were applied
abbrev pub TokensShow : SearchState → Outcome → Type 0
TokensShow s Found = Unit {0}
TokensShow s Refuted = IsRefutation s.instance s.decision s.tokens
TokensShow s Spent = length s.tokens ≡ s.nodes

-- the steps that are left at most: one for each token that there still may be, and one for the outcome
abbrev pub steps_left : SearchState → ℕ
steps_left s = (s.nodes - length s.tokens) + cond (is_none s.outcome) 1 0
