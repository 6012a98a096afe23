-- Laws over the definitions, each the contract of a function.
use Rattle.std.specs.Prelude.{◌≡◌, ◌-◌, ℕ, ◌≤◌, ◌<◌, List, length, Some, nat_le}
use Rattle.decomposition.specs.Graph.{IsNet}
use Rattle.decomposition.specs.Width.{IsAntichainOf}
use Rattle.slack_terms.specs.declared.slack_path.SlackPath.{SlackPath}
use Rattle.slack_terms.specs.declared.token.SlackToken.{SlackToken}
use Rattle.slack_terms.specs.Answers.{Weighted, weight_at, FitsWithin, cost, IsInfeasible, IsLowerBound}
use Rattle.slack_terms.specs.Boxes.{SlackBox}
use Rattle.slack_terms.specs.Tokens.{after_token, IsRefutation}
use Rattle.slack_terms.specs.Held.{SomeHolds, Answers}

-- each token keeps every line-up that answers within the limit and that some box holds
abbrev pub TokensKeepAnswers : Type 0
TokensKeepAnswers =
    (w : Weighted) (limit : ℕ) (line : List SlackPath) (t : SlackToken) (bs left : List SlackBox) →
    IsNet w.graph → Answers w limit line → SomeHolds w.graph bs line → after_token w limit t bs ≡ Some left → SomeHolds w.graph left line

-- a refutation refutes: no answer that fits with at most so many entries costs at most the limit
abbrev pub RefutationsRefute : Type 0
RefutationsRefute =
    (w : Weighted) (slots limit : ℕ) (ts : List SlackToken) (a : List SlackPath) →
    IsNet w.graph → IsRefutation w slots limit ts → FitsWithin w slots a → cost a ≤ limit → ⊥

-- a refutation of the limit below a bound shows the bound
abbrev pub TreesBound : Type 0
TreesBound =
    (w : Weighted) (k lower : ℕ) (ts : List SlackToken) →
    IsNet w.graph → 1 ≤ lower → IsRefutation w k (lower - 1) ts → IsLowerBound w k lower

-- an antichain of more than k edges of weight at least 1 shows that nothing fits with at most k entries
abbrev pub AntichainsRefute : Type 0
AntichainsRefute =
    (w : Weighted) (k : ℕ) (es : List ℕ) →
    IsAntichainOf w.graph (λ e. nat_le 1 (weight_at w e)) es → k < length es → IsInfeasible w k
