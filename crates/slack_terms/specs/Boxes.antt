-- Boxes of walks with weights and slacks: sets of answers with a range of weights, a range of slacks and a walk for each path.
use Rattle.std.specs.Prelude.{ℕ, ◌-◌, max, Bool, cond, List, [], ◌∷◌, length, replicate}
use Rattle.decomposition.specs.declared.Range.{Range}
use Rattle.decomposition.specs.Graph.{paths}
use Rattle.decomposition.specs.Answer.{sum_below}
use Rattle.decomposition.specs.Instance.{range_at}
use Rattle.decomposition.specs.Boxes.{Slot, slot_at, may_have, low_on, high_on}
use Rattle.slack_terms.specs.Answers.{Weighted, weight_at}

-- a slack box: the slots of a box, and the range of each slot's slack
pub record SlackBox : Type 0 where
  pub slots : List Slot
  pub slacks : List Range

-- the range of a slot's slack
abbrev pub slack_at : SlackBox → ℕ → Range
slack_at b k = range_at b.slacks k

-- the greatest of 1 and all weights, above which no path needs to weigh
abbrev pub greatest_weight : List ℕ → ℕ
greatest_weight [] = 1
greatest_weight (w ∷ ws) = max w (greatest_weight ws)

-- the root box: any weights up to the greatest one, any slacks up to the limit, and no edge chosen
abbrev pub root_box : Weighted → ℕ → ℕ → SlackBox
root_box w slots limit = record {
  slots = replicate slots (record { lo = 0; hi = greatest_weight w.weights; walk = [] });
  slacks = replicate slots (record { lo = 0; hi = limit });
}

-- whether some path that begins with the walk of a slot has an edge
abbrev pub slot_may_have : Weighted → SlackBox → ℕ → ℕ → Bool
slot_may_have w b k e = may_have (paths w.graph) (slot_at b.slots k).walk e

-- the lack of an edge: how far what the slots put on it must lie from its weight
abbrev pub lack : Weighted → SlackBox → ℕ → ℕ
lack w b e = max (low_on b.slots e - weight_at w e) (weight_at w e - high_on (paths w.graph) b.slots e)

-- the least slack of all slots together
abbrev pub least_slack : SlackBox → ℕ
least_slack b = sum_below (λ k. (slack_at b k).lo) (length b.slots)

-- the greatest slack that the slots may put on an edge
abbrev pub most_slack_on : Weighted → SlackBox → ℕ → ℕ
most_slack_on w b e = sum_below (λ k. cond (slot_may_have w b k e) (slack_at b k).hi 0) (length b.slots)

-- the least slack of the slots whose paths cannot have an edge
abbrev pub least_slack_beside : Weighted → SlackBox → ℕ → ℕ
least_slack_beside w b e = sum_below (λ k. cond (slot_may_have w b k e) 0 (slack_at b k).lo) (length b.slots)
