-- The answers that a slack box holds.
use Rattle.std.specs.Prelude.{ℕ, ◌+◌, ◌≤◌, ◌<◌, ◌⊎◌, List, [], ◌∷◌, length, IsTrue}
use Rattle.decomposition.specs.Graph.{Graph, IsPath, edge_count, begins_with}
use Rattle.decomposition.specs.Boxes.{slot_at}
use Rattle.slack_terms.specs.declared.slack_path.SlackPath.{SlackPath}
use Rattle.slack_terms.specs.Answers.{Weighted, entry_at, CoversError, cost}
use Rattle.slack_terms.specs.Boxes.{SlackBox, slack_at}

-- a box holds a line-up: entries by falling weight, no more than slots and padded with weight 0 and slack 0, each weight and each slack
-- within the slot's ranges, and each entry that has weight or slack a path that begins with the slot's walk
pub record Holds (g : Graph) (b : SlackBox) (line : List SlackPath) : Type 0 where
  pub long : length line ≤ length b.slots
  pub falling : (j k : ℕ) → j ≤ k → k < length b.slots → (entry_at line k).weight ≤ (entry_at line j).weight
  pub low : (k : ℕ) → k < length b.slots → (slot_at b.slots k).lo ≤ (entry_at line k).weight
  pub high : (k : ℕ) → k < length b.slots → (entry_at line k).weight ≤ (slot_at b.slots k).hi
  pub least : (k : ℕ) → k < length b.slots → (slack_at b k).lo ≤ (entry_at line k).slack
  pub most : (k : ℕ) → k < length b.slots → (entry_at line k).slack ≤ (slack_at b k).hi
  pub path : (k : ℕ) → k < length b.slots → 1 ≤ (entry_at line k).weight + (entry_at line k).slack → IsPath g (entry_at line k).path
  pub begins : (k : ℕ) → k < length b.slots → 1 ≤ (entry_at line k).weight + (entry_at line k).slack
      → IsTrue (begins_with (entry_at line k).path (slot_at b.slots k).walk)

-- some box of a list holds a line-up
abbrev pub SomeHolds : Graph → List SlackBox → List SlackPath → Type 0
SomeHolds g [] line = ⊥
SomeHolds g (b ∷ bs) line = Holds g b line ⊎ SomeHolds g bs line

-- a line-up answers within a limit: its slacks cover the error of each edge, and are within the limit together
pub record Answers (w : Weighted) (limit : ℕ) (line : List SlackPath) : Type 0 where
  pub covers : (e : ℕ) → e < edge_count w.graph → CoversError w line e
  pub within : cost line ≤ limit
