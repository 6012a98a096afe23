-- What `decompose` refuses, and the edges that bound its answers.
use Rattle.std.specs.Prelude.{ℕ, nat_lt, List, count_by}
use Rattle.decomposition.specs.Graph.{Graph}
use Rattle.decomposition.specs.Flow.{IsFirstUnbalanced}
use Rattle.greedy_paths.specs.declared.greedy.GreedyFault.{GreedyFault}
use Rattle.greedy_paths.specs.declared.greedy.GreedyFault.TheVariants.{Unbalanced, Overbooked, Memory}

-- how many edges have a flow of at least 1
abbrev pub positive_edges : List ℕ → ℕ
positive_edges flow = count_by (λ w. nat_lt 0 w) flow

-- the refusal of a flow that is not balanced: its first unbalanced vertex; memory may always run out
abbrev pub IsRefusal : Graph → (ℕ → ℕ) → GreedyFault → Type 0
IsRefusal g flow (Unbalanced v) = IsFirstUnbalanced g flow v
IsRefusal g flow (Overbooked e booked f) = ⊥
IsRefusal g flow Memory = Unit {0}
