-- What booked paths and the rest of a flow give, and what is refused.
use Rattle.std.specs.Prelude.{◌≡◌, ℕ, ◌-◌, ◌≤◌, ◌<◌, List, ◌++◌, length}
use Rattle.decomposition.specs.Graph.{Graph, edge_count}
use Rattle.decomposition.specs.Answer.{weight_on, IsMerged}
use Rattle.decomposition.specs.Flow.{IsBalanced, IsFirstUnbalanced}
use Rattle.decomposition.specs.FirstAnswer.{IsWidestFirst, IsBooked, IsFirstAnswer, with_unit}
use Rattle.greedy_paths.specs.declared.greedy.GreedyFault.{GreedyFault}
use Rattle.greedy_paths.specs.declared.greedy.GreedyFault.TheVariants.{Unbalanced, Overbooked, Memory}

-- a list that is begun, and behind it the widest-first list of a flow
abbrev pub EndsWidestFirst : Graph → (ℕ → ℕ) → List (List ℕ × ℕ) → List (List ℕ × ℕ) → Type 0
EndsWidestFirst g flow begun a = (others : List (List ℕ × ℕ)) × (a ≡ begun ++ others) × IsWidestFirst g flow others

-- edge e is the first whose units pass its flow, with both numbers
pub record IsFirstPassed (g : Graph) (flow : ℕ → ℕ) (booked : List (List ℕ × ℕ)) (e units most : ℕ) : Type 0 where
  pub there : e < edge_count g
  pub units_are : units ≡ weight_on booked e
  pub most_is : most ≡ flow e
  pub passed : most < units
  pub earlier : (d : ℕ) → d < e → weight_on booked d ≤ flow d

-- booked paths that pass the flow of no edge, and the widest-first list of the rest of the flow, merged
pub record IsBuiltOn (g : Graph) (flow : ℕ → ℕ) (booked a : List (List ℕ × ℕ)) : Type 0 where
  pub fits : (e : ℕ) → e < edge_count g → weight_on booked e ≤ flow e
  pub others : List (List ℕ × ℕ)
  pub widest : IsWidestFirst g (λ e. flow e - weight_on booked e) others
  pub merged : IsMerged (booked ++ others) a

-- the refusal of a flow for booked paths: its first unbalanced vertex; where it is balanced, the first edge whose units pass its flow
abbrev pub IsRefusalOver : Graph → (ℕ → ℕ) → List (List ℕ × ℕ) → GreedyFault → Type 0
IsRefusalOver g flow booked (Unbalanced v) = IsFirstUnbalanced g flow v
IsRefusalOver g flow booked (Overbooked e units most) = IsBalanced g flow × IsFirstPassed g flow booked e units most
IsRefusalOver g flow booked Memory = Unit {0}

-- no first answer of a flow with the same numbers has fewer entries
abbrev pub IsLeastFirst : Graph → (ℕ → ℕ) → List (List ℕ) → List (List ℕ × ℕ) → Type 0
IsLeastFirst g flow rules a = (h : ℕ → ℕ) (b : List (List ℕ × ℕ)) → ((e : ℕ) → flow e ≡ h e) → IsFirstAnswer g h rules b → length a ≤ length b

-- no flow with the same numbers has a first answer
abbrev pub HasNoFirst : Graph → (ℕ → ℕ) → List (List ℕ) → Type 0
HasNoFirst g flow rules = (h : ℕ → ℕ) (b : List (List ℕ × ℕ)) → ((e : ℕ) → flow e ≡ h e) → IsFirstAnswer g h rules b → ⊥

-- the units of the paths that the rules book pass the flow of edge e, so there is no first answer
pub record IsOverbooked (g : Graph) (flow : ℕ → ℕ) (rules : List (List ℕ)) (e units most : ℕ) : Type 0 where
  pub balanced : IsBalanced g flow
  pub booked : List (List ℕ)
  pub books : IsBooked g flow rules booked
  pub first : IsFirstPassed g flow (with_unit booked) e units most
  pub no_first : HasNoFirst g flow rules

-- the refusal of a flow for rules: its first unbalanced vertex; where it is balanced, the first edge that is overbooked
abbrev pub IsRefusalWith : Graph → (ℕ → ℕ) → List (List ℕ) → GreedyFault → Type 0
IsRefusalWith g flow rules (Unbalanced v) = IsFirstUnbalanced g flow v
IsRefusalWith g flow rules (Overbooked e units most) = IsOverbooked g flow rules e units most
IsRefusalWith g flow rules Memory = Unit {0}
