-- What levels say of all balanced flows, and of all answers in the least-error model.
use Rattle.std.specs.Prelude.{ℕ, List, slice_index, pos, ℤ, ◌≤ℤ◌}
use Rattle.decomposition.specs.declared.Mode.TheVariants.{Abs}
use Rattle.decomposition.specs.Graph.{Graph, IsNet}
use Rattle.decomposition.specs.Instance.{Instance, IsInstance, IsLowerBound, lower_bound}
use Rattle.decomposition.specs.Flow.{IsBalanced}
use Rattle.error_flow.specs.Nearest.{change, IsNearest}
use Rattle.error_flow.specs.Certificate.{AreAllowed, bound, ProvesNearest}

-- the bound of allowed levels is at most the change of every balanced flow
abbrev pub LevelsBound : Type 0
LevelsBound =
    (g : Graph) (weight : ℕ → ℕ) (level : ℕ → ℤ) (flow : ℕ → ℕ) → IsNet g → AreAllowed g level → IsBalanced g flow
    → bound g weight level ≤ℤ pos (change g weight flow)

-- where a certificate holds, its flow is nearest
abbrev pub CertificatesProve : Type 0
CertificatesProve =
    (g : Graph) (weights flow : List ℕ) (levels : List ℤ) (total : ℕ) → IsNet g → ProvesNearest g weights flow levels total
    → IsNearest g (slice_index weights) (slice_index flow) total

-- in the least-error model no answer of any number of paths has a smaller error than the nearest flow changes
abbrev pub NearestBoundsErrors : Type 0
NearestBoundsErrors =
    (k : ℕ) (i : Instance) (flow : ℕ → ℕ) (total : ℕ) → IsInstance (Abs k) i → IsNearest i.graph (lower_bound i) flow total
    → IsLowerBound (Abs k) i total
