-- The list of the maximal safe runs of a flow is that of the instance whose weights it is.
use Rattle.std.proofs.Common.{ℕ, ◌<◌, ◌^◌, List, Option, Some, None, slice_index, length}
use Rattle.std.specs.Prelude.{IfSome}
use Rattle.std.proofs.lemmas.List.Elements.{Contains-get_or}
use Rattle.decomposition.specs.declared.Mode.TheVariants.{Exact}
use Rattle.decomposition.specs.Graph.{Graph}
use Rattle.decomposition.specs.Instance.{Instance, IsInstance}
use Rattle.decomposition.specs.SafeRuns.{IsSafe, IsSafeFor, AreMaximal}
use Rattle.report_terms.specs.NetFacts.{AreRisingRuns}
use Rattle.cert_check.proofs.Lows.{lows, lows_maximal}

-- the runs that are listed, if they are
pub listed_safe : (i : Instance) (runs : Option (List (List ℕ))) → IsInstance Exact i → IfSome runs (AreMaximal (IsSafeFor i.graph (slice_index (lows i.ranges)))) → IfSome runs (AreMaximal (IsSafe i))
listed_safe i None valid maximal = tt
listed_safe i (Some runs) valid maximal = lows_maximal i valid runs maximal

-- they are rising runs of the graph
pub listed_rising : (g : Graph) (flow : ℕ → ℕ) (runs : Option (List (List ℕ))) → IfSome runs (AreMaximal (IsSafeFor g flow)) → IfSome runs (λ rs. length rs < 2 ^ 64) → IfSome runs (AreRisingRuns g)
listed_rising g flow None maximal few = tt
listed_rising g flow (Some runs) maximal few = record {
  within = λ k d there. (maximal.each _ (Contains-get_or runs k d there)).holds.run;
  rising = maximal.rising;
  few = few;
}
