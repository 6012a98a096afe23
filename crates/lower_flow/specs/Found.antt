-- What the call answers: a flow within ranges, or a cut.
use Rattle.std.specs.Prelude.{◌≡◌, nat_lt, List, [], length, slice_index, IsTrue}
use Rattle.decomposition.specs.declared.Range.{Range}
use Rattle.decomposition.specs.declared.Side.TheVariants.{Entering, Leaving}
use Rattle.decomposition.specs.Graph.{Graph, edge_count}
use Rattle.decomposition.specs.Answer.{is_ordered}
use Rattle.decomposition.specs.Instance.{Instance, IsFlowWithin}
use Rattle.decomposition.specs.Certificates.{IsCut}
use Rattle.lower_flow.specs.declared.found.FlowOrCut.{FlowOrCut}
use Rattle.lower_flow.specs.declared.found.FlowOrCut.TheVariants.{Flow, InCut, OutCut}

-- the instance with these ranges and no constraints
abbrev pub with_ranges : Graph → List Range → Instance
with_ranges g ranges = record { graph = g; ranges = ranges; rules = [] }

-- one number for each edge, which are a flow within the ranges; or a cut, rising
abbrev pub IsFlowOrCut : Graph → List Range → FlowOrCut → Type 0
IsFlowOrCut g ranges (Flow flow) = (length flow ≡ edge_count g) × IsFlowWithin (with_ranges g ranges) (slice_index flow)
IsFlowOrCut g ranges (InCut xs) = IsCut (with_ranges g ranges) Entering xs × IsTrue (is_ordered nat_lt xs)
IsFlowOrCut g ranges (OutCut xs) = IsCut (with_ranges g ranges) Leaving xs × IsTrue (is_ordered nat_lt xs)
