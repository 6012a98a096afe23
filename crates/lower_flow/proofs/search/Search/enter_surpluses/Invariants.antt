use Rattle.std.proofs.Common.{slice_index}
use Rattle.lower_flow.specs.Residual.{residual}
use Rattle.lower_flow.specs.Search.{IsSearch, AreStarted}
use Rattle.lower_flow.proofs.search.Search.enter_surpluses.Given as goal

abbrev pub invariant-loop-v : goal.invariant-loop-v
invariant-loop-v l =
    let r = residual l.net l.ranges l.side (slice_index l.flow) in
    IsSearch r l.self.entries.items l.self.marked.items × AreStarted r l.v l.self.marked.items
