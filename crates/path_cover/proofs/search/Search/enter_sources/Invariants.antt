use Rattle.path_cover.specs.Search.{IsBegun, AreSourcesMarked}
use Rattle.path_cover.proofs.search.Search.enter_sources.Given as goal

abbrev pub invariant-loop-e : goal.invariant-loop-e
invariant-loop-e l = IsBegun l.net l.self.entries.items l.self.marked.items × AreSourcesMarked l.net l.e l.self.marked.items
