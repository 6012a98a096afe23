use Rattle.run_weight.specs.Exits.{ArePlacesBelow}
use Rattle.run_weight.proofs.exits.places_along.Given as goal

abbrev pub invariant-loop-k : goal.invariant-loop-k
invariant-loop-k l = ArePlacesBelow l.net l.run l.k l.places.items
