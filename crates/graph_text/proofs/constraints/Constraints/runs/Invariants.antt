use Rattle.std.proofs.Common.{◌≡◌, ◌++◌, map}
use Rattle.graph_text.specs.Constraints.{Listing, first_unknown}
use Rattle.graph_text.specs.Reading.{run_of}
use Rattle.graph_text.proofs.Spelling.{listing_in}
use Rattle.graph_text.proofs.constraints.Constraints.runs.Given as goal

abbrev pub invariant-loop-text : goal.invariant-loop-text
invariant-loop-text l = record {
  first : first_unknown l.labels l.self ≡ first_unknown l.labels (map listing_in l.text-iterator);
  made : l.runs ++ map (λ (c : Listing). run_of l.labels.names l.labels.edges c.names) (map listing_in l.text-iterator) ≡ map (λ (c : Listing). run_of l.labels.names l.labels.edges c.names) l.self;
}
