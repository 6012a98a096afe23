use Rattle.std.proofs.Common.{refl}
use Rattle.node_weights.specs.NodeText.{cause_after}
use Rattle.node_weights.proofs.examples.first_refusals_count.Goals as goal

pub returns : goal.returns
unfolding cause_after
returns c = record {
  two_fields = refl;
  other_word = refl;
  fraction = refl;
  great = refl;
  node_again = refl;
  unknown = refl;
  early = refl;
  edge_again = refl;
  back = refl;
  itself = refl;
  cycle_last = refl;
  first_line = refl;
  first_cause = refl;
  long = refl;
  blank = refl;
}
