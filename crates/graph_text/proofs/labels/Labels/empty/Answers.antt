use Rattle.std.proofs.Common.{map, ap, arith}
use Rattle.graph_text.proofs.Naming.{AreLabels-empty}
use Rattle.graph_text.proofs.labels.Labels.empty.Goals as goal

pub invariant_of-result : goal.invariant_of-result
invariant_of-result c = record {
  labels = AreLabels-empty _ _ (ap (λ keys. map (λ name. name.items) keys) c.new.ensures.empty) c.new-2.ensures.empty;
  few_names = omega (arith, c.new.ensures.len);
  few_edges = omega (arith, c.new-2.ensures.len);
}
