use Rattle.std.proofs.Common.{eqb, eqb-true, slice_index, sym, arith}
use Rattle.std.proofs.lemmas.Bool.{false_from_ne_true}
use Rattle.decomposition.specs.Graph.{has_edge}
use Rattle.decomposition.proofs.Members.{any-place}
use Rattle.run_weight.proofs.exits.place_of.Goals as goal

pub returns-clause-none : goal.returns-clause-none
returns-clause-none c =
    false_from_ne_true (has_edge c.args.path.now c.args.e)
    (λ has.
    let (k, there, is) = any-place (λ f. eqb c.args.e f) c.args.path.now 0 has in
    c.loop-i.invariant k (omega arith) (sym (eqb-true c.args.e (slice_index c.args.path.now k) is)))
