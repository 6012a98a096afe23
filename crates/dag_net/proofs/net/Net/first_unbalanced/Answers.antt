use Rattle.std.proofs.Common.{◌<◌, sym, ◌∙◌, arith, slice_index}
use Rattle.std.proofs.lemmas.List.{get_or_read}
use Rattle.decomposition.proofs.Nets.{IsBalanced-from_none}
use Rattle.dag_net.proofs.net.Net.first_unbalanced.Goals as goal

pub returns-then-index-clause-unbalanced : goal.returns-then-index-clause-unbalanced
returns-then-index-clause-unbalanced c =
    let sums = c.in_ok-sums.ensures in
    let into = c.in_ok-sums.sums.into.items in
    let out = c.in_ok-sums.sums.out.items in
    let v = c.loop-v.v in
    let there : v < c.args.self.now.vertices = omega arith in
    let enters = get_or_read into v c.index.result.now (omega (arith, sums.into_count)) c.index.ensures 0 ∙ sums.enters v there in
    let leaves = get_or_read out v c.index-then-is_inner.result.now (omega (arith, sums.out_count)) c.index-then-is_inner.ensures 0 ∙ sums.leaves v there in
    record {
      inner = sym c.is_inner.ensures ∙ c.if-is_inner.true;
      unbalanced = λ same. c.if-index.true (enters ∙ same ∙ sym leaves);
      earlier = c.loop-v.invariant;
    }

pub returns-clause-balanced : goal.returns-clause-balanced
returns-clause-balanced c =
    IsBalanced-from_none c.args.self.now (slice_index c.args.flow.now) c.vertices-v-end.ensures.net (λ v there inner. c.loop-v.invariant v (omega arith) inner)
