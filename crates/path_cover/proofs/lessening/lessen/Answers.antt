use Rattle.std.proofs.Common.{slice_index, arith, rules}
use Rattle.path_cover.proofs.LessFlow.{arriving-small}
use Rattle.path_cover.proofs.lessening.lessen.Goals as goal

pub take_unit-requires : goal.take_unit-requires
take_unit-requires c = record {
  one_need = search rules;
  one_flow = search rules;
  search = search rules;
  carrying = search rules;
  place = search rules;
  sink = search rules;
  small = λ e. omega (arith, c.loop-search.invariant.small e, arriving-small c.args.net.now (slice_index c.args.flow.now) c.requires.edges c.requires.small, c.requires.vertices);
}
