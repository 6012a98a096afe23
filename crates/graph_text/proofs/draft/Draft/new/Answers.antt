use Rattle.std.proofs.Common.{refl, arith}
use Rattle.graph_text.proofs.draft.Draft.new.Goals as goal

pub returns : goal.returns
returns c = record {
  mode_is = refl;
  filled = refl;
  last = refl;
  rising = λ i j d less within. absurd (omega arith);
  run = refl;
  refusal_is = refl;
  constraints_are = λ none. c.new.ensures;
  graph_is = λ none. c.new-2.ensures c.args.mode;
}
