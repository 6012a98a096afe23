use Rattle.std.proofs.Common.{◌∙◌, ap, slice_index}
use Rattle.flow_models.specs.Problem.{instance}
use Rattle.refute_tree.specs.OneBox.{box_of}
use Rattle.refute_tree.specs.Sums.{AreBounds}
use Rattle.refute_tree.proofs.SumsBoxes.{totals-small, gap-of_box, sums-up}
use Rattle.refute_tree.proofs.sums.Weights.mend.Goals as goal
use Rattle.refute_tree.proofs.sums.Weights.mend.Goals.{After-mend_lowers}

pub total_gap-self-requires-clause-small : goal.total_gap-self-requires-clause-small
total_gap-self-requires-clause-small c = totals-small c.args.net.now c.edges-edges.ensures.net c.args.links.now c.mend_lowers.new.self c.mend_lowers.ensures.totals

-- the bounds that are kept are those of the box
bounds : (c : After-mend_lowers) → AreBounds (box_of c.args.ranges.now c.args.links.now.links) c.mend_lowers.new.self
bounds c = record {
  uppers = λ k l. ap (λ v. slice_index v.items k) c.mend_lowers.ensures.uppers ∙ c.mend_uppers.ensures.uppers k l;
  lowers = c.mend_lowers.ensures.lowers;
}

pub returns-clause-sums : goal.returns-clause-sums
returns-clause-sums c =
    let i = instance c.args.net.now c.args.problem.now in
    let ranges = c.args.ranges.now in
    let links = c.args.links.now in
    let s = c.mend_lowers.new.self in
    let net = c.edges-edges.ensures.net in
    let totals = c.mend_lowers.ensures.totals in
    let told = bounds (goal.at.returns-clause-sums c).After-mend_lowers in
    sums-up i ranges links s c.total_gap-self.result net totals c.requires.slots told
    (c.total_gap-self.ensures ∙ gap-of_box i ranges links s net totals c.requires.slots told c.edges-edges.result c.edges-edges.ensures.edges)
