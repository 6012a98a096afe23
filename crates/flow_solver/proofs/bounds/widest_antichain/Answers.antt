-- The flags of the needed edges are told of each range.
use Rattle.std.proofs.Common.{◌∙◌, List, Bool, false, slice_index_or, subst}
use Rattle.decomposition.specs.Width.{IsPathCover, IsAntichainOf}
use Rattle.flow_solver.proofs.Widths.{antichain-flags, width-flags}
use Rattle.flow_solver.proofs.bounds.widest_antichain.Goals as goal

pub returns-clause-width : goal.returns-clause-width
returns-clause-width c =
    let g = c.args.net.now in
    let found = c.in_ok-antichain.field-0 in
    let is = c.deref.ensures.value ∙ c.in_ok-needed.ensures in
    width-flags g c.args.ranges.now found.cover found.antichain
    (subst (λ (bs : List Bool). IsPathCover g (λ e. slice_index_or bs e false) found.cover) is c.in_ok-antichain.ensures.cover)
    (subst (λ (bs : List Bool). IsAntichainOf g (λ e. slice_index_or bs e false) found.antichain) is c.in_ok-antichain.ensures.antichain)
    c.in_ok-antichain.ensures.equal

pub returns-clause-antichain : goal.returns-clause-antichain
returns-clause-antichain c =
    let g = c.args.net.now in
    let found = c.in_ok-antichain.field-0 in
    let is = c.deref.ensures.value ∙ c.in_ok-needed.ensures in
    antichain-flags g c.args.ranges.now found.antichain
    (subst (λ (bs : List Bool). IsAntichainOf g (λ e. slice_index_or bs e false) found.antichain) is c.in_ok-antichain.ensures.antichain)
