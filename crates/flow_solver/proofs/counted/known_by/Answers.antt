-- Each ending shows the lower bound in its own way.
use Rattle.std.proofs.Common.{Some, None, length, refl, arith, subst}
use Rattle.report_terms.specs.declared.report.Mark.TheVariants.{Optimal, Bounds}
use Rattle.flow_solver.specs.declared.counting.Finding.TheVariants.{Known}
use Rattle.flow_solver.specs.Searched.{IsSolvedBy}
use Rattle.flow_solver.proofs.Solved.{found_in, raised_at_known, raised_small, right_by_tree, right_by_trail, right_by_width}
use Rattle.flow_solver.proofs.counted.known_by.Goals as goal

pub returns-in-Width-clause-right : goal.returns-in-Width-clause-right
returns-in-Width-clause-right c s i counts listed by =
    let by' = subst (λ ending. IsSolvedBy s.nodes s.mode i c.args.antichain (Known c.args.paths ending)) c.in-Width.is by in
    right_by_width s i c.args.paths c.args.antichain c.len.result c.len-upper.result c.cert_of.result c.args.safe counts listed by' c.len-upper.ensures.len c.len.ensures
    (c.cert_of.ensures.shows s.nodes i by.wide by.antichain) c.cert_of.ensures.other

pub returns-in-Width-clause-found : goal.returns-in-Width-clause-found
returns-in-Width-clause-found c nodes mode i by rising =
    let known = by.finds.0 in
    found_in i c.args.paths Optimal c.len.result c.len-upper.result c.cert_of.result None c.args.safe known.meets.0 known.order known.small rising (omega arith) (omega arith)
    (c.cert_of.ensures.rising i.graph by.rising) refl

pub returns-in-Refuted-clause-right : goal.returns-in-Refuted-clause-right
returns-in-Refuted-clause-right c s i counts listed by =
    let by' = subst (λ ending. IsSolvedBy s.nodes s.mode i c.args.antichain (Known c.args.paths ending)) c.in-Refuted.is by in
    right_by_tree s i c.args.paths c.args.antichain c.len-upper.result c.in-Refuted.tree c.args.safe counts listed by' c.len-upper.ensures.len

pub returns-in-Spent-clause-right : goal.returns-in-Spent-clause-right
returns-in-Spent-clause-right c s i counts listed by =
    let by' = subst (λ ending. IsSolvedBy s.nodes s.mode i c.args.antichain (Known c.args.paths ending)) c.in-Spent.is by in
    let within = raised_at_known s.nodes s.mode i c.args.paths c.args.antichain c.in-Spent.trail c.in-Spent.raised by' in
    right_by_trail s i c.args.paths c.args.antichain c.bound_by-bound.result.lower c.len-upper.result c.bound_by-bound.result.cert c.in-Spent.trail c.in-Spent.raised c.args.safe counts listed by' c.len-upper.ensures.len c.bound_by-bound.ensures.lower
    (c.bound_by-bound.ensures.shows s.nodes i by.wide by.antichain within) c.bound_by-bound.ensures.other

pub returns-in-Spent-clause-found : goal.returns-in-Spent-clause-found
returns-in-Spent-clause-found c nodes mode i by rising =
    let by' = subst (λ ending. IsSolvedBy nodes mode i c.args.antichain (Known c.args.paths ending)) c.in-Spent.is by in
    let known = by.finds.0 in
    let small = raised_small nodes i (length c.args.antichain) c.in-Spent.raised (raised_at_known nodes mode i c.args.paths c.args.antichain c.in-Spent.trail c.in-Spent.raised by') in
    found_in i c.args.paths Bounds c.bound_by-bound.result.lower c.len-upper.result c.bound_by-bound.result.cert (Some c.in-Spent.trail) c.args.safe known.meets.0 known.order known.small rising (omega arith) (omega arith)
    (c.bound_by-bound.ensures.rising i.graph by.rising small) by'.finds.2.1.small
