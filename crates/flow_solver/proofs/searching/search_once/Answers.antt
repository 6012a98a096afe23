-- What the search says of its own instance and decision is said of those that it was given.
use Rattle.std.proofs.Common.{◌≡◌, length, ◌∙◌, ap, subst, arith}
use Rattle.flow_models.specs.Problem.{instance}
use Rattle.branch_bound.specs.Search.{SearchState, EndsAs}
use Rattle.decomposition.specs.Tokens.{rule_list}
use Rattle.flow_solver.proofs.Attempts.{settles_for, settled_small, settled_found, refuted_by, spent_by}
use Rattle.flow_solver.proofs.searching.search_once.Goals as goal

pub tidy-requires : goal.tidy-requires
tidy-requires c =
    let i = instance c.args.net.now c.args.problem.now in
    let start = c.in_ok-search.ensures in
    let valid = c.requires.valid in
    settled_small valid.0 i c.args.decision c.in_ok-answer-in-Found.answer valid.1 c.requires.few
    (settles_for i c.run.new.self.instance c.args.decision c.run.new.self.decision c.in_ok-answer-in-Found.answer
    (c.run.ensures.instance ∙ ap (λ (s : SearchState). s.instance) start) (c.run.ensures.decision ∙ ap (λ (s : SearchState). s.decision) start)
    c.in_ok-answer-in-Found.ensures.settles valid.0 valid.1)

pub returns-in-Found : goal.returns-in-Found
returns-in-Found c =
    let i = instance c.args.net.now c.args.problem.now in
    let start = c.in_ok-search.ensures in
    let valid = c.requires.valid in
    settled_found valid.0 i c.args.decision c.in_ok-answer-in-Found.answer c.in_ok-tidy-in-Found.field-0 valid.1
    (settles_for i c.run.new.self.instance c.args.decision c.run.new.self.decision c.in_ok-answer-in-Found.answer
    (c.run.ensures.instance ∙ ap (λ (s : SearchState). s.instance) start) (c.run.ensures.decision ∙ ap (λ (s : SearchState). s.decision) start)
    c.in_ok-answer-in-Found.ensures.settles valid.0 valid.1)
    c.in_ok-tidy-in-Found.ensures.paths c.in_ok-tidy-in-Found.ensures.merged c.in_ok-tidy-in-Found.ensures.sums c.in_ok-tidy-in-Found.ensures.order

pub returns-in-Refuted : goal.returns-in-Refuted
returns-in-Refuted c =
    let i = instance c.args.net.now c.args.problem.now in
    let trail = c.in_ok-trail_of-in-Refuted.field-0 in
    let start = c.in_ok-search.ensures in
    let told = subst (λ (s : SearchState). EndsAs s.instance s.decision s.nodes c.run.result) start c.run.ensures.ends in
    let ends = subst (EndsAs i c.args.decision c.args.nodes) c.in-Refuted.is told in
    let tokens = subst (λ (s : SearchState). c.run.new.self.tokens ≡ rule_list s.instance s.decision s.nodes) start c.run.ensures.tokens in
    let is = c.in_ok-trail_of-in-Refuted.ensures.tokens ∙ (c.tokens.ensures.tokens ∙ tokens) in
    refuted_by c.args.nodes i c.args.decision trail c.in_ok-trail_of-in-Refuted.ensures.decision (omega (arith, c.requires.few)) c.requires.small (omega arith) (omega (arith, c.len.ensures))
    (omega (arith, ap length c.in_ok-trail_of-in-Refuted.ensures.tokens, c.tokens.ensures.most, c.run.ensures.nodes, ap (λ (s : SearchState). s.nodes) start)) is ends

pub returns : goal.returns
returns c =
    let i = instance c.args.net.now c.args.problem.now in
    let trail = c.in_ok-trail_of-in-Spent.field-0 in
    let start = c.in_ok-search.ensures in
    let told = subst (λ (s : SearchState). EndsAs s.instance s.decision s.nodes c.run.result) start c.run.ensures.ends in
    let ends = subst (EndsAs i c.args.decision c.args.nodes) c.in-Spent.is told in
    let tokens = subst (λ (s : SearchState). c.run.new.self.tokens ≡ rule_list s.instance s.decision s.nodes) start c.run.ensures.tokens in
    let is = c.in_ok-trail_of-in-Spent.ensures.tokens ∙ (c.tokens-in-Spent.ensures.tokens ∙ tokens) in
    spent_by c.args.nodes i c.args.decision trail c.in_ok-trail_of-in-Spent.ensures.decision (omega (arith, c.requires.few)) c.requires.small (omega arith) (omega (arith, c.len.ensures))
    (omega (arith, ap length c.in_ok-trail_of-in-Spent.ensures.tokens, c.tokens-in-Spent.ensures.most, c.run.ensures.nodes, ap (λ (s : SearchState). s.nodes) start)) is ends
