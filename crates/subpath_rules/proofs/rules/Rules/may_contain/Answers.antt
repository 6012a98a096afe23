use Rattle.std.proofs.Common.{◌≡◌, [], length, ap, sym, ◌∙◌, arith, inl}
use Rattle.std.proofs.lemmas.List.{nil_from_length}
use Rattle.decomposition.specs.Graph.{paths}
use Rattle.decomposition.specs.Boxes.{may_contain}
use Rattle.subpath_rules.proofs.RunsByReach.{may_contain_by_reach}
use Rattle.subpath_rules.proofs.Deciding.{rule-run, may-decides}
use Rattle.subpath_rules.proofs.rules.Rules.may_contain.Goals as goal

pub returns-then-is_empty : goal.returns-then-is_empty
returns-then-is_empty c =
    let g = c.args.net.now in
    let walk = c.args.walk.now in
    let run = c.run-run.result.now in
    let empty : walk ≡ [] = nil_from_length walk (grind arith) in
    c.if-is_empty.true
    ∙ sym ((may_contain_by_reach g walk run c.edges.ensures.net c.requires.begun (rule-run g c.args.self.now c.args.rule run c.requires.runs c.requires.rule c.run-run.ensures)).1 (inl empty))
    ∙ ap (may_contain (paths g) walk) c.run-run.ensures

pub returns-else-is_empty : goal.returns-else-is_empty
returns-else-is_empty c =
    let g = c.args.net.now in
    let walk = c.args.walk.now in
    let run = c.run-run.result.now in
    let is = rule-run g c.args.self.now c.args.rule run c.requires.runs c.requires.rule c.run-run.ensures in
    may-decides c.follows.result g walk run c.edges.ensures.net c.requires.begun is (λ empty. let none : length walk ≡ 0 = ap length empty in grind arith) c.follows.ensures ∙ ap (may_contain (paths g) walk) c.run-run.ensures
