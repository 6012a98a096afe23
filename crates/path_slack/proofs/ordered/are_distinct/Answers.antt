use Rattle.std.proofs.Common.{◌≡◌, ◌∙◌, ap, sym, take, cond, true, false, arith}
use Rattle.std.specs.BTreeMap.{is_at}
use Rattle.std.specs.Ordering.{nat_cmp}
use Rattle.std.specs.Cmp.Lexicographic.{slice_cmp}
use Rattle.std.proofs.lemmas.Bool.{not-true, not-false, false≢true}
use Rattle.slack_terms.specs.declared.slack_path.SlackPath.{SlackPath}
use Rattle.path_slack.proofs.Distinct.{has_path, has_path-more, not_distinct, distinct_more}
use Rattle.path_slack.proofs.ordered.are_distinct.Goals as goal

pub returns-then-not-branch : goal.returns-then-not-branch
returns-then-not-branch c =
    let paths = c.args.paths.now in
    let path = c.as_slice-path.result.now in
    let seen : has_path (take c.loop-i.i paths) path ≡ true
    = sym (c.loop-i.invariant.0 c.as_slice-path.result) ∙ not-false _ (sym c.in_ok-insert.ensures.added ∙ c.if-not-branch.true) in
    (λ says. absurd (false≢true says), λ distinct. absurd (not_distinct paths c.loop-i.i (omega arith) path (c.as_slice-path.ensures ∙ ap (λ (e : SlackPath). e.path) c.get.ensures) seen distinct))

pub loop-i-preserved : goal.loop-i-preserved
loop-i-preserved c =
    let paths = c.args.paths.now in
    let i = c.loop-i.i in
    let path = c.as_slice-path.result in
    let is = c.as_slice-path.ensures ∙ ap (λ (e : SlackPath). e.path) c.get.ensures in
    let new : has_path (take i paths) path.now ≡ false
    = sym (c.loop-i.invariant.0 path) ∙ not-true _ (sym c.in_ok-insert.ensures.added ∙ c.if-not-branch.false) in (
      λ q.
          c.in_ok-insert.ensures.updates.0 q
          ∙ ap (λ b. cond (is_at (λ y. slice_cmp nat_cmp path.now y.now) q) true b) (c.loop-i.invariant.0 q)
          ∙ has_path-more paths i (omega arith) path.now q.now is,
      distinct_more paths i (omega arith) path.now is new c.loop-i.invariant.1,
    )
