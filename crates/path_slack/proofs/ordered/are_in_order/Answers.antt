use Rattle.std.proofs.Common.{◌≡◌, suc, ◌-◌, true, false, [], sym, ap, ◌∙◌, subst, inl, inr, arith}
use Rattle.std.proofs.lemmas.Bool.{both_ways, cases_Bool}
use Rattle.decomposition.specs.Answer.{is_ordered}
use Rattle.decomposition.proofs.ReportOrder.{is_ordered-from_places, is_ordered-place}
use Rattle.slack_terms.specs.Answers.{entry_at}
use Rattle.path_slack.specs.Reported.{comes_before}
use Rattle.path_slack.proofs.ordered.are_in_order.Goals as goal

pub returns-then-not-comes_before : goal.returns-then-not-comes_before
returns-then-not-comes_before c =
    let paths = c.args.paths.now in
    let i = c.loop-i.i in
    let next : suc (i - 1) ≡ i = omega arith in
    let fails : comes_before (entry_at paths (i - 1)) (entry_at paths i) ≡ false
    = ap (λ y. comes_before (entry_at paths (i - 1)) y) (sym c.get-in-loop-i.ensures)
    ∙ ap (λ x. comes_before x c.get-in-loop-i.result.now) (sym c.get.ensures) ∙ sym c.comes_before.ensures ∙ c.if-not-comes_before.true in
    elim (cases_Bool (is_ordered comes_before paths)) [
      | inl ordered ↦
          let holds : comes_before (entry_at paths (i - 1)) (entry_at paths (suc (i - 1))) ≡ true
          = is_ordered-place comes_before paths (record { path = []; weight = 0; slack = 0 }) (i - 1) ordered (omega arith) in
          absurd (both_ways _ fails (subst (λ k. comes_before (entry_at paths (i - 1)) (entry_at paths k) ≡ true) next holds))
      | inr not_ordered ↦ sym not_ordered
    ]

pub returns : goal.returns
returns c =
    sym (is_ordered-from_places comes_before c.args.paths.now (record { path = []; weight = 0; slack = 0 })
    (λ k h. c.loop-i.invariant k (omega arith)))
