use Rattle.std.proofs.Common.{◌≡◌, ◌∙◌, ◌++◌, ◌∷◌, [], ap, sym, take, cond, true, false, arith}
use Rattle.std.specs.List.{list_any}
use Rattle.std.specs.BTreeMap.{is_at}
use Rattle.std.specs.Ordering.{nat_cmp}
use Rattle.std.specs.Cmp.Lexicographic.{slice_cmp}
use Rattle.std.proofs.lemmas.Bool.{not-true, not-false}
use Rattle.subpath_rules.specs.Rules.{same_run}
use Rattle.subpath_rules.proofs.Once.{seen-more, once-new, once-seen}
use Rattle.subpath_rules.proofs.listed.without_repeats.Goals as goal
use Rattle.subpath_rules.proofs.listed.without_repeats.Goals.{then-branch+in_ok-copy_of+in_ok-push, else-branch}

pub loop-i-preserved : goal.loop-i-preserved
loop-i-preserved c =
    let listed = c.args.listed.now in
    let i = c.loop-i.i in
    let run = c.as_slice-run.result in
    let is = c.as_slice-run.ensures ∙ c.get.ensures in (
      λ q.
          c.in_ok-insert.ensures.updates.0 q
          ∙ ap (λ b. cond (is_at (λ y. slice_cmp nat_cmp run.now y.now) q) true b) (c.loop-i.invariant.0 q)
          ∙ seen-more listed i (omega arith) run.now q.now is,
      elim c.if-branch.branch [
        | then-branch+in_ok-copy_of+in_ok-push w ↦
            let new : list_any (λ r. same_run r run.now) (take i listed) ≡ false = sym (c.loop-i.invariant.0 run) ∙ not-true _ (sym c.in_ok-insert.ensures.added ∙ w.if-branch.true) in
            w.once-is
            ∙ w.in_ok-push.ensures.ok
            ∙ ap (λ copy. c.loop-i.once ++ copy ∷ []) w.in_ok-copy_of.ensures
            ∙ ap (λ l. l ++ run.now ∷ []) c.loop-i.invariant.1
            ∙ sym (once-new listed i (omega arith) run.now is new)
        | else-branch w ↦
            let seen : list_any (λ r. same_run r run.now) (take i listed) ≡ true = sym (c.loop-i.invariant.0 run) ∙ not-false _ (sym c.in_ok-insert.ensures.added ∙ w.if-branch.false) in
            w.once-is ∙ c.loop-i.invariant.1 ∙ sym (once-seen listed i (omega arith) run.now is seen)
      ],
    )
