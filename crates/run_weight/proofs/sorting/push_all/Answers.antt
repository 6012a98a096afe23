use Rattle.std.proofs.Common.{◌≤◌, ◌++◌, ◌∷◌, [], ℕ, suc, List, append_assoc, ap, ◌∙◌, subst, arith}
use Rattle.std.specs.Prelude.{All}
use Rattle.run_weight.proofs.sorting.push_all.Goals as goal

pub loop-path-preserved : goal.loop-path-preserved
loop-path-preserved c =
    let entry : List ℕ × ℕ = (c.in-Some.path, c.in-Some.weight) in
    let rest = subst (All (λ (entry : List ℕ × ℕ). 1 ≤ entry.1)) c.in-Some.ensures.steps.0 c.loop-path.invariant.1 in (
      c.in_ok-push.ensures.ok ∙ (ap (λ (l : List (List ℕ × ℕ)). l ++ entry ∷ []) c.loop-path.invariant.0 ∙ append_assoc c.args.answer.now c.loop-path.yielded (entry ∷ [])),
      λ k d there. rest (suc k) d (omega arith),
    )
