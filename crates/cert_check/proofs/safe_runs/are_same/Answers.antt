use Rattle.std.proofs.Common.{◌≡◌, ◌∙◌, ◌++◌, ◌∷◌, [], ℕ, List, take, get_or, sym, ap, arith}
use Rattle.std.proofs.lemmas.Bool.{not-false}
use Rattle.std.proofs.lemmas.List.{take_more}
use Rattle.std.proofs.lemmas.Slice.Eq.{bytes_eq-Decides}
use Rattle.cert_check.proofs.safe_runs.are_same.Goals as goal

pub loop-i-preserved : goal.loop-i-preserved
loop-i-preserved c =
    let runs = c.args.runs.now in
    let others = c.args.others.now in
    let i = c.loop-i.i in
    let same : get_or runs i [] ≡ get_or others i []
    = sym (c.as_slice.ensures ∙ c.get.ensures)
    ∙ (bytes_eq-Decides c.as_slice.result.now c.as_slice-in-loop-i.result.now).0 (not-false _ (sym c.ne.ensures ∙ c.if-ne.false))
    ∙ c.as_slice-in-loop-i.ensures
    ∙ c.get-in-loop-i.ensures in
    take_more runs i [] (omega arith)
    ∙ ap (λ (front : List (List ℕ)). front ++ get_or runs i [] ∷ []) c.loop-i.invariant
    ∙ ap (λ (run : List ℕ). take i others ++ run ∷ []) same
    ∙ sym (take_more others i [] (omega arith))
