use Rattle.std.proofs.Common.{ℕ, List, ◌++◌, ◌∷◌, [], get_or, sym, ap, ◌∙◌, arith}
use Rattle.std.specs.Borrow.{Bor}
use Rattle.graph_text.proofs.Spelling.{spelled-more}
use Rattle.graph_text.proofs.constraints.spelled.Goals as goal

pub loop-name-preserved : goal.loop-name-preserved
loop-name-preserved c =
    let none : Bor (List ℕ) = record { ref_ptr = (0, 0); now = [] } in
    let name = (get_or c.args.names.now c.loop-name.name-index none).now in
    c.in_ok-push.ensures.items
    ∙ ap (λ (text : List ℕ). text ++ 32 ∷ []) (c.in_ok-extend_from_slice.ensures.items ∙ ap (λ (text : List ℕ). text ++ name) c.loop-name.invariant)
    ∙ sym (spelled-more c.args.names.now c.loop-name.name-index none (omega arith))
