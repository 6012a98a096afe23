use Rattle.std.proofs.Common.{◌||◌, ◌&&◌, length, get_or, ap, sym, ◌∙◌}
use Rattle.std.specs.Prelude.{◌==◌}
use Rattle.std.proofs.lemmas.Bool.{eq-eqb, ne_eqb}
use Rattle.graph_text.specs.Lines.{is_blank}
use Rattle.graph_text.proofs.Splitting.{run_kind-at}
use Rattle.graph_text.proofs.fields.is_run_text.Goals as goal

pub returns-then-rest-eq2 : goal.returns-then-rest-eq2
returns-then-rest-eq2 c =
    sym (run_kind-at c.args.text.now c.after_blanks-rest.result.now c.after_blanks-rest.ensures
    ∙ ap (λ s. s && ((length c.after_blanks-rest.result.now == 2) || is_blank (get_or c.after_blanks-rest.result.now 2 0))) (sym c.starts_with.ensures.value ∙ c.if-starts_with.true)
    ∙ ap (λ n. n || is_blank (get_or c.after_blanks-rest.result.now 2 0)) (eq-eqb _ _ c.if-rest-eq2.true)
    ∙ sym (eq-eqb _ _ c.if-rest-eq2.true))

pub returns-else-rest-eq2 : goal.returns-else-rest-eq2
returns-else-rest-eq2 c =
    c.is_blank.ensures
    ∙ sym (run_kind-at c.args.text.now c.after_blanks-rest.result.now c.after_blanks-rest.ensures
    ∙ ap (λ s. s && ((length c.after_blanks-rest.result.now == 2) || is_blank (get_or c.after_blanks-rest.result.now 2 0))) (sym c.starts_with.ensures.value ∙ c.if-starts_with.true)
    ∙ ap (λ n. n || is_blank (get_or c.after_blanks-rest.result.now 2 0)) (ne_eqb _ _ c.if-rest-eq2.false))

pub returns-else-starts_with : goal.returns-else-starts_with
returns-else-starts_with c =
    c.if-starts_with.false
    ∙ sym (run_kind-at c.args.text.now c.after_blanks-rest.result.now c.after_blanks-rest.ensures
    ∙ ap (λ s. s && ((length c.after_blanks-rest.result.now == 2) || is_blank (get_or c.after_blanks-rest.result.now 2 0))) (sym c.starts_with.ensures.value ∙ c.if-starts_with.false))
