use Rattle.std.proofs.Common.{◌+◌, ◌∙◌, length, refl, sym, ap, subst, length-drop, arith}
use Rattle.std.proofs.lemmas.List.{take_rest}
use Rattle.std.proofs.lemmas.Result.{err_from_is_err_and, IfErr-weaker}
use Rattle.report_reading.specs.BadLines.{bad_line, RefusesAs}
use Rattle.report_reading.proofs.ReadingOn.{feed-within, read-next, read-last, RefusesAs-first}
use Rattle.report_reading.proofs.reader.read_lines.Goals as goal

pub returns-in_err-take_numbered-clause-err : goal.returns-in_err-take_numbered-clause-err
returns-in_err-take_numbered-clause-err c =
    let p = err_from_is_err_and c.from_residual.result c.from_residual.ensures.1 in
    let refuses =
    RefusesAs-first c.args.labels.now c.loop-end.rest.now _ c.loop-end.number c.in-Some.end c.loop-end.draft _ _ c.loop-end.invariant.0
    (sym c.line_end.ensures ∙ c.in-Some.is) refl c.in_err-take_numbered.ensures.err in
    rw (p.1, p.2) refuses

pub loop-end-preserved : goal.loop-end-preserved
loop-end-preserved c =
    let feed = sym c.line_end.ensures ∙ c.in-Some.is in
    let behind = take_rest c.loop-end.rest.now (c.in-Some.end + 1) in (
      c.loop-end.invariant.0
          ∙ read-next c.args.labels.now c.loop-end.rest.now _ _ c.loop-end.number c.in-Some.end c.loop-end.draft c.take_numbered.new.draft feed refl behind c.in_ok-take_numbered.ensures.ok,
      omega (
        arith,
        c.loop-end.invariant.1,
        ap length behind,
        length-drop (c.in-Some.end + 1) c.loop-end.rest.now,
        feed-within c.loop-end.rest.now c.in-Some.end feed,
      ),
    )

pub returns-clause-err : goal.returns-clause-err
returns-clause-err c =
    IfErr-weaker c.close.result _ _
    (λ fault refuses.
    subst (λ r. RefusesAs (bad_line r) fault)
    (sym (c.loop-end.invariant.0 ∙ read-last c.args.labels.now c.loop-end.rest.now c.loop-end.number c.loop-end.draft (sym c.line_end.ensures ∙ c.in_default.is)))
    refuses)
    c.close.ensures.err
