use Rattle.std.proofs.Common.{◌+◌, ◌∙◌, drop, ap, sym, arith}
use Rattle.std.proofs.lemmas.List.{take_rest, drop_all}
use Rattle.report_reading.proofs.head_lines.after_space.Goals as goal

pub returns-then-end-bytes : goal.returns-then-end-bytes
returns-then-end-bytes c = take_rest c.args.bytes.now _ ∙ ap (λ n. drop (n + 1) c.args.bytes.now) c.place_of_space-end.ensures

pub returns-else-end-bytes : goal.returns-else-end-bytes
returns-else-end-bytes c =
    sym (ap (λ n. drop (n + 1) c.args.bytes.now) (sym c.place_of_space-end.ensures) ∙ drop_all _ c.args.bytes.now (omega arith))
