use Rattle.std.proofs.Common.{◌∙◌, take, ap, sym, arith}
use Rattle.std.proofs.lemmas.List.{take_all}
use Rattle.report_reading.proofs.head_lines.before_space.Goals as goal

pub returns-then-end-bytes : goal.returns-then-end-bytes
returns-then-end-bytes c = ap (λ n. take n c.args.bytes.now) c.place_of_space-end.ensures

pub returns-else-end-bytes : goal.returns-else-end-bytes
returns-else-end-bytes c = sym (ap (λ n. take n c.args.bytes.now) (sym c.place_of_space-end.ensures) ∙ take_all c.place_of_space-end.result c.args.bytes.now (omega arith))
