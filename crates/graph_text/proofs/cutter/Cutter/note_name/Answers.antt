use Rattle.std.proofs.Common.{◌∙◌, arith}
use Rattle.graph_text.specs.Lines.{without_return}
use Rattle.graph_text.proofs.Holding.{first_name}
use Rattle.graph_text.proofs.cutter.Cutter.note_name.Goals as goal

pub returns-clause-name : goal.returns-clause-name
returns-clause-name c = λ left held.
    c.in_ok-self.ensures
    ∙ first_name left.ended (without_return left.open_line) _ _ 0 (omega (arith, held.ended_are)) (c.line-is_long.ensures.shows left.open_line 0 held.open_line_is) (c.line-is_long.ensures.text left.open_line held.open_line_is)
