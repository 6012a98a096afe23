-- the lines that refusals name
use Rattle.graph_text.proofs.RefusedLines.{refusal-within, refusal-line}
use Rattle.graph_text.proofs.laws.refusals_name_lines.Goals as goal

pub returns : goal.returns
returns c = record { within = refusal-within; from = refusal-line }
