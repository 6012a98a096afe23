use Rattle.std.proofs.Common.{sym, arith}
use Rattle.graph_text.proofs.KeptLines.{return-last, return-none, return_less}
use Rattle.node_weights.proofs.reader.without_return.Goals as goal
use Rattle.node_weights.proofs.reader.without_return.Goals.{else-n-gt0-via-then-n-gt0+else-bytes-n-eq13, else-n-gt0-via-else-n-gt0}

pub returns-then-bytes-n-eq13 : goal.returns-then-bytes-n-eq13
returns-then-bytes-n-eq13 c = sym (return-last c.args.bytes.now (omega arith) c.if-bytes-n-eq13.true)

pub returns-else-n-gt0 : goal.returns-else-n-gt0
returns-else-n-gt0 c = sym (return-none c.args.bytes.now (elim c.else-n-gt0.branch [
  | else-n-gt0-via-then-n-gt0+else-bytes-n-eq13 w ↦ w.if-bytes-n-eq13.false
  | else-n-gt0-via-else-n-gt0 w ↦ return_less c.args.bytes.now (omega arith)
]))
