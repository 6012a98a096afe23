use Rattle.std.proofs.Common.{slice_index, ap, arith}
use Rattle.std.proofs.lemmas.List.{get_or_read}
use Rattle.decomposition.specs.Flow.{flow_out_of}
use Rattle.safe_paths.proofs.OutSums.{small-at}
use Rattle.safe_paths.proofs.Bounds.{carried-small, passed-small}
use Rattle.safe_paths.proofs.Parts.{carried-push, passed-push}
use Rattle.safe_paths.proofs.windows.longer.Goals as goal

pub overflow_add-result-2 : goal.overflow_add-result-2
overflow_add-result-2 c =
    let p = c.args.path.now in
    let laid = c.requires.path in
    omega (
      arith,
      carried-small c.args.net.now c.args.flow.now c.args.at.now p laid c.args.window c.requires.window,
      small-at 1000000000000 c.args.flow.now laid.given.small (slice_index p c.args.window.to),
    )

pub overflow_add-result-3 : goal.overflow_add-result-3
overflow_add-result-3 c =
    let out = c.requires.path.given.flows.out in
    let read = get_or_read c.args.at.now.out.items c.tail.result c.index.result.now (omega (arith, out.room, c.tail.ensures.vertex)) c.index.ensures 0 in
    omega (arith, passed-small c.args.net.now c.args.flow.now c.args.at.now c.args.path.now c.requires.path c.args.window c.requires.window, out.small c.tail.result, read)

pub returns-clause-window : goal.returns-clause-window
returns-clause-window c =
    let g = c.args.net.now in
    let p = c.args.path.now in
    let w = c.args.window in
    let flow = slice_index c.args.flow.now in
    let window = c.requires.window in
    let out = c.requires.path.given.flows.out in
    let read = get_or_read c.args.at.now.out.items c.tail.result c.index.result.now (omega (arith, out.room, c.tail.ensures.vertex)) c.index.ensures 0 in
    record {
      ordered = omega (arith, window.ordered);
      within = omega (arith, c.requires.more);
      carries = omega (arith, window.carries, carried-push g flow p w.from w.to window.ordered c.requires.more);
      passes = omega (arith, window.passes, passed-push g flow p w.from w.to window.ordered c.requires.more, read, out.at c.tail.result c.tail.ensures.vertex, ap (flow_out_of g flow) c.tail.ensures.tail);
    }
