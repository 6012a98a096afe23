use Rattle.std.proofs.Common.{slice_index, ap, arith}
use Rattle.std.proofs.lemmas.List.{get_or_read}
use Rattle.decomposition.specs.Flow.{flow_out_of}
use Rattle.safe_paths.proofs.Parts.{carried-cons, passed-cons}
use Rattle.safe_paths.proofs.windows.without_first.Goals as goal

pub overflow_sub-result : goal.overflow_sub-result
overflow_sub-result c =
    let w = c.args.window in
    omega (arith, c.requires.window.carries, carried-cons c.args.net.now (slice_index c.args.flow.now) c.args.path.now w.from w.to c.requires.some c.requires.window.within)

pub overflow_sub-result-2 : goal.overflow_sub-result-2
overflow_sub-result-2 c =
    let g = c.args.net.now in
    let w = c.args.window in
    let flow = slice_index c.args.flow.now in
    let out = c.requires.path.given.flows.out in
    let read = get_or_read c.args.at.now.out.items c.tail.result c.index.result.now (omega (arith, out.room, c.tail.ensures.vertex)) c.index.ensures 0 in
    omega (
      arith,
      c.requires.window.passes,
      passed-cons g flow c.args.path.now w.from w.to c.requires.some c.requires.window.within,
      read,
      out.at c.tail.result c.tail.ensures.vertex,
      ap (flow_out_of g flow) c.tail.ensures.tail,
    )

pub returns-clause-window : goal.returns-clause-window
returns-clause-window c =
    let g = c.args.net.now in
    let p = c.args.path.now in
    let w = c.args.window in
    let flow = slice_index c.args.flow.now in
    let window = c.requires.window in
    let out = c.requires.path.given.flows.out in
    let read = get_or_read c.args.at.now.out.items c.tail.result c.index.result.now (omega (arith, out.room, c.tail.ensures.vertex)) c.index.ensures 0 in
    record {
      ordered = omega (arith, c.requires.some);
      within = window.within;
      carries = omega (arith, window.carries, carried-cons g flow p w.from w.to c.requires.some window.within);
      passes = omega (arith, window.passes, passed-cons g flow p w.from w.to c.requires.some window.within, read, out.at c.tail.result c.tail.ensures.vertex, ap (flow_out_of g flow) c.tail.ensures.tail);
    }
