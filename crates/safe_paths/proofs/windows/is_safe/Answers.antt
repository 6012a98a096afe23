use Rattle.std.proofs.Common.{slice_index, ap, ◌∙◌, arith}
use Rattle.std.proofs.lemmas.List.{get_or_read}
use Rattle.decomposition.specs.Flow.{flow_out_of}
use Rattle.safe_paths.proofs.Bounds.{carried-small}
use Rattle.safe_paths.proofs.Growing.{safe-test}
use Rattle.safe_paths.proofs.windows.is_safe.Goals as goal

pub overflow_add-result : goal.overflow_add-result
overflow_add-result c =
    let out = c.requires.path.given.flows.out in
    let read = get_or_read c.args.at.now.out.items c.tail.result c.index.result.now (omega (arith, out.room, c.tail.ensures.vertex)) c.index.ensures 0 in
    omega (arith, carried-small c.args.net.now c.args.flow.now c.args.at.now c.args.path.now c.requires.path c.args.window c.requires.window, out.small c.tail.result, read)

pub returns : goal.returns
returns c =
    let out = c.requires.path.given.flows.out in
    let read = get_or_read c.args.at.now.out.items c.tail.result c.index.result.now (omega (arith, out.room, c.tail.ensures.vertex)) c.index.ensures 0 in
    safe-test c.args.net.now c.args.flow.now c.args.at.now c.args.path.now c.requires.path c.args.window c.requires.window c.requires.some c.index.result.now
    (read ∙ out.at c.tail.result c.tail.ensures.vertex ∙ ap (flow_out_of c.args.net.now (slice_index c.args.flow.now)) c.tail.ensures.tail)
