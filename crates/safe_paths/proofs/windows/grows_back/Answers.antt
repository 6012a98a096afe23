use Rattle.std.proofs.Common.{slice_index, sym, subst, arith}
use Rattle.std.proofs.lemmas.List.{get_or_read}
use Rattle.decomposition.specs.Graph.{edge_count, head, tail}
use Rattle.safe_paths.specs.VertexFlows.{IsGreatest}
use Rattle.safe_paths.proofs.Bounds.{carried-small}
use Rattle.safe_paths.proofs.Growing.{back-test}
use Rattle.safe_paths.proofs.windows.grows_back.Goals as goal

pub overflow_add-result : goal.overflow_add-result
overflow_add-result c =
    let into = c.requires.path.given.flows.into in
    let read = get_or_read c.args.at.now.greatest_in.items c.tail-first.result c.index.result.now (omega (arith, into.room, c.tail-first.ensures.vertex)) c.index.ensures 0 in
    omega (arith, carried-small c.args.net.now c.args.flow.now c.args.at.now c.args.path.now c.requires.path c.args.window c.requires.window, into.small c.tail-first.result, read)

pub returns : goal.returns
returns c =
    let g = c.args.net.now in
    let flow = slice_index c.args.flow.now in
    let first = slice_index c.args.path.now c.args.window.from in
    let into = c.requires.path.given.flows.into in
    let read = get_or_read c.args.at.now.greatest_in.items c.tail-first.result c.index.result.now (omega (arith, into.room, c.tail-first.ensures.vertex)) c.index.ensures 0 in
    let here : IsGreatest (head g) flow (edge_count g) (tail g first) c.index.result.now
    = subst (λ v. IsGreatest (head g) flow (edge_count g) v c.index.result.now) c.tail-first.ensures.tail
    (subst (IsGreatest (head g) flow (edge_count g) c.tail-first.result) (sym read) (into.at c.tail-first.result c.tail-first.ensures.vertex)) in
    back-test g c.args.flow.now c.args.at.now c.args.path.now c.requires.path c.args.window c.requires.window c.requires.some c.index.result.now here
