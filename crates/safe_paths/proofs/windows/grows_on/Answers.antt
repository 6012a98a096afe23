use Rattle.std.proofs.Common.{◌≡◌, ◌-◌, slice_index, true, false, sym, ap, subst, ◌∙◌, arith}
use Rattle.std.proofs.lemmas.Bool.{false≢true}
use Rattle.std.proofs.lemmas.List.{get_or_read}
use Rattle.decomposition.specs.Graph.{edge_count, head, tail, is_sink}
use Rattle.decomposition.specs.Flow.{flow_out_of}
use Rattle.safe_paths.specs.VertexFlows.{IsGreatest}
use Rattle.safe_paths.proofs.Bounds.{carried-small, passed-small}
use Rattle.safe_paths.proofs.Growing.{on-sink, on-test}
use Rattle.safe_paths.proofs.windows.grows_on.Goals as goal

pub returns-then-is_sink : goal.returns-then-is_sink
returns-then-is_sink c =
    let g = c.args.net.now in
    let flow = slice_index c.args.flow.now in
    let from = c.requires.path.given.flows.from in
    let last = head g (slice_index c.args.path.now (c.args.window.to - 1)) in
    let sink : is_sink g last ≡ true = ap (is_sink g) (sym c.head-last.ensures.head) ∙ sym c.is_sink.ensures ∙ c.if-is_sink.true in
    let here : IsGreatest (tail g) flow (edge_count g) last (slice_index c.args.at.now.greatest_out.items c.head-last.result)
    = subst (λ v. IsGreatest (tail g) flow (edge_count g) v (slice_index c.args.at.now.greatest_out.items c.head-last.result)) c.head-last.ensures.head (from.at c.head-last.result c.head-last.ensures.vertex) in (
      λ h. absurd (false≢true h),
      λ found. absurd (on-sink g c.args.flow.now c.args.at.now c.args.path.now c.requires.path c.args.window c.requires.window c.requires.some _ here sink found),
    )

pub overflow_add-result : goal.overflow_add-result
overflow_add-result c =
    let out = c.requires.path.given.flows.out in
    let read = get_or_read c.args.at.now.out.items c.head-last.result c.index.result.now (omega (arith, out.room, c.head-last.ensures.vertex)) c.index.ensures 0 in
    omega (arith, passed-small c.args.net.now c.args.flow.now c.args.at.now c.args.path.now c.requires.path c.args.window c.requires.window, out.small c.head-last.result, read)

pub overflow_add-result-2 : goal.overflow_add-result-2
overflow_add-result-2 c =
    let out = c.requires.path.given.flows.out in
    let read = get_or_read c.args.at.now.out.items c.tail-first.result c.index-2.result.now (omega (arith, out.room, c.tail-first.ensures.vertex)) c.index-2.ensures 0 in
    omega (arith, carried-small c.args.net.now c.args.flow.now c.args.at.now c.args.path.now c.requires.path c.args.window c.requires.window, out.small c.tail-first.result, read)

pub overflow_add-result-3 : goal.overflow_add-result-3
overflow_add-result-3 c =
    let out = c.requires.path.given.flows.out in
    let from = c.requires.path.given.flows.from in
    let read = get_or_read c.args.at.now.out.items c.tail-first.result c.index-2.result.now (omega (arith, out.room, c.tail-first.ensures.vertex)) c.index-2.ensures 0 in
    let most = get_or_read c.args.at.now.greatest_out.items c.head-last.result c.index-3.result.now (omega (arith, from.room, c.head-last.ensures.vertex)) c.index-3.ensures 0 in
    omega (
      arith,
      carried-small c.args.net.now c.args.flow.now c.args.at.now c.args.path.now c.requires.path c.args.window c.requires.window,
      out.small c.tail-first.result,
      read,
      from.small c.head-last.result,
      most,
    )

pub returns : goal.returns
returns c =
    let g = c.args.net.now in
    let flow = slice_index c.args.flow.now in
    let out = c.requires.path.given.flows.out in
    let from = c.requires.path.given.flows.from in
    let last = head g (slice_index c.args.path.now (c.args.window.to - 1)) in
    let ends = get_or_read c.args.at.now.out.items c.head-last.result c.index.result.now (omega (arith, out.room, c.head-last.ensures.vertex)) c.index.ensures 0 in
    let starts = get_or_read c.args.at.now.out.items c.tail-first.result c.index-2.result.now (omega (arith, out.room, c.tail-first.ensures.vertex)) c.index-2.ensures 0 in
    let most = get_or_read c.args.at.now.greatest_out.items c.head-last.result c.index-3.result.now (omega (arith, from.room, c.head-last.ensures.vertex)) c.index-3.ensures 0 in
    let no_sink : is_sink g last ≡ false = ap (is_sink g) (sym c.head-last.ensures.head) ∙ sym c.is_sink.ensures ∙ c.if-is_sink.false in
    let here : IsGreatest (tail g) flow (edge_count g) last c.index-3.result.now
    = subst (λ v. IsGreatest (tail g) flow (edge_count g) v c.index-3.result.now) c.head-last.ensures.head
    (subst (IsGreatest (tail g) flow (edge_count g) c.head-last.result) (sym most) (from.at c.head-last.result c.head-last.ensures.vertex)) in
    on-test g c.args.flow.now c.args.at.now c.args.path.now c.requires.path c.args.window c.requires.window c.requires.some c.index-3.result.now here c.index.result.now c.index-2.result.now
    no_sink (ends ∙ out.at c.head-last.result c.head-last.ensures.vertex ∙ ap (flow_out_of g flow) c.head-last.ensures.head)
    (starts ∙ out.at c.tail-first.result c.tail-first.ensures.vertex ∙ ap (flow_out_of g flow) c.tail-first.ensures.tail)
