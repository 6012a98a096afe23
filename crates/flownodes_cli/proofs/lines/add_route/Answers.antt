use Rattle.std.proofs.Common.{◌≡◌, ◌<◌, ◌++◌, ◌∷◌, [], ℕ, List, length, slice_index, sym, ap, subst, ◌∙◌, arith}
use Rattle.std.proofs.lemmas.List.{take_all}
use Rattle.std.specs.Prelude.{flat_map, codes, decimal}
use Rattle.text_lines.specs.TextLines.{spaced}
use Rattle.flownodes_cli.proofs.RouteLines.{route-inside, spaced_name, route_line-of}
use Rattle.flownodes_cli.proofs.lines.add_route.Goals as goal

pub name-requires : goal.name-requires
name-requires c =
    let n = length c.args.graph.now.names in
    let is = c.as_slice-v-items.ensures ∙ c.in_ok-route.ensures in
    subst (λ (r : List ℕ). slice_index r c.loop-v.v-index < n) (sym is)
    (route-inside n c.args.path.now c.loop-v.v-index (subst (λ (r : List ℕ). c.loop-v.v-index < length r) is c.loop-v-test.true))

pub returns : goal.returns
returns c =
    let g = c.args.graph.now in
    let front = (c.args.text.now.items ++ codes "route") ++ spaced (decimal c.args.weight) in
    let is = c.as_slice-v-items.ensures ∙ c.in_ok-route.ensures in
    c.in_ok-push.ensures.items
    ∙ ap (λ (x : List ℕ). x ++ 10 ∷ [])
    (c.loop-v.invariant ∙ ap (λ (vs : List ℕ). front ++ flat_map (spaced_name g) vs) (take_all c.loop-v.v-index c.as_slice-v-items.result.now (omega (arith, c.loop-v-test.false)) ∙ is))
    ∙ route_line-of g c.args.text.now.items c.args.weight c.args.path.now
