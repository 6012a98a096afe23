use Rattle.std.proofs.Common.{◌≡◌, true, false, rules, tests}
use Rattle.std.proofs.lemmas.Iterator.{first_from_Range}
use Rattle.decomposition.specs.Graph.{tail, is_source}
use Rattle.refute_tree.proofs.next.source_edge.Goals as goal

pub returns : goal.returns
returns c =
    let g = c.args.net.now in
    first_from_Range _ _ _ c.find.result (λ e. is_source g (tail g e) ≡ true) (λ e. is_source g (tail g e) ≡ false) c.find.ensures.ran
    (λ x q k. search (rules, tests)) (λ x q k. search (rules, tests))
