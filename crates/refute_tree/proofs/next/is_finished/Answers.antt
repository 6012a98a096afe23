use Rattle.std.proofs.Common.{sym, ap, ◌∙◌, subst}
use Rattle.decomposition.specs.Reach.{IsBegun}
use Rattle.decomposition.specs.Graph.{is_sink}
use Rattle.decomposition.specs.Tokens.{is_finished}
use Rattle.refute_tree.proofs.NextEdges.{last_inside, is_finished-last}
use Rattle.refute_tree.proofs.next.is_finished.Goals as goal

pub head-requires : goal.head-requires
head-requires c = last_inside c.args.net.now c.in-Some.ensures.0 c.in-Some.last (subst (IsBegun c.args.net.now) c.in-Some.ensures.1 c.requires.begun)

pub returns-in-Some : goal.returns-in-Some
returns-in-Some c =
    let g = c.args.net.now in
    c.is_sink.ensures ∙ ap (is_sink g) c.head.ensures.head ∙ sym (is_finished-last g c.in-Some.ensures.0 c.in-Some.last) ∙ ap (is_finished g) (sym c.in-Some.ensures.1)

pub returns-in-None : goal.returns-in-None
returns-in-None c = ap (is_finished c.args.net.now) (sym c.in-None.ensures)
