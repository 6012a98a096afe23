use Rattle.std.proofs.Common.{[], map, ap, ◌∙◌}
use Rattle.std.specs.Prelude.{flat_map}
use Rattle.std.proofs.lemmas.List.{take_all}
use Rattle.demo_text.specs.Demo.{ends_of, edges_along}
use Rattle.demo_text.specs.Uses.{with_uses}
use Rattle.demo_text.proofs.GatheredUses.{uses_more, first_uses_gathered}
use Rattle.demo_text.proofs.edges.edges_used.Goals as goal

pub loop-path-preserved : goal.loop-path-preserved
loop-path-preserved c =
    uses_more c.args.paths.now c.loop-path.path-index _ (map ends_of c.loop-path.used.items) (map ends_of c.add_path.new.used.items) c.loop-path-test.true c.loop-path.invariant c.in_ok-add_path.ensures

pub returns : goal.returns
returns c =
    c.loop-path.invariant
    ∙ ap (λ paths. with_uses [] (flat_map edges_along paths)) (take_all c.loop-path.path-index c.args.paths.now c.loop-path-test.false)
    ∙ first_uses_gathered (flat_map edges_along c.args.paths.now)
