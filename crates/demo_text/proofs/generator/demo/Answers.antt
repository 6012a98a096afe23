use Rattle.std.proofs.Common.{◌≡◌, ◌+◌, ◌-◌, ◌++◌, suc, refl, ap, ◌∙◌, arith}
use Rattle.std.specs.Prelude.{string_bytes, length}
use Rattle.demo_text.specs.Demo.{block_lines, text_of, demo_text}
use Rattle.demo_text.proofs.DemoBlocks.{whole-short}
use Rattle.demo_text.proofs.PathsDrawn.{length-paths_after, text_begins, text_more}
use Rattle.demo_text.proofs.generator.demo.Goals as goal

pub loop-block-init : goal.loop-block-init
unfolding demo_text
loop-block-init c = text_begins 40 c.from_seed-draws.result c.args.seed (string_bytes c.new-text.result) c.new-text.ensures.bytes c.from_seed-draws.ensures

pub write_block-requires : goal.write_block-requires
write_block-requires c =
    let many = length-paths_after (2 + c.draw-count.result) c.draw-count.new.self in
    omega (arith, many, ap length (c.as_slice.ensures.value ∙ c.in_ok-paths.ensures.paths), c.draw-count.ensures.below)

pub loop-block-preserved : goal.loop-block-preserved
loop-block-preserved c =
    let more : 40 - c.loop-block.block ≡ suc (40 - (c.loop-block.block + 1)) = omega (arith, c.loop-block-test.true) in
    text_more (40 - c.loop-block.block) (40 - (c.loop-block.block + 1)) (c.loop-block.block + 1) (c.loop-block.block + 1 + 1)
    c.loop-block.draws c.draw-count.new.self (2 + c.draw-count.result) c.draw_paths.new.draws c.in_ok-paths.paths.items
    (string_bytes c.loop-block.text) (string_bytes c.write_block.new.text) _ more refl
    c.draw-count.ensures.state (ap (λ n. 2 + n) c.draw-count.ensures.drawn) c.in_ok-paths.ensures.paths c.in_ok-paths.ensures.draws
    (c.in_ok-write_block.ensures ∙ ap (λ ps. string_bytes c.loop-block.text ++ text_of (block_lines (c.loop-block.block + 1) ps)) c.as_slice.ensures.value)
    c.loop-block.invariant

pub returns-clause-short : goal.returns-clause-short
unfolding demo_text
returns-clause-short c =
    omega (
      arith,
      whole-short (40 - c.loop-block.block) 40 (c.loop-block.block + 1) c.loop-block.draws c.args.seed (string_bytes c.loop-block.text) (omega arith) c.loop-block.invariant,
      ap length c.from_vec.ensures,
      ap (λ v. length v.items) c.into_bytes.ensures.value,
    )
