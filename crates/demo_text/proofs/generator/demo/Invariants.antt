use Rattle.std.proofs.Common.{◌≡◌, ◌+◌, ◌-◌, ◌++◌}
use Rattle.std.specs.Prelude.{string_bytes}
use Rattle.demo_text.specs.Demo.{lines_from, text_of, demo_text}
use Rattle.demo_text.proofs.generator.demo.Given as goal

-- what is written and what is left are the text
abbrev pub invariant-loop-block : goal.invariant-loop-block
invariant-loop-block l = string_bytes l.text ++ text_of (lines_from (40 - l.block) (l.block + 1) l.draws) ≡ demo_text l.fn.seed
