use Rattle.std.proofs.Common.{◌≡◌, ◌++◌, map, take}
use Rattle.std.specs.Prelude.{string_bytes}
use Rattle.demo_text.specs.Demo.{ends_of, edge_line, text_of}
use Rattle.demo_text.proofs.block.write_block.Given as goal

abbrev pub invariant-loop-edge : goal.invariant-loop-edge
invariant-loop-edge l =
    string_bytes l.text ≡ string_bytes l.initial.text ++ text_of (map (edge_line l.paths) (map ends_of (take l.edge-index l.edge-items)))
