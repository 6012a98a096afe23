use Rattle.std.proofs.Common.{◌≡◌, ◌-◌, ◌≤◌, ℕ, List, vec_len}
use Rattle.flow_io.specs.Outside.{Took}
use Rattle.block_runs.proofs.whole.read_to_end.Given as goal

abbrev pub invariant-loop-buffer : goal.invariant-loop-buffer
invariant-loop-buffer g l = record {
  took : Took (g.I.Inputs.selected l.fn.inputs) (g.I.Inputs.selected l.inputs) l.bytes.items;
  most : vec_len l.bytes ≤ 1073741824;
  later : g.I.Inputs.faults l.fn.inputs ≤ g.I.Inputs.faults l.inputs;
  asks : (any : List ℕ) → g.I.Inputs.may_ask l.fn.inputs any → g.I.Inputs.may_ask l.inputs any;
  holds : (any : List ℕ) → g.I.Inputs.holds l.inputs any ≡ g.I.Inputs.holds l.fn.inputs any;
}

abbrev pub decreases-loop-buffer : goal.decreases-loop-buffer
decreases-loop-buffer g l = 1073741824 - vec_len l.bytes
