use Rattle.std.proofs.Common.{◌≡◌, ◌++◌, map}
use Rattle.safe_paths.proofs.writing.written_out.Given as goal

-- the lists so far, with the runs that are left, are the runs of the set
abbrev pub invariant-loop-run : goal.invariant-loop-run
invariant-loop-run l = l.lists ++ map (λ run. run.now) l.run-iterator ≡ map (λ run. run.now) l.runs.keys
