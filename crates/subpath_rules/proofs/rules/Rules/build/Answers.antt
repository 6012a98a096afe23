use Rattle.std.proofs.Common.{List, ℕ, ◌==◌, length, ap, sym, subst, arith, IsTrue}
use Rattle.std.specs.List.{list_all, IsDistinct}
use Rattle.std.specs.Cmp.Lexicographic.{pointwise}
use Rattle.decomposition.specs.Graph.{is_run}
use Rattle.subpath_rules.proofs.Once.{length-distinct_runs, all-distinct_runs, IsDistinct-distinct_runs}
use Rattle.subpath_rules.proofs.rules.Rules.build.Goals as goal

pub invariant_of-result : goal.invariant_of-result
invariant_of-result c = omega (arith, length-distinct_runs c.args.runs.now, ap length c.in_ok-runs.ensures, c.requires)

pub returns-clause-rules : goal.returns-clause-rules
returns-clause-rules c =
    let listed = c.args.runs.now in
    let is = sym c.in_ok-runs.ensures in
    record {
      listed_runs = c.in_default.ensures;
      rules_are = c.in_ok-runs.ensures;
      runs = subst (λ (rs : List (List ℕ)). IsTrue (list_all (is_run c.args.net.now) rs)) is (all-distinct_runs (is_run c.args.net.now) listed c.in_default.ensures);
      distinct = subst (λ (rs : List (List ℕ)). IsDistinct (pointwise (λ d e. d == e)) rs) is (IsDistinct-distinct_runs listed);
    }
