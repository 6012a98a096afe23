-- Why a list makes no rules.
use Rattle.std.specs.Prelude.{◌≡◌, ℕ, ◌<◌, take, false, List, [], length, slice_index_or, IsTrue}
use Rattle.std.specs.List.{list_all}
use Rattle.decomposition.specs.Graph.{Graph, is_run}
use Rattle.subpath_rules.specs.declared.rules.RuleFault.{RuleFault}
use Rattle.subpath_rules.specs.declared.rules.RuleFault.TheVariants.{NotARun, Memory}

-- the list at a place is no run, and those before it are runs
pub record IsFirstNoRun (g : Graph) (listed : List (List ℕ)) (i : ℕ) : Type 0 where
  pub there : i < length listed
  pub no_run : is_run g (slice_index_or listed i []) ≡ false
  pub earlier : IsTrue (list_all (is_run g) (take i listed))

-- the fault names the first list that is no run; memory may always run out
abbrev pub IsFaultOf : Graph → List (List ℕ) → RuleFault → Type 0
IsFaultOf g listed (NotARun i) = IsFirstNoRun g listed i
IsFaultOf g listed Memory = Unit {0}
