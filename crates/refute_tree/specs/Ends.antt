-- What is known of walks that end with the first edges of a rule.
use Rattle.std.specs.Prelude.{◌≡◌, ℕ, ◌<◌, ◌≤◌, List, ◌++◌, [], length, take, slice_index, slice_index_or, vec_len, Some, None, IfSome}
use Rattle.decomposition.specs.Graph.{Graph}
use Rattle.decomposition.specs.Instance.{Instance}
use Rattle.subpath_rules.specs.Follows.{Overlaps}
use Rattle.link_cells.specs.Links.{LinkList, walk_of, walk_to}
use Rattle.refute_tree.specs.OneBox.{place_of}
use Rattle.refute_tree.specs.Sums.{AreTotals, SumsUp}
use Rattle.refute_tree.specs.declared.beside.Beside.{Beside}
use Rattle.refute_tree.specs.declared.ends.Seen.{Seen}
use Rattle.refute_tree.specs.declared.ends.Known.{Known}
use Rattle.refute_tree.specs.declared.one_box.OneBox.{OneBox}

-- the walk up to a link ends with so many first edges of a run, one at least
pub record IsSeen (links : List (ℕ × ℕ)) (run : List ℕ) (s : Seen) : Type 0 where
  pub cell : s.cell < length links
  pub some : 0 < s.count
  pub within : s.count ≤ length run
  pub before : List ℕ
  pub ends : walk_to links (Some s.cell) ≡ before ++ take s.count run

-- there is a place for each rule, and what is seen of a rule is so
pub record AreSeen (rules : List (List ℕ)) (links : List (ℕ × ℕ)) (k : Known) : Type 0 where
  pub same : k.rules.now ≡ rules
  pub each : length k.seen.items ≡ length rules
  pub seen : (r : ℕ) → r < length rules → IfSome (slice_index_or k.seen.items r None) (IsSeen links (slice_index_or rules r []))

-- the sums, and what is known of the walks, are those of the links
pub record GoWith (g : Graph) (rules : List (List ℕ)) (l : LinkList) (b : Beside) : Type 0 where
  pub totals : AreTotals g l b.sums
  pub known : AreSeen rules l.links b.known

-- a slot whose upper bound is positive overlaps the run
pub record IsOnWay (uppers : List ℕ) (l : LinkList) (run : List ℕ) : Type 0 where
  pub slot : ℕ
  pub inside : slot < l.slots
  pub positive : 1 ≤ slice_index uppers slot
  pub overlaps : Overlaps (walk_of l.links slot) run

-- the sums are those of the box, and what is known of its walks is so
pub record IsSummedUp (i : Instance) (a : OneBox) (b : Beside) : Type 0 where
  pub room : vec_len b.sums.uppers ≡ length a.ranges.items
  pub sums : SumsUp i (place_of a).box b.sums
  pub known : AreSeen i.rules a.links.links b.known
