-- The answers that a box holds.
use Rattle.std.specs.Prelude.{◌≡◌, ℕ, zero, suc, ◌≤◌, ◌<◌, ◌⊎◌, false, cond, nat_le, nat_lt, List, [], ◌∷◌, ◌++◌, length, IsTrue, Option}
use Rattle.std.specs.List.{list_all}
use Rattle.decomposition.specs.declared.Token.{Token}
use Rattle.decomposition.specs.declared.Decision.{Decision}
use Rattle.decomposition.specs.Graph.{Graph, IsPath, edge_count, begins_with, contains_run}
use Rattle.decomposition.specs.Answer.{entry_at, IsAnswer, Covers}
use Rattle.decomposition.specs.Instance.{Instance, error, cap}
use Rattle.decomposition.specs.Boxes.{Slot, slot_at, upper_at}
use Rattle.decomposition.specs.Tokens.{is_legal}
use Rattle.decomposition.specs.Certificates.{rule_at, IsWithin}

-- a box holds a line-up: entries by falling weight, no more than slots and padded with weight 0, each weight within its slot's range, and each entry of a positive weight a path that begins with the slot's walk
pub record Holds (g : Graph) (b : List Slot) (line : List (List ℕ × ℕ)) : Type 0 where
  pub long : length line ≤ length b
  pub falling : (j k : ℕ) → j ≤ k → k < length b → (entry_at line k).1 ≤ (entry_at line j).1
  pub low : (k : ℕ) → k < length b → (slot_at b k).lo ≤ (entry_at line k).1
  pub high : (k : ℕ) → k < length b → (entry_at line k).1 ≤ (slot_at b k).hi
  pub path : (k : ℕ) → k < length b → 1 ≤ (entry_at line k).1 → IsPath g (entry_at line k).0
  pub begins : (k : ℕ) → k < length b → 1 ≤ (entry_at line k).1 → IsTrue (begins_with (entry_at line k).0 (slot_at b k).walk)

-- some box of a list holds a line-up
abbrev pub SomeHolds : Graph → List (List Slot) → List (List ℕ × ℕ) → Type 0
SomeHolds g [] line = ⊥
SomeHolds g (b ∷ bs) line = Holds g b line ⊎ SomeHolds g bs line

-- a line-up answers a decision: each constraint stands in an entry of a positive weight, and the error is within the limit
pub record Answers (i : Instance) (limit : Option ℕ) (line : List (List ℕ × ℕ)) : Type 0 where
  pub covers : (c : ℕ) → c < length i.rules → (k : ℕ) × (k < length line) × (1 ≤ (entry_at line k).1) × IsTrue (contains_run (entry_at line k).0 (rule_at i c))
  pub within : IsWithin limit (error i line)

-- whether no token may be taken at a box
abbrev pub IsOpen : Instance → Option ℕ → List Slot → Type 0
IsOpen i limit b = (t : Token) → is_legal i limit b t ≡ false

-- the paths of a box: the walk of each slot with a positive upper bound, with that bound as its weight
abbrev pub box_paths : List Slot → ℕ → List (List ℕ × ℕ)
box_paths b zero = []
box_paths b (suc n) = box_paths b n ++ cond (nat_le 1 (upper_at b n)) (((slot_at b n).walk, upper_at b n) ∷ []) []

-- the answer of a box; empty where the graph has no edge
abbrev pub box_answer : Instance → List Slot → List (List ℕ × ℕ)
box_answer i b = cond (nat_lt 0 (edge_count i.graph)) (box_paths b (length b)) []

-- what the answer of a box is to be: an answer with few enough paths, none heavier than the cap, that covers with an error within the limit
pub record Settles (i : Instance) (d : Decision) (a : List (List ℕ × ℕ)) : Type 0 where
  pub answer : IsAnswer i.graph a
  pub few : length a ≤ d.slots
  pub light : IsTrue (list_all (λ entry. nat_le entry.1 (cap i)) a)
  pub covers : Covers i.rules a
  pub within : IsWithin d.limit (error i a)
