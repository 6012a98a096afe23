-- Laws of the record of choices.
use Rattle.std.specs.Prelude.{◌≡◌, ◌↔◌, ℕ, ◌+◌, ◌≤◌, ◌<◌, List, [], ◌∷◌, ◌++◌, length, MatchOption, IfSome, IsTrue, Option, Some, None}
use Rattle.decomposition.specs.declared.Token.TheVariants.{Split, Step as TokenStep}
use Rattle.decomposition.specs.declared.Token.{Token}
use Rattle.decomposition.specs.Graph.{Graph, IsNet}
use Rattle.decomposition.specs.Instance.{Instance}
use Rattle.decomposition.specs.Boxes.{Slot, slot_at, upper_at, lower_at}
use Rattle.decomposition.specs.Tokens.{next_edges, with_edge, with_hi, middle, boxes_after, is_legal, after_token}
use Rattle.refute_tree.specs.Front.{others_of}
use Rattle.refute_tree.specs.Choices.{later}
use Rattle.refute_tree.specs.declared.choice.Choice.{Choice}
use Rattle.refute_tree.specs.declared.choice.Choice.TheVariants.{Step, Lower}
use Rattle.refute_tree.specs.Choices.{Place, AreWithin, links_of, stands_for, undone, boxes_at, place_after}

-- a step by the first edge, which is noted, gives the boxes of the token `step`
abbrev pub StepsStandFor : Type 0
StepsStandFor =
    (i : Instance) (b : List Slot) (cs : List Choice) (k e : ℕ) →
    k < length b → next_edges i.graph (slot_at b k).walk ≡ e ∷ later i.graph (slot_at b k).walk e →
    stands_for i.graph (with_edge b k e) (Step k e ∷ cs) ≡ boxes_after i b (TokenStep k) ++ others_of (stands_for i.graph b cs)

-- a lower half, which is noted, gives the boxes of the token `split`
abbrev pub SplitsStandFor : Type 0
SplitsStandFor =
    (i : Instance) (b : List Slot) (cs : List Choice) (k : ℕ) → k < length b →
    stands_for i.graph (with_hi b k (middle b k)) (Lower k (middle b k + 1) (slot_at b k).hi ∷ cs) ≡ boxes_after i b (Split k) ++ others_of (stands_for i.graph b cs)

-- where a place stands for the boxes behind another, with no more choices
pub record Follows (g : Graph) (b : List Slot) (cs : List Choice) (p : Place) : Type 0 where
  pub boxes : stands_for g p.box p.choices ≡ others_of (stands_for g b cs)
  pub slots : length p.box ≡ length b
  pub within : AreWithin (length b) p.choices
  pub few : length p.choices ≤ length cs

-- the undo gives the boxes behind the first, and nothing where there is none
abbrev pub UndoFollows : Type 0
UndoFollows =
    (g : Graph) (b : List Slot) (cs : List Choice) →
    AreWithin (length b) cs → MatchOption (undone g b cs) (others_of (stands_for g b cs) ≡ []) (Follows g b cs)

-- the undo ends with an empty record exactly where the first box is the last
abbrev pub UndoEnds : Type 0
UndoEnds =
    (g : Graph) (b : List Slot) (cs : List Choice) →
    AreWithin (length b) cs → (undone g b cs ≡ None) ↔ (others_of (stands_for g b cs) ≡ [])

-- a place is kept: as many slots, no choice of another slot, and at most one choice more
pub record IsNear (p q : Place) : Type 0 where
  pub slots : length q.box ≡ length p.box
  pub within : AreWithin (length p.box) q.choices
  pub few : length q.choices ≤ length p.choices + 1

-- a token that may be taken turns what a place stands for into the boxes after it
abbrev pub TokensTurnPlaces : Type 0
TokensTurnPlaces =
    (i : Instance) (limit : Option ℕ) (p : Place) (t : Token) →
    IsNet i.graph → AreWithin (length p.box) p.choices → IsTrue (is_legal i limit p.box t) →
    after_token i limit t (stands_for i.graph p.box p.choices) ≡ Some (boxes_at i.graph (place_after i p t))

-- a token that may be taken keeps a place
abbrev pub TokensKeepPlaces : Type 0
TokensKeepPlaces =
    (i : Instance) (limit : Option ℕ) (p : Place) (t : Token) →
    IsNet i.graph → AreWithin (length p.box) p.choices → IsTrue (is_legal i limit p.box t) → IfSome (place_after i p t) (IsNear p)

-- no more links than choices
abbrev pub LinksAreFew : Type 0
LinksAreFew = (cs : List Choice) → length (links_of cs) ≤ length cs

-- a step changes no bound
abbrev pub StepsKeepBounds : Type 0
StepsKeepBounds =
    (b : List Slot) (k e j : ℕ) → (upper_at (with_edge b k e) j ≡ upper_at b j) × (lower_at (with_edge b k e) j ≡ lower_at b j)

-- where only slots up to i have changed and the upper bound of slot i stays, those after it stay
abbrev pub UppersStop : Type 0
UppersStop =
    (b c : List Slot) (i j : ℕ) → length c ≡ length b → ((l : ℕ) → i < l → slot_at c l ≡ slot_at b l) →
    i ≤ j → j < length b → upper_at c i ≡ upper_at b i → upper_at c j ≡ upper_at b j

-- where only slots from i on have changed and the lower bound of slot i stays, those before it stay
abbrev pub LowersStop : Type 0
LowersStop =
    (b c : List Slot) (i j : ℕ) → length c ≡ length b → ((l : ℕ) → l < i → slot_at c l ≡ slot_at b l) →
    j ≤ i → i < length b → lower_at c i ≡ lower_at b i → lower_at c j ≡ lower_at b j
