-- The list of boxes of a decision, and what may be done at the first of them.
use Rattle.std.specs.Prelude.{◌≡◌, ◌≢◌, ℕ, ◌+◌, Bool, true, false, not, ◌&&◌, nat_lt, nat_le, cond, List, [], ◌∷◌, length, MatchOption, Option, Some, None, IsTrue}
use Rattle.decomposition.specs.declared.Token.{Token}
use Rattle.decomposition.specs.declared.Token.TheVariants.{Gap, Miss}
use Rattle.decomposition.specs.declared.Decision.{Decision}
use Rattle.decomposition.specs.Graph.{Graph}
use Rattle.decomposition.specs.declared.Mode.{Mode}
use Rattle.decomposition.specs.Instance.{Instance, IsInstance}
use Rattle.decomposition.specs.Boxes.{Slot, slot_at, upper_at, root_box}
use Rattle.decomposition.specs.Tokens.{can_branch, is_finished, is_legal, after_token, boxes_left, or_else, first_legal}
use Rattle.decomposition.specs.Held.{IsOpen, box_answer, Settles}

-- what a front stands for: the instance, the slots and the limit of a decision, the boxes, the tokens applied and how many there may be
pub record Boxes : Type 0 where
  pub instance : Instance
  pub slots : ℕ
  pub limit : Option ℕ
  pub room : ℕ
  pub used : ℕ
  pub boxes : List (List Slot)

-- the root box alone, and no token applied
abbrev pub root_of : Instance → Decision → ℕ → Boxes
root_of i d room = record { instance = i; slots = d.slots; limit = d.limit; room = room; used = 0; boxes = root_box i d.slots ∷ [] }

-- the first box; without one the box of no slots
abbrev pub first_of : List (List Slot) → List Slot
first_of [] = []
first_of (b ∷ bs) = b

-- whether a token may be taken at the first box
abbrev pub may_take : Boxes → Token → Bool
may_take f t = elim f.boxes [ [] ↦ false | b ∷ bs ↦ is_legal f.instance f.limit b t ]

-- whether a slot may have weight, and its walk has not reached a sink
abbrev pub is_unfinished : Graph → List Slot → ℕ → Bool
is_unfinished g b k = nat_le 1 (upper_at b k) && not (is_finished g (slot_at b k).walk)

-- whether there is a first box with a slot of that number, and it can be branched
abbrev pub may_branch : Boxes → ℕ → Bool
may_branch f k = elim f.boxes [ [] ↦ false | b ∷ bs ↦ nat_lt k (length b) && can_branch f.instance f.limit b ]

-- the token that closes a box: the gap, else the first miss, of those that are legal
abbrev pub closing_token : Instance → Option ℕ → List Slot → Option Token
closing_token i limit b = or_else (cond (is_legal i limit b Gap) (Some Gap) None) (first_legal i limit b Miss (length i.rules))

-- the token that closes the first box
abbrev pub closing : Boxes → Option Token
closing f = elim f.boxes [ [] ↦ None | b ∷ bs ↦ closing_token f.instance f.limit b ]

-- a token is applied where it is legal, and changes nothing where it is not
abbrev pub Applies : Boxes → Token → Boxes → Bool → Type 0
Applies old t new done =
    MatchOption (after_token old.instance old.limit t old.boxes)
    ((done ≡ false) × (new ≡ old))
    (λ left. (done ≡ true) × (new ≡ record old { used = old.used + 1; boxes = left }))

-- the decision of a front
abbrev pub decision_of : Boxes → Decision
decision_of f = record { slots = f.slots; limit = f.limit }

-- the boxes are those that legal tokens, as many as were applied, leave of the root box of the decision
pub record AreLeft (f : Boxes) : Type 0 where
  pub tokens : List Token
  pub count : length tokens ≡ f.used
  pub left : boxes_left f.instance (decision_of f) tokens ≡ Some f.boxes

-- an answer that settles the decision of a front: paths of the net, few enough, none heavier than the cap, that cover with an error within the limit
abbrev pub SettlesFront : Boxes → List (List ℕ × ℕ) → Type 0
SettlesFront f a = (mode : Mode) → IsInstance mode f.instance → Settles f.instance (decision_of f) a

-- there is a first box, and no token may be taken at it
pub record IsFirstOpen (f : Boxes) : Type 0 where
  pub some : f.boxes ≢ []
  pub open' : IsOpen f.instance f.limit (first_of f.boxes)

-- there is a first box at which no token may be taken, and this is its answer
pub record IsOpenAnswer (f : Boxes) (a : List (List ℕ × ℕ)) : Type 0 where
  pub first : List Slot
  pub others : List (List Slot)
  pub boxes : f.boxes ≡ first ∷ others
  pub open' : IsOpen f.instance f.limit first
  pub answer : a ≡ box_answer f.instance first

-- there is no box, or some token may be taken at the first
abbrev pub IsClosedOrNone : Boxes → Type 0
IsClosedOrNone f = (b : List Slot) (bs : List (List Slot)) → f.boxes ≡ b ∷ bs → (t : Token) × IsTrue (is_legal f.instance f.limit b t)

-- the boxes after the first
abbrev pub others_of : List (List Slot) → List (List Slot)
others_of [] = []
others_of (b ∷ bs) = bs
