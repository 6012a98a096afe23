-- What the answer of an applied token tells of the boxes.
use Rattle.std.proofs.Common.{◌≡◌, ◌+◌, ◌∙◌, refl, sym, ap, Bool, true, false, true≢false, List, Option, Some, None}
use Rattle.std.specs.Prelude.{MatchOption}
use Rattle.decomposition.specs.declared.Token.{Token}
use Rattle.decomposition.specs.Boxes.{Slot}
use Rattle.decomposition.specs.Tokens.{after_token}
use Rattle.refute_tree.specs.Front.{Boxes, Applies}

-- the boxes after a token that is legal, and what has stayed
pub record IsAfter (old : Boxes) (t : Token) (new : Boxes) : Type 0 where
  pub left : after_token old.instance old.limit t old.boxes ≡ Some new.boxes
  pub instance : new.instance ≡ old.instance
  pub limit : new.limit ≡ old.limit
  pub room : new.room ≡ old.room
  pub used : new.used ≡ old.used + 1

-- what is said of each result of a token
abbrev Says : Boxes → Boxes → Bool → Option (List (List Slot)) → Type 0
Says old new done r = MatchOption r ((done ≡ false) × (new ≡ old)) (λ left. (done ≡ true) × (new ≡ record old { used = old.used + 1; boxes = left }))

pub applied : (old : Boxes) (t : Token) (new : Boxes) (done : Bool) → Applies old t new done → done ≡ true → IsAfter old t new
applied old t new done says is = go (after_token old.instance old.limit t old.boxes) refl says where
  go : (r : Option (List (List Slot))) → after_token old.instance old.limit t old.boxes ≡ r → Says old new done r → IsAfter old t new
  go None e says' = absurd (true≢false (sym is ∙ says'.0))
  go (Some left) e says' = record {
    left = e ∙ ap Some (sym (ap (λ (f : Boxes). f.boxes) says'.1));
    instance = ap (λ (f : Boxes). f.instance) says'.1;
    limit = ap (λ (f : Boxes). f.limit) says'.1;
    room = ap (λ (f : Boxes). f.room) says'.1;
    used = ap (λ (f : Boxes). f.used) says'.1;
  }

pub refused : (old : Boxes) (t : Token) (new : Boxes) (done : Bool) → Applies old t new done → done ≡ false → after_token old.instance old.limit t old.boxes ≡ None
refused old t new done says is = go (after_token old.instance old.limit t old.boxes) refl says where
  go : (r : Option (List (List Slot))) → after_token old.instance old.limit t old.boxes ≡ r → Says old new done r → r ≡ None
  go None e says' = refl
  go (Some left) e says' = absurd (true≢false (sym says'.0 ∙ is))
