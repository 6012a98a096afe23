-- What a front has after a legal token.
use Rattle.std.proofs.Common.{◌≡◌, ℕ, ◌+◌, ◌≤◌, Bool, true, false, cond, List, [], ◌∷◌, ◌++◌, length, Option, None, Some, refl, sym, ap, ◌∙◌, subst, arith, true≢false}
use Rattle.std.specs.Prelude.{MatchOption, IfSome}
use Rattle.std.proofs.lemmas.List.{length-reverse, length_push}
use Rattle.decomposition.proofs.Open.{open_boxes_answer}
use Rattle.decomposition.proofs.Rules.{after_tokens_push}
use Rattle.decomposition.specs.declared.Token.{Token}
use Rattle.decomposition.specs.Graph.{Graph, IsNet}
use Rattle.decomposition.specs.Instance.{Instance}
use Rattle.decomposition.specs.Boxes.{Slot, root_box}
use Rattle.decomposition.specs.Tokens.{is_legal, after_token}
use Rattle.refute_tree.specs.declared.one_box.OneBox.{OneBox}
use Rattle.refute_tree.specs.declared.front.Front.TheInside.{Inside}
use Rattle.refute_tree.specs.Choices.{Place, AreWithin, boxes_at, place_after}
use Rattle.refute_tree.specs.OneBox.{place_of, boxes_of, IsOneBox, Comes}
use Rattle.refute_tree.specs.Front.{Boxes, Applies, decision_of, AreLeft, IsOpenAnswer, SettlesFront}
use Rattle.refute_tree.specs.Kept.{shown}
use Rattle.refute_tree.proofs.Laws.{IsNear}
use Rattle.refute_tree.proofs.Leading.{box-length}
use Rattle.refute_tree.proofs.Undoing.{tokens_turn_places, tokens_keep_places}

-- the box is replaced by the next one, and the choices are at most one more
pub record Came (i : Instance) (limit : Option ℕ) (old new : OneBox) (t : Token) : Type 0 where
  pub box : IsOneBox i.graph new
  pub room : new.links.room ≡ old.links.room
  pub slots : length new.ranges.items ≡ length old.ranges.items
  pub few : length new.choices.items ≤ length old.choices.items + 1
  pub boxes : after_token i limit t (boxes_of i.graph old) ≡ Some (boxes_of i.graph new)

-- what is said of the place after a token
abbrev pub Says : Graph → OneBox → OneBox → Bool → Option Place → Type 0
Says g old new done r = MatchOption r (done ≡ false) (λ p. (done ≡ true) × Comes g old new p)

module _ (i : Instance) (limit : Option ℕ) (old : OneBox) (t : Token) (net : IsNet i.graph) (kept : IsOneBox i.graph old) (legal : is_legal i limit (place_of old).box t ≡ true) where
  within : AreWithin (length (place_of old).box) (place_of old).choices
  within = subst (λ n. AreWithin n (place_of old).choices) (sym (box-length old.ranges.items old.links.links)) kept.within

  turned : after_token i limit t (boxes_of i.graph old) ≡ Some (boxes_at i.graph (place_after i (place_of old) t))
  turned = tokens_turn_places i limit (place_of old) t net within legal

  pub came : (new : OneBox) (done : Bool) → Says i.graph old new done (place_after i (place_of old) t) → done ≡ true → Came i limit old new t
  came new done says is = go (place_after i (place_of old) t) refl says (tokens_keep_places i limit (place_of old) t net within legal) where
    go : (r : Option Place) → place_after i (place_of old) t ≡ r → Says i.graph old new done r → IfSome r (IsNear (place_of old)) → Came i limit old new t
    go None e says' near = absurd (true≢false (sym is ∙ says'))
    go (Some p) e says' near =
        let comes = says'.1 in
        record {
          box = comes.box;
          room = comes.room;
          slots = omega (
            arith,
            box-length old.ranges.items old.links.links,
            box-length new.ranges.items new.links.links,
            ap (λ (q : Place). length q.box) comes.place,
            near.slots,
          );
          few = omega (arith, ap (λ (q : Place). length q.choices) comes.place, near.few, length-reverse new.choices.items, length-reverse old.choices.items);
          boxes = turned ∙ ap (λ r. Some (boxes_at i.graph r)) e ∙ ap (λ (q : Place). Some (boxes_at i.graph (Some q))) (sym comes.place);
        }

  pub gone : (new : OneBox) (done : Bool) → Says i.graph old new done (place_after i (place_of old) t) → done ≡ false → after_token i limit t (boxes_of i.graph old) ≡ Some []
  gone new done says is = go (place_after i (place_of old) t) refl says where
    go : (r : Option Place) → place_after i (place_of old) t ≡ r → Says i.graph old new done r → after_token i limit t (boxes_of i.graph old) ≡ Some []
    go None e says' = turned ∙ ap (λ r. Some (boxes_at i.graph r)) e
    go (Some p) e says' = absurd (true≢false (sym says'.0 ∙ is))

-- a token that was applied: what is kept stands for the boxes after it
pub applies : (old f new : Boxes) (t : Token) (left : List (List Slot)) → old ≡ f → after_token old.instance old.limit t old.boxes ≡ Some left → new ≡ record old { used = old.used + 1; boxes = left } → Applies f t new true
applies old f new t left view after is =
    subst (λ (x : Boxes). Applies x t new true) view
    (subst (λ r. MatchOption r ((true ≡ false) × (new ≡ old)) (λ l. (true ≡ true) × (new ≡ record old { used = old.used + 1; boxes = l }))) (sym after) (refl, is))

-- the boxes that are kept where there is a first one
pub kept-boxes : (a : Inside) → a.has_first ≡ true → (shown a).boxes ≡ boxes_of a.net.now a.one
kept-boxes a has = ap (λ (b : Bool). cond b (boxes_of a.net.now a.one) []) has

-- the boxes after one token more
pub left_more : (f new : Boxes) (t : Token) (left : List (List Slot)) → AreLeft f → after_token f.instance f.limit t f.boxes ≡ Some left → new ≡ record f { used = f.used + 1; boxes = left } → AreLeft new
left_more f new t left before after is = subst AreLeft (sym is) (record {
  tokens = before.tokens ++ t ∷ [];
  count = length_push before.tokens t ∙ omega (arith, before.count);
  left = after_tokens_push f.instance f.limit before.tokens t (root_box f.instance f.slots ∷ []) f.boxes before.left ∙ after;
})

-- the answer of an open first box settles the decision
pub settles_open : (f : Boxes) (a : List (List ℕ × ℕ)) → AreLeft f → IsOpenAnswer f a → SettlesFront f a
settles_open f a left open' mode valid =
    rw open'.answer (open_boxes_answer mode f.instance (decision_of f) left.tokens open'.first open'.others valid (left.left ∙ ap Some open'.boxes) open'.open')
