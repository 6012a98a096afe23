-- What the fields of a search keep as it goes on, and what they tell once it has ended.
use Rattle.std.proofs.Common.{◌≡◌, ℕ, zero, suc, ◌+◌, ◌-◌, ◌<◌, ◌∙◌, refl, sym, ap, subst, arith, inl, inr, Bool, List, [], ◌∷◌, ◌++◌, length, Option, Some, None}
use Rattle.std.proofs.lemmas.List.{append-nil, length_push}
use Rattle.std.proofs.lemmas.Bool.{cases_Bool}
use Rattle.decomposition.specs.declared.Token.{Token}
use Rattle.decomposition.specs.declared.Decision.{Decision}
use Rattle.decomposition.specs.Boxes.{Slot, root_box}
use Rattle.decomposition.specs.Tokens.{boxes_after, after_token, rule_token, rule_tokens, rule_list}
use Rattle.decomposition.proofs.Open.{AllReached, reach_tokens, root_reached}
use Rattle.decomposition.proofs.Rules.{rule_token-legal, rule_tokens-Some, rule_tokens-None, after_tokens_push}
use Rattle.refute_tree.specs.Front.{Boxes, Applies}
use Rattle.refute_tree.proofs.Applying.{IsAfter, applied, refused}
use Rattle.branch_bound.specs.Rule.{rule_of, HasSlots}
use Rattle.branch_bound.specs.Kept.{Agree}
use Rattle.branch_bound.specs.declared.search.Outcome.{Outcome}
use Rattle.branch_bound.proofs.RuleLists.{after_legal, rule_tokens-more}

-- the first box, and its rule token
pub record HasRule (f : Boxes) (t : Token) : Type 0 where
  pub first : List Slot
  pub others : List (List Slot)
  pub boxes : f.boxes ≡ first ∷ others
  pub rule : rule_token f.instance f.limit first ≡ Some t

pub rule_of-Some : (f : Boxes) (t : Token) → rule_of f ≡ Some t → HasRule f t
rule_of-Some f t is = go f.boxes refl is where
  go : (bs : List (List Slot)) → f.boxes ≡ bs → rule_of (record f { boxes = bs }) ≡ Some t → HasRule f t
  go [] e is' = absurd (let no' : ⊥ = cc in no')
  go (b ∷ bs) e is' = record { first = b; others = bs; boxes = e; rule = is' }

-- the rule token is legal, so it is applied
rule_legal : (f : Boxes) (t : Token) → (has : HasRule f t) → after_token f.instance f.limit t f.boxes ≡ Some (boxes_after f.instance has.first t ++ has.others)
rule_legal f t has =
    ap (after_token f.instance f.limit t) has.boxes
    ∙ after_legal f.instance f.limit t has.first has.others (rule_token-legal f.instance f.limit has.first t has.rule)

pub rule_applied : (f new : Boxes) (t : Token) (done : Bool) → rule_of f ≡ Some t → Applies f t new done → IsAfter f t new
rule_applied f new t done rule applies =
    elim (cases_Bool done) [
      | inl legal ↦ applied f t new done applies legal
      | inr not_legal ↦ absurd (both (after_token f.instance f.limit t f.boxes) _ (refused f t new done applies not_legal) (rule_legal f t (rule_of-Some f t rule)))
    ]
  where
    both : (o : Option (List (List Slot))) (left : List (List Slot)) → o ≡ None → o ≡ Some left → ⊥
    both o left none some = let no' : ⊥ = cc in no'

-- without a rule token no list goes on
rule_of-None : (f : Boxes) (m : ℕ) → rule_of f ≡ None → rule_tokens f.instance f.limit m f.boxes ≡ []
rule_of-None f m none = go m f.boxes none where
  go : (m : ℕ) (bs : List (List Slot)) → rule_of (record f { boxes = bs }) ≡ None → rule_tokens f.instance f.limit m bs ≡ []
  go zero bs none' = refl
  go (suc m) [] none' = refl
  go (suc m) (b ∷ bs) none' = rule_tokens-None f.instance f.limit m b bs none'

module _ (f : Boxes) (d : Decision) (nodes : ℕ) (ts : List Token) (outcome : Option Outcome) (agree : Agree f d nodes ts outcome) where
  -- every box has a slot for each path
  pub has_slots : HasSlots f d.slots
  has_slots b bs is =
      let all : AllReached f.instance d.slots f.boxes = reach_tokens f.instance d.slots d.limit ts (root_box f.instance d.slots ∷ []) f.boxes (root_reached f.instance d.slots, tt) agree.left in
      let first : AllReached f.instance d.slots (b ∷ bs) = subst (AllReached f.instance d.slots) is all in
      first.0.long

  -- the rule list from here on
  goes_on : (m n : ℕ) → n ≡ length ts + m → rule_list f.instance d n ≡ ts ++ rule_tokens f.instance f.limit m f.boxes
  goes_on m n is =
      let list : rule_list f.instance d (length ts) ≡ ts = sym agree.begun in
      rule_tokens-more f.instance d.limit (length ts) m n (root_box f.instance d.slots ∷ []) f.boxes is (ap length list) (rw list agree.left)
      ∙ rw (list, agree.limit) refl

  pub agree_more : (new : Boxes) (t : Token) → outcome ≡ None → rule_of f ≡ Some t → f.used < nodes → IsAfter f t new → Agree new d nodes (ts ++ t ∷ []) outcome
  agree_more new t none rule less after =
      let has = rule_of-Some f t rule in
      let count : length (ts ++ t ∷ []) ≡ length ts + 1 = length_push ts t in
      record {
        limit = after.limit ∙ agree.limit;
        room = after.room ∙ agree.room;
        used = omega (arith, after.used, agree.used);
        few = omega (arith, agree.used);
        left = rw after.instance (after_tokens_push f.instance d.limit ts t (root_box f.instance d.slots ∷ []) f.boxes agree.left ∙ (rw (← agree.limit) after.left));
        begun = sym (rw (after.instance, count) (goes_on 1 (length ts + 1) refl ∙ ap (λ us. ts ++ us) (rw has.boxes (rule_tokens-Some f.instance f.limit 0 has.first has.others t has.rule))));
        ended = rw none tt;
      }

  -- where there is no rule token, the list is whole
  pub whole : rule_of f ≡ None → ts ≡ rule_list f.instance d nodes
  whole none = sym (goes_on (nodes - length ts) nodes (omega (arith, agree.few)) ∙ ap (λ us. ts ++ us) (rule_of-None f (nodes - length ts) none) ∙ append-nil ts)
