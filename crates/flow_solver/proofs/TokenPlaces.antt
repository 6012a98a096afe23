-- The slots and rules of legal tokens fit a report.
use Rattle.std.proofs.Common.{◌≡◌, ℕ, zero, suc, ◌<◌, ◌^◌, List, [], ◌∷◌, Option, Some, None, true, nat_lt, length, refl, inl, inr, arith, ltb-true}
use Rattle.std.specs.Prelude.{All, option_and_then}
use Rattle.std.proofs.lemmas.Bool.{cases_Bool, and_parts}
use Rattle.decomposition.specs.declared.Token.{Token}
use Rattle.decomposition.specs.declared.Token.TheVariants.{Gap, Miss, Split, Step}
use Rattle.decomposition.specs.declared.Decision.{Decision}
use Rattle.decomposition.specs.Instance.{Instance}
use Rattle.decomposition.specs.Boxes.{Slot, root_box}
use Rattle.decomposition.specs.Tokens.{is_legal, after_token, after_tokens, boxes_left}
use Rattle.decomposition.proofs.Open.{AllReached, reach_token, root_reached}
use Rattle.report_terms.specs.NetFacts.{IsSmallToken}

-- a legal token
legal_small : (i : Instance) (n : ℕ) (limit : Option ℕ) (b : List Slot) (t : Token) → n < 2 ^ 32 → length i.rules < 2 ^ 32 → length b ≡ n → is_legal i limit b t ≡ true → IsSmallToken t
legal_small i n limit b Gap few rules long legal = tt
legal_small i n limit b (Miss c) few rules long legal = omega (arith, rules, ltb-true c (length i.rules) (and_parts (nat_lt c (length i.rules)) _ legal).0)
legal_small i n limit b (Split k) few rules long legal = omega (arith, few, long, ltb-true k (length b) (and_parts (nat_lt k (length b)) _ legal).0)
legal_small i n limit b (Step k) few rules long legal = omega (arith, few, long, ltb-true k (length b) (and_parts (nat_lt k (length b)) _ legal).0)

-- a token that was applied
applied_small : (i : Instance) (n : ℕ) (limit : Option ℕ) (t : Token) (bs left : List (List Slot)) → n < 2 ^ 32 → length i.rules < 2 ^ 32 → AllReached i n bs → after_token i limit t bs ≡ Some left → IsSmallToken t
applied_small i n limit t [] left few rules all is = absurd (let no' : ⊥ = cc in no')
applied_small i n limit t (b ∷ bs) left few rules all is =
    elim (cases_Bool (is_legal i limit b t)) [
      | inl legal ↦ legal_small i n limit b t few rules all.0.long legal
      | inr not_legal ↦
          let now : ◌≡◌ {A = Option (List (List Slot))} None (Some left) = rw not_legal at is in
          absurd (let no' : ⊥ = cc in no')
    ]

-- one token more in front
one_more : (t : Token) (ts : List Token) → IsSmallToken t → All IsSmallToken ts → All IsSmallToken (t ∷ ts)
one_more t ts here rest zero d there = here
one_more t ts here rest (suc k) d there = rest k d (omega (arith, there))

-- tokens applied one after another
all_small : (i : Instance) (n : ℕ) (limit : Option ℕ) (ts : List Token) (bs left : List (List Slot)) → n < 2 ^ 32 → length i.rules < 2 ^ 32 → AllReached i n bs
    → after_tokens i limit ts bs ≡ Some left → All IsSmallToken ts
all_small i n limit [] bs left few rules all is = λ k d there. absurd (omega (arith, there))
all_small i n limit (t ∷ ts) bs left few rules all is =
    go (λ next held rest. all_small i n limit ts next left few rules held rest) (after_token i limit t bs) refl is where
      go : ((next : List (List Slot)) → AllReached i n next → after_tokens i limit ts next ≡ Some left → All IsSmallToken ts)
          → (r : Option (List (List Slot))) → after_token i limit t bs ≡ r → option_and_then (after_tokens i limit ts) r ≡ Some left → All IsSmallToken (t ∷ ts)
      go rest None e h = absurd (let no' : ⊥ = cc in no')
      go rest (Some next) e h = one_more t ts (applied_small i n limit t bs next few rules all e) (rest next (reach_token i n limit t bs next all e) h)

-- the tokens of a decision that leave boxes, or none
pub tokens_small : (i : Instance) (d : Decision) (ts : List Token) (left : List (List Slot)) → d.slots < 2 ^ 32 → length i.rules < 2 ^ 32 → boxes_left i d ts ≡ Some left → All IsSmallToken ts
tokens_small i d ts left few rules is = all_small i d.slots d.limit ts (root_box i d.slots ∷ []) left few rules (root_reached i d.slots, tt) is
