-- When no token may be taken at a box, and its answer.
use Rattle.std.proofs.Common.{◌≡◌, ℕ, ◌<◌, Bool, true, false, cond, not, ◌&&◌, nat_lt, nat_le, List, [], length, Option, Some, None, is_none, is_some, option_and_then, refl, sym, ap, subst, ◌∙◌, arith, lt-ltb, true≢false}
use Rattle.std.proofs.lemmas.Bool.{and_left, and_right}
use Rattle.decomposition.specs.declared.Token.{Token}
use Rattle.decomposition.specs.declared.Token.TheVariants.{Gap, Miss, Split, Step}
use Rattle.decomposition.specs.Graph.{edge_count}
use Rattle.decomposition.specs.Instance.{Instance}
use Rattle.decomposition.specs.Boxes.{Slot, slot_at, lower_at, upper_at}
use Rattle.decomposition.specs.Tokens.{is_legal, is_finished, can_branch, or_else, first_legal, rule_token}
use Rattle.decomposition.specs.Held.{IsOpen}
use Rattle.decomposition.proofs.Rules.{rule_token-legal, rule_token-None}
use Rattle.refute_tree.specs.Front.{Boxes, first_of, is_unfinished, closing_token, IsClosedOrNone}
use Rattle.refute_tree.proofs.ClosingTokens.{first_from-missing, closing_token-open}

-- the rule token is the one that closes the box, where there is one
rule_token-parts : (i : Instance) (limit : Option ℕ) (b : List Slot)
    → rule_token i limit b ≡ or_else (closing_token i limit b) (or_else (first_legal i limit b Step (length b)) (first_legal i limit b Split (length b)))
rule_token-parts i limit b =
    or_else-assoc (cond (is_legal i limit b Gap) (Some Gap) None) (first_legal i limit b Miss (length i.rules)) (or_else (first_legal i limit b Step (length b)) (first_legal i limit b Split (length b)))
  where
    or_else-assoc : (o p q : Option Token) → or_else o (or_else p q) ≡ or_else (or_else o p) q
    or_else-assoc (Some t) p q = refl
    or_else-assoc None p q = refl

pub closing_token-legal : (i : Instance) (limit : Option ℕ) (b : List Slot) (t : Token) → closing_token i limit b ≡ Some t → is_legal i limit b t ≡ true
closing_token-legal i limit b t is =
    rule_token-legal i limit b t (rule_token-parts i limit b ∙ ap (λ o. or_else o (or_else (first_legal i limit b Step (length b)) (first_legal i limit b Split (length b)))) is)

first_legal-none : (i : Instance) (limit : Option ℕ) (b : List Slot) (kind : ℕ → Token) (n : ℕ) → ((k : ℕ) → k < n → is_legal i limit b (kind k) ≡ false) → first_legal i limit b kind n ≡ None
first_legal-none i limit b kind n none =
    ap (option_and_then (λ k. Some (kind k))) (first_from-missing (λ k. is_legal i limit b (kind k)) 0 n (λ k _ l. none k (omega arith)))

-- where no token closes a box, and no slot may be split or go on, no token may be taken
pub open-from : (i : Instance) (limit : Option ℕ) (b : List Slot) → closing_token i limit b ≡ None
    → ((k : ℕ) → k < length b → (is_legal i limit b (Split k) ≡ false) × (is_legal i limit b (Step k) ≡ false)) → IsOpen i limit b
open-from i limit b none each =
    let steps : first_legal i limit b Step (length b) ≡ None = first_legal-none i limit b Step (length b) (λ k l. (each k l).1) in
    let splits : first_legal i limit b Split (length b) ≡ None = first_legal-none i limit b Split (length b) (λ k l. (each k l).0) in
    rule_token-None i limit b (rule_token-parts i limit b ∙ rw (none, steps, splits) refl)

-- a slot with equal bounds that has no weight or has reached a sink
pub no_branch : (i : Instance) (limit : Option ℕ) (b : List Slot) (k : ℕ) → nat_lt (lower_at b k) (upper_at b k) ≡ false → is_unfinished i.graph b k ≡ false
    → (is_legal i limit b (Split k) ≡ false) × (is_legal i limit b (Step k) ≡ false)
no_branch i limit b k same done = (
  and_right (nat_lt k (length b)) _ (and_left (nat_lt (lower_at b k) (upper_at b k)) (can_branch i limit b) same),
  and_right (nat_lt k (length b)) _ (regroup (nat_le 1 (upper_at b k)) (not (is_finished i.graph (slot_at b k).walk)) (can_branch i limit b) done),
) where
  regroup : (x y z : Bool) → (x && y) ≡ false → (x && (y && z)) ≡ false
  regroup true y z h = and_left y z h
  regroup false y z h = refl

-- a box that no token closes can be branched where there is an edge
pub can-from : (i : Instance) (limit : Option ℕ) (b : List Slot) → closing_token i limit b ≡ None → 0 < edge_count i.graph → can_branch i limit b ≡ true
can-from i limit b none edges = rw (lt-ltb 0 (edge_count i.graph) edges) (sym (closing_token-open i limit b) ∙ ap is_none none)

pub none-from : {X : Type 0} (o : Option X) → is_some o ≡ false → o ≡ None
none-from None h = refl
none-from (Some x) h = absurd (true≢false h)

pub some-from : {X : Type 0} (o : Option X) → is_some o ≡ true → (x : X) × (o ≡ Some x)
some-from None h = absurd (true≢false (sym h))
some-from (Some x) h = (x, refl)

-- a front without a box, and one with a legal token
pub closed-none : (f : Boxes) → f.boxes ≡ [] → IsClosedOrNone f
closed-none f none b bs is = absurd (let no' : ⊥ = cc in no')

pub closed-by : (f : Boxes) (t : Token) → is_legal f.instance f.limit (first_of f.boxes) t ≡ true → IsClosedOrNone f
closed-by f t legal b bs is = (t, subst (λ (boxes : List (List Slot)). is_legal f.instance f.limit (first_of boxes) t ≡ true) is legal)
