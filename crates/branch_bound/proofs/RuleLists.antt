-- More of the rule list, from the boxes that its beginning leaves.
use Rattle.std.proofs.Common.{◌≡◌, ℕ, zero, suc, ◌+◌, refl, ap, arith, true, List, [], ◌∷◌, ◌++◌, length, Option, Some, None}
use Rattle.decomposition.specs.declared.Token.{Token}
use Rattle.decomposition.specs.Instance.{Instance}
use Rattle.decomposition.specs.Boxes.{Slot}
use Rattle.decomposition.specs.Tokens.{boxes_after, after_token, after_tokens, is_legal, rule_token, rule_tokens}
use Rattle.decomposition.proofs.Rules.{rule_token-legal, rule_tokens-Some, rule_tokens-None}

module _ (i : Instance) (limit : Option ℕ) where
  -- a legal token leaves boxes
  pub after_legal : (t : Token) (b : List Slot) (bs : List (List Slot)) → is_legal i limit b t ≡ true → after_token i limit t (b ∷ bs) ≡ Some (boxes_after i b t ++ bs)
  after_legal t b bs legal = rw legal refl

  -- what a beginning of k tokens leaves has the rest of the list
  pub rule_tokens-more : (k m n : ℕ) (bs left : List (List Slot)) → n ≡ k + m → length (rule_tokens i limit k bs) ≡ k → after_tokens i limit (rule_tokens i limit k bs) bs ≡ Some left
      → rule_tokens i limit n bs ≡ rule_tokens i limit k bs ++ rule_tokens i limit m left
  rule_tokens-more zero m n bs left is full after =
      let same : bs ≡ left = cc in
      let count : n ≡ m = omega arith in
      rw (same, count) refl
  rule_tokens-more (suc k) m zero bs left is full after = absurd (omega arith)
  rule_tokens-more (suc k) m (suc n) [] left is full after = absurd (omega arith)
  rule_tokens-more (suc k) m (suc n) (b ∷ bs) left is full after = go (λ next count rest. rule_tokens-more k m n next left (omega arith) count rest) (rule_token i limit b) refl where
    go : ((next : List (List Slot)) → length (rule_tokens i limit k next) ≡ k → after_tokens i limit (rule_tokens i limit k next) next ≡ Some left → rule_tokens i limit n next ≡ rule_tokens i limit k next ++ rule_tokens i limit m left)
        → (o : Option Token) → rule_token i limit b ≡ o → rule_tokens i limit (suc n) (b ∷ bs) ≡ rule_tokens i limit (suc k) (b ∷ bs) ++ rule_tokens i limit m left
    go more None e = absurd (omega (arith, rw (rule_tokens-None i limit k b bs e) at full))
    go more (Some t) e =
        let next = boxes_after i b t ++ bs in
        let count : length (rule_tokens i limit k next) ≡ k = omega (arith, rw (rule_tokens-Some i limit k b bs t e) at full) in
        let rest : after_tokens i limit (rule_tokens i limit k next) next ≡ Some left = rw (rule_tokens-Some i limit k b bs t e, rule_token-legal i limit b t e) at after in
        rw (rule_tokens-Some i limit n b bs t e, rule_tokens-Some i limit k b bs t e)
        (ap (λ ts. t ∷ ts) (more next count rest))
