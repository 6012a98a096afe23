-- The token that closes a box, and whether a box may be branched.
use Rattle.std.proofs.Common.{◌≡◌, ℕ, zero, suc, ◌+◌, ◌<◌, ◌≤◌, Bool, true, false, not, ◌&&◌, nat_lt, List, length, Option, Some, None, is_none, option_and_then, refl, ap, arith, inl, inr, lt-ltb, ltb-true, subst}
use Rattle.std.proofs.lemmas.Bool.{cases_Bool, cases_eq, and_from, and_parts, and_right, or_left, or_right, or_from, both_ways}
use Rattle.decomposition.specs.declared.Token.TheVariants.{Miss}
use Rattle.decomposition.specs.Instance.{Instance}
use Rattle.decomposition.specs.Boxes.{Slot, gap, misses}
use Rattle.decomposition.specs.Tokens.{is_above, is_legal, misses_some, first_from}
use Rattle.decomposition.proofs.Rules.{first_from-Some, first_from-None}
use Rattle.refute_tree.specs.Front.{closing_token}

-- the first number that passes, and no number that passes
first_from-found : (test : ℕ → Bool) (from n k : ℕ) → from ≤ k → k < from + n → ((j : ℕ) → from ≤ j → j < k → test j ≡ false) → test k ≡ true → first_from test from n ≡ Some k
first_from-found test from zero k low high before passes = absurd (omega arith)
first_from-found test from (suc n) k low high before passes =
    elim (cases_eq from k) [
      | inl same ↦ rw (same, passes) refl
      | inr other ↦ rw (before from (omega arith) (omega arith)) (first_from-found test (suc from) n k (omega arith) (omega arith) (λ j l m. before j (omega arith) m) passes)
    ]

pub first_from-missing : (test : ℕ → Bool) (from n : ℕ) → ((j : ℕ) → from ≤ j → j < from + n → test j ≡ false) → first_from test from n ≡ None
first_from-missing test from zero none = refl
first_from-missing test from (suc n) none =
    rw (none from (omega arith) (omega arith)) (first_from-missing test (suc from) n (λ j l m. none j (omega arith) (omega arith)))

-- a rule is missed where it is a rule and no slot may contain it
legal_miss : (i : Instance) (limit : Option ℕ) (b : List Slot) (c : ℕ) → misses i b c ≡ false → is_legal i limit b (Miss c) ≡ false
legal_miss i limit b c none = and_right (nat_lt c (length i.rules)) (misses i b c) none

pub closing_token-miss : (i : Instance) (limit : Option ℕ) (b : List Slot) (c : ℕ) → is_above limit (gap i b) ≡ false → c < length i.rules
    → ((j : ℕ) → j < c → misses i b j ≡ false) → misses i b c ≡ true → closing_token i limit b ≡ Some (Miss c)
closing_token-miss i limit b c low rule before missed =
    let found : first_from (λ k. is_legal i limit b (Miss k)) 0 (length i.rules) ≡ Some c
    = first_from-found (λ k. is_legal i limit b (Miss k)) 0 (length i.rules) c (omega arith) (omega arith)
    (λ j _ l. legal_miss i limit b j (before j l)) (and_from (nat_lt c (length i.rules)) (misses i b c) (lt-ltb c (length i.rules) rule) missed) in
    rw low (ap (option_and_then (λ k. Some (Miss k))) found)

pub closing_token-none : (i : Instance) (limit : Option ℕ) (b : List Slot) → is_above limit (gap i b) ≡ false → ((j : ℕ) → j < length i.rules → misses i b j ≡ false)
    → closing_token i limit b ≡ None
closing_token-none i limit b low none =
    let missing : first_from (λ k. is_legal i limit b (Miss k)) 0 (length i.rules) ≡ None
    = first_from-missing (λ k. is_legal i limit b (Miss k)) 0 (length i.rules) (λ j _ l. legal_miss i limit b j (none j (omega arith))) in
    rw low (ap (option_and_then (λ k. Some (Miss k))) missing)

misses_some-found : (i : Instance) (b : List Slot) (n c : ℕ) → c < n → misses i b c ≡ true → misses_some i b n ≡ true
misses_some-found i b zero c l missed = absurd (omega arith)
misses_some-found i b (suc n) c l missed =
    elim (cases_eq c n) [
      | inl same ↦ or_left (misses i b n) (misses_some i b n) (subst (λ m. misses i b m ≡ true) same missed)
      | inr other ↦ or_right (misses i b n) (misses_some i b n) (misses_some-found i b n c (omega arith) missed)
    ]

misses_some-none : (i : Instance) (b : List Slot) (n : ℕ) → ((c : ℕ) → c < n → misses i b c ≡ false) → misses_some i b n ≡ false
misses_some-none i b zero none = refl
misses_some-none i b (suc n) none = or_from (misses i b n) (misses_some i b n) (none n (omega arith)) (misses_some-none i b n (λ c l. none c (omega arith)))

-- no token closes a box where its gap is not above the limit and no rule is missed
pub closing_token-open : (i : Instance) (limit : Option ℕ) (b : List Slot)
    → is_none (closing_token i limit b) ≡ (not (is_above limit (gap i b)) && not (misses_some i b (length i.rules)))
closing_token-open i limit b =
    elim (cases_Bool (is_above limit (gap i b))) [
      | inl above ↦ rw above refl
      | inr low ↦ rw low (go (first_from (λ k. is_legal i limit b (Miss k)) 0 (length i.rules)) refl)
    ]
  where
    go : (o : Option ℕ) → first_from (λ k. is_legal i limit b (Miss k)) 0 (length i.rules) ≡ o
        → is_none (option_and_then (λ k. Some (Miss k)) (first_from (λ k. is_legal i limit b (Miss k)) 0 (length i.rules))) ≡ not (misses_some i b (length i.rules))
    go None e =
        let none : misses_some i b (length i.rules) ≡ false = misses_some-none i b (length i.rules) (λ c l. no_miss c l (first_from-None (λ k. is_legal i limit b (Miss k)) 0 (length i.rules) e c (omega arith) (omega arith))) in
        rw (e, none) refl
      where
        no_miss : (c : ℕ) → c < length i.rules → is_legal i limit b (Miss c) ≡ false → misses i b c ≡ false
        no_miss c l illegal = elim (cases_Bool (misses i b c)) [
          | inl missed ↦ absurd (both_ways _ illegal (and_from (nat_lt c (length i.rules)) (misses i b c) (lt-ltb c (length i.rules) l) missed))
          | inr none ↦ none
        ]
    go (Some c) e =
        let legal : (nat_lt c (length i.rules) ≡ true) × (misses i b c ≡ true) = and_parts (nat_lt c (length i.rules)) (misses i b c) (first_from-Some (λ k. is_legal i limit b (Miss k)) 0 (length i.rules) c e) in
        let some : misses_some i b (length i.rules) ≡ true = misses_some-found i b (length i.rules) c (ltb-true c (length i.rules) legal.0) legal.1 in
        rw (e, some) refl
