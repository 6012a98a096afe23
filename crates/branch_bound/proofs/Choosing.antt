-- The rule token of the first box, from what is looked at in turn.
use Rattle.std.proofs.Common.{◌≡◌, ℕ, zero, suc, ◌+◌, ◌-◌, ◌<◌, ◌∙◌, refl, ap₂, arith, Bool, false, cond, List, [], ◌∷◌, length, Option, Some, None}
use Rattle.decomposition.specs.declared.Token.{Token}
use Rattle.decomposition.specs.declared.Token.TheVariants.{Gap, Miss, Split, Step}
use Rattle.decomposition.specs.Boxes.{Slot}
use Rattle.decomposition.specs.Tokens.{first_from, or_else, is_legal, first_legal}
use Rattle.refute_tree.specs.Front.{Boxes, closing}
use Rattle.branch_bound.specs.Rule.{first_taken, rule_of, HasSlots}

-- the first of the numbers from k on that passes, where k fails
pub first_from-fails : (test : ℕ → Bool) (k n : ℕ) → k < n → test k ≡ false → first_from test (k + 1) (n - (k + 1)) ≡ first_from test k (n - k)
first_from-fails test k n inside fails =
    let count : n - k ≡ suc (n - (k + 1)) = omega arith in
    let next : k + 1 ≡ suc k = omega arith in
    rw (count, fails, next) refl

first_from-never : (test : ℕ → Bool) → ((k : ℕ) → test k ≡ false) → (from n : ℕ) → first_from test from n ≡ None
first_from-never test never from zero = refl
first_from-never test never from (suc n) = rw (never from) (first_from-never test never (suc from) n)

or_else-assoc : (a b c : Option Token) → or_else (or_else a b) c ≡ or_else a (or_else b c)
or_else-assoc (Some t) b c = refl
or_else-assoc None b c = refl

-- the token that closes the first box, else the first step, else the first split
rule_of-parts : (f : Boxes) (n : ℕ) → HasSlots f n → or_else (closing f) (or_else (first_taken f Step n) (first_taken f Split n)) ≡ rule_of f
rule_of-parts f n has = go f.boxes has where
  go : (bs : List (List Slot)) → let g = record f { boxes = bs } in HasSlots g n → or_else (closing g) (or_else (first_taken g Step n) (first_taken g Split n)) ≡ rule_of g
  go [] has' = rw (first_from-never (λ k. false) (λ k. refl) 0 n) refl
  go (b ∷ bs) has' = rw (← has' b bs refl) (or_else-assoc (cond (is_legal f.instance f.limit b Gap) (Some Gap) None) (first_legal f.instance f.limit b Miss (length f.instance.rules)) _)

pub rule_of-chosen : (f : Boxes) (n : ℕ) (close step : Option Token) → HasSlots f n → close ≡ closing f → step ≡ first_taken f Step n → or_else close (or_else step (first_taken f Split n)) ≡ rule_of f
rule_of-chosen f n close step has closes steps =
    ap₂ (λ (o p : Option Token). or_else o (or_else p (first_taken f Split n))) closes steps ∙ rule_of-parts f n has
