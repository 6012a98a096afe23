-- What the verdict on tokens tells of refutations and trails.
use Rattle.std.proofs.Common.{◌≡◌, ◌+◌, ◌≤◌, ℕ, List, [], ◌∷◌, Option, Some, None, length, take, drop, refl, sym, ap, ◌∙◌, arith, option_map}
use Rattle.std.specs.Prelude.{◌↔◌, IsTrue, IsNone, option_and_then}
use Rattle.std.proofs.lemmas.Bool.{false≢true}
use Rattle.std.proofs.lemmas.List.{take-append-drop}
use Rattle.decomposition.specs.declared.Token.{Token}
use Rattle.decomposition.specs.declared.Decision.{Decision}
use Rattle.decomposition.specs.Instance.{Instance}
use Rattle.decomposition.specs.Boxes.{Slot, root_box}
use Rattle.decomposition.specs.Tokens.{boxes_left, after_tokens, IsRefutation, IsTrail, IsFirstIllegal}
use Rattle.decomposition.proofs.Rules.{after_tokens-append}
use Rattle.cert_check.specs.Tree.{IsVerdictOf, is_refuting, is_pending}
use Rattle.cert_check.specs.declared.tree.TreeVerdict.{TreeVerdict}
use Rattle.cert_check.specs.declared.tree.TreeVerdict.TheVariants.{Refutes, Pending, Illegal}

none_is : {X : Type 0} (o : Option X) → IsNone o → o ≡ None
none_is None h = refl
none_is (Some x) h = cc

module _ (i : Instance) (d : Decision) (ts : List Token) where
  -- behind a token that is not legal there are no boxes
  illegal_none : (k : ℕ) → IsFirstIllegal i d ts k → boxes_left i d ts ≡ None
  illegal_none k first =
      ap (boxes_left i d) (sym (take-append-drop (k + 1) ts))
      ∙ after_tokens-append i d.limit (take (k + 1) ts) (drop (k + 1) ts) (root_box i d.slots ∷ [])
      ∙ ap (option_and_then (after_tokens i d.limit (drop (k + 1) ts))) (none_is (boxes_left i d (take (k + 1) ts)) first.2)

  pub refuting_tells : (v : TreeVerdict) → IsVerdictOf i d ts v → IsTrue (is_refuting v) ↔ IsRefutation i d ts
  refuting_tells Refutes says = (λ _. says, λ _. refl)
  refuting_tells (Pending n) says = (λ h. absurd (false≢true h), λ refutes. absurd (some_left n says.0 (ap (option_map length) (sym refutes) ∙ says.1))) where
    some_left : (n : ℕ) → 1 ≤ n → Some 0 ≡ Some n → ⊥
    some_left n more is = let zero : 0 ≡ n = cc in omega arith
  refuting_tells (Illegal k) says = (λ h. absurd (false≢true h), λ refutes. let none = illegal_none k says in cc)

  -- where boxes are left there is a first one
  first_left : (o : Option (List (List Slot))) (n : ℕ) → 1 ≤ n → option_map length o ≡ Some n → (b : List Slot) × (bs : List (List Slot)) × (o ≡ Some (b ∷ bs))
  first_left None n more is = cc
  first_left (Some []) n more is = absurd (let zero : 0 ≡ n = cc in omega arith)
  first_left (Some (b ∷ bs)) n more is = (b, bs, refl)

  pub pending_tells : (v : TreeVerdict) → IsVerdictOf i d ts v → IsTrue (is_pending v) ↔ IsTrail i d ts
  pending_tells Refutes says = (λ h. absurd (false≢true h), λ trail. let left = trail.2 in cc)
  pending_tells (Pending n) says = (λ _. first_left (boxes_left i d ts) n says.0 says.1, λ _. refl)
  pending_tells (Illegal k) says = (λ h. absurd (false≢true h), λ trail. let left = trail.2 in let none = illegal_none k says in cc)
