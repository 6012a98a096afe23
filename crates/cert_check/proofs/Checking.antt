-- Tokens that are applied one after another: what each answer tells of those so far.
use Rattle.std.proofs.Common.{◌≡◌, ℕ, ◌+◌, ◌<◌, ◌≤◌, ◌∙◌, refl, sym, ap, subst, arith, List, [], ◌∷◌, length, take, get_or, Some, None, option_map}
use Rattle.std.specs.Prelude.{IsSome, IsNone}
use Rattle.std.proofs.lemmas.List.{take_more, take_all}
use Rattle.decomposition.specs.declared.Token.{Token}
use Rattle.decomposition.specs.declared.Decision.{Decision}
use Rattle.decomposition.specs.Instance.{Instance}
use Rattle.decomposition.specs.Boxes.{Slot, root_box}
use Rattle.decomposition.specs.Tokens.{after_token, boxes_left, IsFirstIllegal}
use Rattle.decomposition.proofs.Root.{refutations_refute}
use Rattle.decomposition.proofs.Rules.{after_tokens_push}
use Rattle.refute_tree.specs.Front.{Boxes, root_of}
use Rattle.refute_tree.proofs.Applying.{IsAfter}
use Rattle.cert_check.specs.Tree.{IsVerdictOf, IsRefuted, verdict_of}
use Rattle.cert_check.specs.declared.tree.TreeVerdict.{TreeVerdict}
use Rattle.cert_check.specs.declared.tree.TreeVerdict.TheVariants.{Refutes}

-- the boxes are those that the first k tokens leave
pub record IsChecked (i : Instance) (d : Decision) (ts : List Token) (k : ℕ) (f : Boxes) : Type 0 where
  pub instance : f.instance ≡ i
  pub limit : f.limit ≡ d.limit
  pub room : f.room ≡ length ts
  pub used : f.used ≡ k
  pub left : boxes_left i d (take k ts) ≡ Some f.boxes

module _ (i : Instance) (d : Decision) (ts : List Token) where
  pub checked_none : (f : Boxes) → f ≡ root_of i d (length ts) → IsChecked i d ts 0 f
  checked_none f is = record {
    instance = ap (λ (g : Boxes). g.instance) is;
    limit = ap (λ (g : Boxes). g.limit) is;
    room = ap (λ (g : Boxes). g.room) is;
    used = ap (λ (g : Boxes). g.used) is;
    left = ap Some (sym (ap (λ (g : Boxes). g.boxes) is));
  }

  -- the next token is applied to those boxes
  next_left : (k : ℕ) (f : Boxes) (t : Token) → IsChecked i d ts k f → k < length ts → boxes_left i d (take (k + 1) ts) ≡ after_token f.instance f.limit (get_or ts k t) f.boxes
  next_left k f t checked inside =
      ap (boxes_left i d) (take_more ts k t inside)
      ∙ after_tokens_push i d.limit (take k ts) (get_or ts k t) (root_box i d.slots ∷ []) f.boxes checked.left
      ∙ rw (checked.instance, checked.limit) refl

  pub checked_more : (k : ℕ) (f new : Boxes) (t : Token) → IsChecked i d ts k f → k < length ts → IsAfter f (get_or ts k t) new → IsChecked i d ts (k + 1) new
  checked_more k f new t checked inside after = record {
    instance = after.instance ∙ checked.instance;
    limit = after.limit ∙ checked.limit;
    room = after.room ∙ checked.room;
    used = omega (arith, after.used, checked.used);
    left = next_left k f t checked inside ∙ after.left;
  }

  pub checked_illegal : (k : ℕ) (f : Boxes) (t : Token) → IsChecked i d ts k f → k < length ts → after_token f.instance f.limit (get_or ts k t) f.boxes ≡ None → IsFirstIllegal i d ts k
  checked_illegal k f t checked inside none =
      (inside, subst IsSome (sym checked.left) refl, subst IsNone (sym (next_left k f t checked inside ∙ none)) refl)

  -- at the end all tokens are applied
  pub checked_all : (k : ℕ) (f : Boxes) → IsChecked i d ts k f → length ts ≤ k → boxes_left i d ts ≡ Some f.boxes
  checked_all k f checked end = ap (boxes_left i d) (sym (take_all k ts end)) ∙ checked.left

  -- and the verdict is that of the boxes left
  pub verdict_is : (bs : List (List Slot)) → boxes_left i d ts ≡ Some bs → IsVerdictOf i d ts (verdict_of (length bs))
  verdict_is [] left = left
  verdict_is (b ∷ bs) left = (omega arith, ap (option_map length) left)

  pub refutes_is : (v : TreeVerdict) → IsVerdictOf i d ts v → v ≡ Refutes → IsRefuted i d
  refutes_is v says is mode valid a answer covers few within =
      refutations_refute mode i d ts a valid (subst (IsVerdictOf i d ts) is says) answer covers few within
