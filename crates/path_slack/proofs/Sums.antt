-- What the paths of a list put on the edges, entry by entry.
use Rattle.std.proofs.Common.{◌≡◌, ℕ, zero, suc, ◌+◌, ◌*◌, ◌<◌, ◌≤◌, List, [], ◌∷◌, ◌++◌, length, take, cond, slice_index, refl, ap, ◌∙◌, arith}
use Rattle.std.proofs.lemmas.List.{take_more}
use Rattle.decomposition.specs.Graph.{Graph, has_edge}
use Rattle.decomposition.specs.Answer.{entry_at, weight_on}
use Rattle.decomposition.proofs.FewPaths.{weight_on-append}
use Rattle.path_slack.specs.Loads.{AreSums}
use Rattle.std.proofs.lemmas.Bool.{and_parts}
use Rattle.decomposition.specs.Graph.{IsPath}
use Rattle.decomposition.proofs.Root.{all-place}
use Rattle.slack_terms.specs.declared.slack_path.SlackPath.{SlackPath}
use Rattle.slack_terms.specs.Answers.{IsSlackAnswer, weights_of, slacks_of, entry_at as slack_at}
use Rattle.slack_terms.proofs.Bounds.{weights_at}
use Rattle.slack_terms.proofs.Root.{is_entry}

-- each entry of an answer is a path
pub entry-path : (g : Graph) (paths : List SlackPath) (i : ℕ) → IsSlackAnswer g paths → i < length paths → IsPath g (slack_at paths i).path
entry-path g paths i answer there = (and_parts _ _ (all-place (is_entry g) paths (record { path = []; weight = 0; slack = 0 }) i answer there)).0

-- the entries of the slacks, by places
slacks_at : (line : List SlackPath) (k : ℕ) → entry_at (slacks_of line) k ≡ ((slack_at line k).path, (slack_at line k).slack)
slacks_at [] k = refl
slacks_at (x ∷ line) zero = refl
slacks_at (x ∷ line) (suc k) = slacks_at line k

pub length-slacks : (line : List SlackPath) → length (slacks_of line) ≡ length line
length-slacks [] = refl
length-slacks (x ∷ line) = ap suc (length-slacks line)

pub weights-entry : (paths : List SlackPath) (i : ℕ) (x : SlackPath) (path : List ℕ) → x ≡ slack_at paths i → path ≡ x.path → entry_at (weights_of paths) i ≡ (path, x.weight)
weights-entry paths i x path is at = weights_at paths i ∙ rw (at, is) refl

pub slacks-entry : (paths : List SlackPath) (i : ℕ) (x : SlackPath) (path : List ℕ) → x ≡ slack_at paths i → path ≡ x.path → entry_at (slacks_of paths) i ≡ (path, x.slack)
slacks-entry paths i x path is at = slacks_at paths i ∙ rw (at, is) refl

module _ (g : Graph) (a : List (List ℕ × ℕ)) where
  -- the sums of the first entries, which are small
  pub record AreSumsUp (i : ℕ) (sums : List ℕ) : Type 0 where
    pub so_far : AreSums g (take i a) sums
    pub small : (e : ℕ) → slice_index sums e ≤ 18446744073709551615 * i

  at_most : (path : List ℕ) (amount e : ℕ) → cond (has_edge path e) amount 0 ≤ amount
  at_most path amount e = grind arith

  -- one entry more
  pub AreSumsUp-more : (i : ℕ) (path old new : List ℕ) (amount : ℕ) → i < length a → entry_at a i ≡ (path, amount) → amount ≤ 18446744073709551615 → length new ≡ length old
      → ((e : ℕ) → slice_index new e ≡ slice_index old e + cond (has_edge path e) amount 0) → AreSumsUp i old → AreSumsUp (i + 1) new
  AreSumsUp-more i path old new amount there entry fits count more before = record {
    so_far = record {
      count = count ∙ before.so_far.count;
      each = λ e inside.
          let whole : take (i + 1) a ≡ take i a ++ entry_at a i ∷ [] = take_more a i ([], 0) there in
          let is : take (i + 1) a ≡ take i a ++ (path, amount) ∷ [] = rw entry at whole in
          omega (arith, more e, before.so_far.each e inside, ap (λ xs. weight_on xs e) is, weight_on-append (take i a) ((path, amount) ∷ []) e);
    };
    small = λ e. omega (arith, more e, before.small e, at_most path amount e);
  }
