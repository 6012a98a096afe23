-- What may be said of a list of tokens.
use Rattle.std.specs.Prelude.{ℕ, zero, suc, ◌≤◌, Bool, true, false, List, length}
use Rattle.decomposition.specs.declared.Mode.{Mode}
use Rattle.decomposition.specs.declared.Token.{Token}
use Rattle.decomposition.specs.declared.Decision.{Decision}
use Rattle.decomposition.specs.Answer.{IsAnswer, Covers}
use Rattle.decomposition.specs.Instance.{Instance, IsInstance, error}
use Rattle.decomposition.specs.Tokens.{IsRefutation, LeavesBoxes, IsFirstIllegal}
use Rattle.decomposition.specs.Certificates.{IsWithin}
use Rattle.cert_check.specs.declared.tree.TreeVerdict.{TreeVerdict}
use Rattle.cert_check.specs.declared.tree.TreeVerdict.TheVariants.{Refutes, Pending, Illegal}

-- what a verdict says: the tokens refute, leave so many boxes, or have the first that is not legal at this place, counted from 0
abbrev pub IsVerdictOf : Instance → Decision → List Token → TreeVerdict → Type 0
IsVerdictOf i d ts Refutes = IsRefutation i d ts
IsVerdictOf i d ts (Pending n) = (1 ≤ n) × LeavesBoxes i d ts n
IsVerdictOf i d ts (Illegal k) = IsFirstIllegal i d ts k

-- whether the tokens refute
abbrev pub is_refuting : TreeVerdict → Bool
is_refuting Refutes = true
is_refuting (Pending n) = false
is_refuting (Illegal k) = false

-- whether the tokens leave a box
abbrev pub is_pending : TreeVerdict → Bool
is_pending Refutes = false
is_pending (Pending n) = true
is_pending (Illegal k) = false

-- no answer with at most so many paths covers with an error within the limit
abbrev pub IsRefuted : Instance → Decision → Type 0
IsRefuted i d =
    (mode : Mode) → IsInstance mode i → (a : List (List ℕ × ℕ)) →
    IsAnswer i.graph a → Covers i.rules a → length a ≤ d.slots → IsWithin d.limit (error i a) → ⊥

-- the verdict where every token is legal and so many boxes are left
abbrev pub verdict_of : ℕ → TreeVerdict
verdict_of zero = Refutes
verdict_of (suc n) = Pending (suc n)
