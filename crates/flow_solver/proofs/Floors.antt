-- A refutation of as many paths as the width, or more, is a lower bound above the width.
use Rattle.std.proofs.Common.{◌≡◌, ℕ, ◌+◌, ◌-◌, ◌≤◌, ◌<◌, List, Option, Some, None, length, sym, ap, subst, ◌∙◌, inl, inr, arith}
use Rattle.std.specs.Prelude.{IfSome}
use Rattle.std.proofs.lemmas.Bool.{cases_lt}
use Rattle.decomposition.specs.declared.Decision.{Decision}
use Rattle.decomposition.specs.declared.Mode.TheVariants.{Interval}
use Rattle.decomposition.specs.declared.Token.{Token}
use Rattle.decomposition.specs.Certificates.{IsWithin, decision_below, decision_at_all}
use Rattle.decomposition.specs.Graph.{edge_count}
use Rattle.decomposition.specs.Instance.{Instance, IsInstance, IsLowerBound, Meets, error}
use Rattle.decomposition.specs.Tokens.{IsRefutation}
use Rattle.decomposition.specs.Width.{IsAntichain, IsWidth}
use Rattle.decomposition.proofs.Root.{refutations_refute}
use Rattle.report_terms.specs.declared.report.Cert.{Cert}
use Rattle.report_terms.specs.declared.report.Cert.TheVariants.{Tree}
use Rattle.report_terms.specs.declared.report.Trail.{Trail}
use Rattle.flow_solver.specs.Right.{IsCertFor}
use Rattle.flow_solver.specs.Searched.{IsKnown, IsRaised, IsRaisedWithin, IsRefutedAlone, IsRefutedBy, floor_of}
use Rattle.flow_solver.proofs.CountedRight.{one_width, width_bounds}

-- what meets has more paths than are refuted
pub refuted_apart : (i : Instance) (d : Decision) (ts : List Token) (a : List (List ℕ × ℕ)) → IsInstance Interval i → IsRefutation i d ts → d.limit ≡ Some 0 → Meets Interval i a → d.slots < length a
refuted_apart i d ts a valid refuted none meets =
    elim (cases_lt d.slots (length a)) [
      | inl less ↦ less
      | inr more ↦ absurd (refutations_refute Interval i d ts a valid refuted meets.0 meets.1 (omega (arith, more)) (subst (λ limit. IsWithin limit (error i a)) (sym none) (omega (arith, meets.2))))
    ]

pub raised_apart : (nodes : ℕ) (i : Instance) (width : ℕ) (tree : Trail) (a : List (List ℕ × ℕ)) → IsInstance Interval i → IsRaised nodes i width tree → IsKnown Interval i a → tree.decision.slots < length a
raised_apart nodes i width tree a valid raised known = refuted_apart i tree.decision tree.tokens a valid raised.refuted.refuted raised.limit known.meets

-- a decision by its parts
abbrev asks : ℕ → Option ℕ → Decision
asks slots limit = record { slots = slots; limit = limit }

-- a decision without error is that of so many paths
without_error : (d : Decision) (slots : ℕ) → d.limit ≡ Some 0 → d.slots ≡ slots → d ≡ asks slots (Some 0)
without_error d slots none is = ap (asks d.slots) none ∙ ap (λ n. asks n (Some 0)) is

refuted_as : (nodes : ℕ) (i : Instance) (tree : Trail) (d : Decision) → IsRefutedAlone nodes i tree → tree.decision ≡ d → IsRefutedBy nodes i d tree
refuted_as nodes i tree d refuted same = record { decision = same; refuted = subst (λ e. IsRefutation i e tree.tokens) same refuted.refuted; few = refuted.few; small = refuted.small }

-- it is a refutation of one path fewer than so many
pub refuted_below : (nodes : ℕ) (i : Instance) (width : ℕ) (tree : Trail) (count : ℕ) → IsRaised nodes i width tree → tree.decision.slots + 1 ≡ count → IsRefutedBy nodes i (decision_below Interval i count) tree
refuted_below nodes i width tree count raised is = refuted_as nodes i tree (decision_below Interval i count) raised.refuted (without_error tree.decision (count - 1) raised.limit (omega (arith, is)))

-- or of as many as can be needed
pub refuted_at_all : (nodes : ℕ) (i : Instance) (width : ℕ) (tree : Trail) → IsRaised nodes i width tree → tree.decision.slots ≡ edge_count i.graph + length i.rules → IsRefutedBy nodes i (decision_at_all Interval i) tree
refuted_at_all nodes i width tree raised is = refuted_as nodes i tree (decision_at_all Interval i) raised.refuted (without_error tree.decision (edge_count i.graph + length i.rules) raised.limit is)

-- and the certificate of a bound that is not the width
pub raised_shown : (nodes : ℕ) (i : Instance) (width : ℕ) (tree : Trail) → IsWidth i width → IsRaisedWithin nodes i width tree → IsCertFor nodes Interval i (tree.decision.slots + 1) (Tree tree)
raised_shown nodes i width tree wide (raised, within) =
    let refuted = refuted_below nodes i width tree (tree.decision.slots + 1) raised (omega arith) in
    record {
      decision = refuted.decision;
      bounding = record { positive = omega arith; reach = omega (arith, within); refuted = refuted.refuted };
      few = refuted.few;
      not_width = λ _ other. omega (arith, raised.above, one_width i (tree.decision.slots + 1) width other wide);
    }

-- there are as many paths as there must be
pub floor_bounds : (nodes : ℕ) (i : Instance) (es : List ℕ) (raised : Option Trail) → IsInstance Interval i → IsAntichain i es → IfSome raised (IsRaised nodes i (length es)) → IsLowerBound Interval i (floor_of (length es) raised)
floor_bounds nodes i es None valid chain raised = width_bounds i es chain
floor_bounds nodes i es (Some tree) valid chain raised = λ a ok. omega (arith, refuted_apart i tree.decision tree.tokens a valid raised.refuted.refuted raised.limit ok)

pub floor_above : (nodes : ℕ) (i : Instance) (width : ℕ) (raised : Option Trail) → IfSome raised (IsRaised nodes i width) → width ≤ floor_of width raised
floor_above nodes i width None raised = omega arith
floor_above nodes i width (Some tree) raised = omega (arith, raised.above)

-- an answer has more paths than are refuted
pub raised_over : (nodes : ℕ) (i : Instance) (width : ℕ) (raised : Option Trail) (a : List (List ℕ × ℕ)) → IsInstance Interval i → IfSome raised (IsRaised nodes i width) → IsKnown Interval i a
    → IfSome raised (λ tree. IsRaised nodes i width tree × (tree.decision.slots < length a))
raised_over nodes i width None a valid raised known = tt
raised_over nodes i width (Some tree) a valid raised known = (raised, raised_apart nodes i width tree a valid raised known)

-- with no refutation the width shows the bound, and it speaks of the graph
pub none_shown : (nodes : ℕ) (i : Instance) (es : List ℕ) (raised : Option Trail) (cert : Cert) → raised ≡ None → IsCertFor nodes Interval i (length es) cert → IsCertFor nodes Interval i (floor_of (length es) raised) cert
none_shown nodes i es raised cert none shown = subst (λ r. IsCertFor nodes Interval i (floor_of (length es) r) cert) (sym none) shown
