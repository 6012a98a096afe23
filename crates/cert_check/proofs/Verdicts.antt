-- What excludes that a report is accepted, and what the verdict on what was found tells of the report.
use Rattle.std.proofs.Common.{◌≡◌, ℕ, refl, sym, subst, inl, inr}
use Rattle.std.specs.Prelude.{◌↔◌}
use Rattle.decomposition.specs.declared.Mode.{Mode}
use Rattle.decomposition.specs.Instance.{Instance}
use Rattle.report_terms.specs.declared.report.Solved.{Solved}
use Rattle.report_terms.specs.declared.report.Body.{Body}
use Rattle.report_terms.specs.declared.report.Body.TheVariants.{Refused, Solved as SolvedBody}
use Rattle.report_terms.specs.declared.report.Report.{Report}
use Rattle.cert_check.specs.declared.report.Verdict.{Verdict}
use Rattle.cert_check.specs.declared.report.Verdict.TheVariants.{Yes, No}
use Rattle.cert_check.specs.Verdict.{IsSolvedVerdict, IsAcceptedBody, BodyFailsAt, IsAccepted, FailsAt, IsVerdictOn}

module _ (mode : Mode) (i : Instance) where
  -- where a line fails, the report is not accepted
  body_excludes : (b : Body) (place : ℕ) → BodyFailsAt mode i b place → IsAcceptedBody mode i b → ⊥
  body_excludes (Refused refusal) place fails accepted = accepted
  body_excludes (SolvedBody s) place fails accepted = fails.fails (accepted fails.line)

  excludes : (r : Report) (place : ℕ) → FailsAt mode i r place → IsAccepted mode i r → ⊥
  excludes r place (inl other) accepted = other.0 accepted.model
  excludes r place (inr fails) accepted = body_excludes r.body place fails.1 accepted.body

  -- the verdict on what was found is that on its report
  pub solved_tells : (r : Report) (s : Solved) (v : Verdict) → r.mode ≡ mode → r.body ≡ SolvedBody s → IsSolvedVerdict mode i s v → IsVerdictOn mode i r v
  solved_tells r s Yes same is says = record { model = same; body = subst (IsAcceptedBody mode i) (sym is) says }
  solved_tells r s (No place) same is says = inr (same, subst (λ b. BodyFailsAt mode i b place) (sym is) says)

  -- a verdict is yes exactly where the report is accepted
  pub yes_is : (r : Report) (v : Verdict) → IsVerdictOn mode i r v → (v ≡ Yes) ↔ IsAccepted mode i r
  yes_is r Yes says = (λ _. says, λ _. refl)
  yes_is r (No place) says = (λ is. cc, λ accepted. absurd (excludes r place says accepted))
