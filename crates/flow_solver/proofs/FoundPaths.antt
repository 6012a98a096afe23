-- An answer to a decision without error is known where there are ranges.
use Rattle.std.proofs.Common.{◌≡◌, ◌≤◌, ℕ, List, Some, subst, arith}
use Rattle.decomposition.specs.declared.Mode.TheVariants.{Interval}
use Rattle.decomposition.specs.declared.Decision.{Decision}
use Rattle.decomposition.specs.Certificates.{IsWithin}
use Rattle.decomposition.specs.Instance.{Instance, IsInstance, error}
use Rattle.flow_solver.specs.Searched.{IsFoundFor, IsKnown}
use Rattle.flow_solver.proofs.Bounded.{within_small}

pub found_known : (i : Instance) (d : Decision) (a : List (List ℕ × ℕ)) → IsInstance Interval i → d.limit ≡ Some 0 → IsFoundFor i d a → IsKnown Interval i a
found_known i d a valid none found =
    let within : error i a ≤ 0 = subst (λ limit. IsWithin limit (error i a)) none found.within in
    let zero_error : error i a ≡ 0 = omega (arith, within) in
    record {
      meets = (found.answer, found.covers, zero_error);
      order = found.order;
      once = found.once;
      small = within_small Interval i a valid found.answer zero_error;
    }
