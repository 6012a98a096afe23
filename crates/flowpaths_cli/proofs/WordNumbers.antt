-- Numbers that digits spell past a limit.
use Rattle.std.proofs.Common.{◌≡◌, ℕ, ◌<◌, cond, leb, List, take, None, Some, sym, arith}
use Rattle.std.proofs.lemmas.Bool.{cond-false, lt-leb}
use Rattle.graph_text.specs.Reading.{number_of}
use Rattle.graph_text.proofs.Weights.{number_of-take-le}

-- some of the digits already spell too great a number
pub too_great : (digits : List ℕ) (most k : ℕ) → most < number_of (take k digits) → None ≡ cond (leb (number_of digits) most) (Some (number_of digits)) None
too_great digits most k over =
    let le = number_of-take-le digits k in
    let over_all : most < number_of digits = omega arith in
    sym (cond-false _ _ _ (lt-leb (number_of digits) most over_all))
