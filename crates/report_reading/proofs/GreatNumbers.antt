-- Numbers and how they are spelled.
use Rattle.std.proofs.Common.{◌≡◌, ℕ, ◌+◌, ◌-◌, ◌*◌, ◌^◌, ◌<◌, ◌≤◌, cond, ltb, List, length, take, get_or, None, Some, sym, arith}
use Rattle.std.proofs.lemmas.Bool.{cond-false, le-ltb}
use Rattle.graph_text.specs.Reading.{number_of}
use Rattle.graph_text.proofs.Weights.{number_of-take-le, number_of-more}

-- some of the digits already spell too great a number
pub too_great : (digits : List ℕ) (k n : ℕ) → k < length digits → n ≡ number_of (take k digits) → 2 ^ 64 ≤ 10 * n + (get_or digits k 0 - 48) →
    None ≡ cond (ltb (number_of digits) (2 ^ 64)) (Some (number_of digits)) None
too_great digits k n within value over =
    let le = number_of-take-le digits (k + 1) in
    let more = number_of-more digits k within in
    let over_all : 2 ^ 64 ≤ number_of digits = omega arith in
    sym (cond-false _ _ _ (le-ltb (number_of digits) (2 ^ 64) over_all))
