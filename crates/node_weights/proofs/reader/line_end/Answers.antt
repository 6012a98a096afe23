use Rattle.std.proofs.Common.{◌≡◌, ◌∙◌, ℕ, ◌≤◌, ap, arith, rules, tests, length, cond, ltb, unwrap_or, inl, inr}
use Rattle.std.specs.Prelude.{◌==◌, Some, None}
use Rattle.std.specs.List.{position_or_len}
use Rattle.std.proofs.lemmas.Bool.{cond-true, cond-false, lt-ltb, le-ltb, cases_lt}
use Rattle.std.proofs.lemmas.Iterator.{YieldsList-from_slice}
use Rattle.std.proofs.lemmas.Iterator.Search.{position_from_yields_List}
use Rattle.std.proofs.lemmas.List.Sums.{prefix_len-le-length}
use Rattle.node_weights.proofs.reader.line_end.Goals as goal

or_end : (place n : ℕ) → place ≤ n → unwrap_or (cond (ltb place n) (Some place) None) n ≡ place
or_end place n within = elim (cases_lt place n) [
  | inl here ↦ ap (λ o. unwrap_or o n) (cond-true (ltb place n) (Some place) None (lt-ltb place n here))
  | inr past ↦ ap (λ o. unwrap_or o n) (cond-false (ltb place n) (Some place) None (le-ltb place n past)) ∙ omega arith
]

pub returns-clause-place : goal.returns-clause-place
returns-clause-place c =
    let bytes = c.args.bytes.now in
    let found = position_from_yields_List (λ b. b == 10) _ _ c.position.result c.position.ensures.ran (YieldsList-from_slice bytes cc) (λ x b q k. search (rules, tests)) in
    c.unwrap_or.ensures ∙ ap (λ o. unwrap_or o (length bytes)) found ∙ or_end (position_or_len (λ b. b == 10) bytes) (length bytes) (prefix_len-le-length _ bytes)
