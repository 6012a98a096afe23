use Rattle.std.proofs.Common.{◌≡◌, ℕ, List, [], ◌∷◌, ◌++◌, sym, ap, ◌∙◌, arith}
use Rattle.std.specs.Prelude.{decimal}
use Rattle.std.proofs.lemmas.Fmt.{decimal_digit}
use Rattle.std.proofs.lemmas.Result.{on_ok_weaker}
use Rattle.report_reading.specs.ReportText.{line}
use Rattle.node_weights.proofs.split.add_link.Goals as goal

pub returns : goal.returns
returns c =
    let exit = c.deref.ensures.value ∙ c.in_ok-exit.ensures ∙ ap (λ (name : List ℕ). 111 ∷ name) c.name.ensures.name in
    let entry = c.deref-2.ensures.value ∙ c.in_ok-entry.ensures ∙ ap (λ (name : List ℕ). 105 ∷ name) c.name-2.ensures.name in
    let least : 48 ∷ [] ≡ decimal 0 = sym (decimal_digit 0 (omega arith)) in
    let most = c.as_bytes.ensures.value ∙ c.in_ok-digits.ensures.ok ∙ ap decimal c.requires.heaviest in
    on_ok_weaker c.add_line.result
    (λ last. last ∙ (λ i. c.args.text.now.items ++ line (exit i ∷ entry i ∷ least i ∷ most i ∷ [])))
    c.add_line.ensures
