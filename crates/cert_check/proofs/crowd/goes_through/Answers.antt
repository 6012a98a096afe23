use Rattle.std.proofs.Common.{◌≡◌, ◌<◌, ◌∙◌, ◌&&◌, ◌∷◌, [], true, nat_lt, length, get_or, ap, sym, subst}
use Rattle.std.proofs.lemmas.Bool.{lt-ltb}
use Rattle.decomposition.specs.Graph.{contains_run}
use Rattle.cert_check.proofs.Crowding.{contains_run-edge}
use Rattle.cert_check.proofs.crowd.goes_through.Goals as goal

pub returns-then-rule-len : goal.returns-then-rule-len
returns-then-rule-len c =
    let rules = c.args.p.now.rules in
    let e = c.args.edge in
    let inside : nat_lt c.args.rule (length rules) ≡ true = lt-ltb c.args.rule (length rules) (subst (λ n. c.args.rule < n) c.len.ensures c.if-rule-len.true) in
    c.contains.ensures.value
    ∙ sym (contains_run-edge c.run.result.now e)
    ∙ ap (λ run. contains_run run (e ∷ [])) c.run.ensures
    ∙ sym (ap (λ b. b && contains_run (get_or rules c.args.rule []) (e ∷ [])) inside)
