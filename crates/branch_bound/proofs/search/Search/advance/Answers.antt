use Rattle.std.proofs.Common.{◌≡◌, ◌≤◌, ◌++◌, ◌∷◌, [], ◌∙◌, sym, ap, subst, arith, rules}
use Rattle.std.specs.Prelude.{vec_capacity}
use Rattle.branch_bound.specs.Search.{SearchState}
use Rattle.branch_bound.specs.Kept.{Agree}
use Rattle.branch_bound.proofs.Going.{has_slots, agree_more, rule_applied}
use Rattle.branch_bound.proofs.search.Search.advance.Goals as goal

pub rule_token-requires : goal.rule_token-requires
rule_token-requires c =
    let a = c.self.inside in
    has_slots a.front a.decision a.nodes a.tokens.items a.outcome c.self.invariant.agree

pub invariant_of-self : goal.invariant_of-self
invariant_of-self c =
    let a = c.self.inside in
    let rule = sym c.rule_token.ensures ∙ c.in-Some.is in
    let after = rule_applied a.front c.apply.new.self c.in-Some.token c.apply.result rule c.apply.ensures in
    let none = ap (λ (s : SearchState). s.outcome) c.self.view_is ∙ c.requires in
    let items : c.push.new.self.items ≡ a.tokens.items ++ c.in-Some.token ∷ [] = search rules in
    let room : vec_capacity a.tokens ≤ vec_capacity c.push.new.self = search rules in
    record {
      agree = subst (λ ts. Agree c.apply.new.self a.decision a.nodes ts a.outcome) (sym items)
          (agree_more a.front a.decision a.nodes a.tokens.items a.outcome c.self.invariant.agree c.apply.new.self c.in-Some.token none rule (omega (arith, c.used.ensures.used)) after);
      capacity = omega (arith, room, c.self.invariant.capacity);
    }
