-- What an outcome tells of the rule list.
use Rattle.std.proofs.Common.{◌≡◌, ℕ, ◌∙◌, sym, ap, subst, arith, List, [], ◌∷◌, length, Option, Some, None}
use Rattle.decomposition.specs.declared.Token.{Token}
use Rattle.decomposition.specs.declared.Decision.{Decision}
use Rattle.decomposition.specs.Boxes.{Slot}
use Rattle.decomposition.specs.Tokens.{boxes_left, rule_token, rule_list}
use Rattle.decomposition.proofs.Rules.{rule_token-legal, rule_token-None}
use Rattle.refute_tree.specs.Front.{Boxes}
use Rattle.branch_bound.specs.Rule.{rule_of}
use Rattle.branch_bound.specs.Search.{SearchState, EndsAs, TokensShow}
use Rattle.branch_bound.specs.Kept.{Agree}
use Rattle.branch_bound.specs.declared.search.Outcome.{Outcome}
use Rattle.branch_bound.specs.declared.search.Outcome.TheVariants.{Found, Refuted, Spent}
use Rattle.branch_bound.proofs.Going.{rule_of-Some, whole}

-- the tokens are the whole rule list, which ends as the outcome says
pub record HasEnded (s : SearchState) (outcome : Outcome) : Type 0 where
  pub whole : s.tokens ≡ rule_list s.instance s.decision s.nodes
  pub ends : EndsAs s.instance s.decision s.nodes outcome
  pub shows : TokensShow s outcome

-- the state of those fields
abbrev pub state_of : Boxes → Decision → ℕ → List Token → Option Outcome → SearchState
state_of f d nodes ts outcome = record { instance = f.instance; decision = d; nodes = nodes; tokens = ts; outcome = outcome }

-- the rule token is that of the first box
pub rule_at : (f : Boxes) (bs : List (List Slot)) → f.boxes ≡ bs → rule_of f ≡ rule_of (record f { boxes = bs })
rule_at f bs is = ap (λ (cs : List (List Slot)). rule_of (record f { boxes = cs })) is

module _ (f : Boxes) (d : Decision) (nodes : ℕ) (ts : List Token) where
  -- the boxes that the whole list leaves
  pub left_by : (o : Option Outcome) (bs : List (List Slot)) → Agree f d nodes ts o → ts ≡ rule_list f.instance d nodes → f.boxes ≡ bs → boxes_left f.instance d (rule_list f.instance d nodes) ≡ Some bs
  left_by o bs agree all is = subst (λ us. boxes_left f.instance d us ≡ Some bs) all (agree.left ∙ ap Some is)

  pub ended : (outcome : Outcome) → Agree f d nodes ts (Some outcome) → HasEnded (state_of f d nodes ts (Some outcome)) outcome
  ended Found agree =
      let out = agree.ended in
      let all = whole f d nodes ts (Some Found) agree out.3 in
      let none : rule_token f.instance d.limit out.0 ≡ None = rw (← agree.limit) (sym (rule_at f (out.0 ∷ out.1) out.2) ∙ out.3) in
      record {
        whole = all;
        ends = (out.0, record { others = out.1; left = left_by (Some Found) (out.0 ∷ out.1) agree all out.2; open' = rule_token-None f.instance d.limit out.0 none });
        shows = tt;
      }
  ended Refuted agree =
      let all = whole f d nodes ts (Some Refuted) agree (rule_at f [] agree.ended) in
      record { whole = all; ends = left_by (Some Refuted) [] agree all agree.ended; shows = agree.left ∙ ap Some agree.ended }
  ended Spent agree =
      let has = rule_of-Some f agree.ended.0 agree.ended.1 in
      let count : length ts ≡ nodes = omega (arith, agree.ended.2, agree.used, agree.room, agree.few) in
      let all = agree.begun ∙ ap (rule_list f.instance d) count in
      record {
        whole = all;
        ends = record {
          first = has.first;
          others = has.others;
          left = left_by (Some Spent) (has.first ∷ has.others) agree all has.boxes;
          next = agree.ended.0;
          legal = rw (← agree.limit) (rule_token-legal f.instance f.limit has.first agree.ended.0 has.rule);
          full = sym (ap length all) ∙ count;
        };
        shows = count;
      }
