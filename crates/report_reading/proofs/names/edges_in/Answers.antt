use Rattle.std.proofs.Common.{◌≡◌, ◌≤◌, ℕ, ◌+◌, ◌-◌, ◌∷◌, ◌++◌, [], List, length, drop, length-drop, sym, ap, ◌∙◌, arith}
use Rattle.std.specs.Borrow.{Bor}
use Rattle.std.proofs.lemmas.List.{length-map}
use Rattle.std.specs.Option.{option_map}
use Rattle.report_reading.specs.LineFields.{texts, field_at, edge_in, edges_in}
use Rattle.report_reading.proofs.Named.{edges_in-more, edges_in-none, edges_in-all}
use Rattle.report_reading.proofs.names.edges_in.Goals as goal
use Rattle.report_reading.proofs.names.edges_in.Goals.{After-edge_in}

-- what the call found, by the names
edge : (c : After-edge_in) → edge_in c.args.labels.now (field_at (texts c.args.names.now) (c.loop-i.i - 1)) (field_at (texts c.args.names.now) c.loop-i.i) ≡ c.edge_in.result
edge c =
    ap (λ tail. edge_in c.args.labels.now tail (field_at (texts c.args.names.now) c.loop-i.i)) (sym c.field_at.ensures)
    ∙ ap (λ head. edge_in c.args.labels.now c.field_at.result.now head) (sym c.field_at-in-loop-i.ensures)
    ∙ sym c.edge_in.ensures

pub returns-in-None : goal.returns-in-None
returns-in-None c =
    let count = length-map c.args.names.now (λ (field : Bor (List ℕ)). field.now) in
    edges_in-none c.args.labels.now (texts c.args.names.now) c.loop-i.edges c.loop-i.i (omega arith) (omega (arith, count))
    (edge (goal.at.returns-in-None c).After-edge_in ∙ c.in-None.is) c.loop-i.invariant

pub loop-i-preserved : goal.loop-i-preserved
loop-i-preserved c =
    let count = length-map c.args.names.now (λ (field : Bor (List ℕ)). field.now) in
    let names = texts c.args.names.now in
    let back : c.loop-i.i ≡ c.loop-i.i + 1 - 1 = omega arith in
    edges_in-more c.args.labels.now names c.loop-i.edges c.loop-i.i c.in-Some.edge (omega arith) (omega (arith, count))
    (edge (goal.at.loop-i-preserved c).After-edge_in ∙ c.in-Some.is) c.loop-i.invariant
    ∙ ap (λ k. option_map (λ es. (c.loop-i.edges ++ c.in-Some.edge ∷ []) ++ es) (edges_in c.args.labels.now (drop k names))) back
    ∙ ap (λ edges. option_map (λ es. edges ++ es) (edges_in c.args.labels.now (drop (c.loop-i.i + 1 - 1) names))) (sym c.in_ok-push-in-Some.ensures.ok)

pub returns : goal.returns
returns c =
    let count = length-map c.args.names.now (λ (field : Bor (List ℕ)). field.now) in
    let names = texts c.args.names.now in
    let few : length (drop (c.loop-i.i - 1) names) ≤ 1 = omega (arith, count, length-drop (c.loop-i.i - 1) names) in
    edges_in-all c.args.labels.now names c.loop-i.edges c.loop-i.i few c.loop-i.invariant
