use Rattle.std.proofs.Common.{ℕ, ◌+◌, ◌-◌, List, [], map, position, sym, subst, ◌∙◌, arith}
use Rattle.std.specs.Borrow.{Bor}
use Rattle.std.proofs.lemmas.List.{length-map}
use Rattle.decomposition.specs.Graph.{same_ends}
use Rattle.graph_text.specs.Reading.{vertex_of}
use Rattle.graph_text.proofs.Linking.{IsRunUpTo, run-goes_on, run-breaks, run-ends}
use Rattle.graph_text.proofs.SameNames.{other-is}
use Rattle.graph_text.proofs.constraints.run_between.Goals as goal

pub returns-in_default : goal.returns-in_default
returns-in_default c =
    let labels = c.args.labels.now in
    let vertices = map (λ (name : Bor (List ℕ)). name.now) c.args.names.now in
    let i = c.loop-i.i in
    let none : Bor (List ℕ) = record { ref_ptr = (0, 0); now = [] } in
    run-breaks labels.names labels.edges vertices i c.loop-i.run c.loop-i.invariant (omega (arith, length-map c.args.names.now (λ (name : Bor (List ℕ)). name.now)))
    (sym c.in_default.is ∙ c.edge_between.ensures.place
    ∙ (λ j. position (same_ends (vertex_of labels.names (other-is c.args.names.now (i - 1) none (omega arith) j), vertex_of labels.names (other-is c.args.names.now i none (omega arith) j))) labels.edges))

pub loop-i-preserved : goal.loop-i-preserved
loop-i-preserved c =
    let labels = c.args.labels.now in
    let vertices = map (λ (name : Bor (List ℕ)). name.now) c.args.names.now in
    let i = c.loop-i.i in
    let none : Bor (List ℕ) = record { ref_ptr = (0, 0); now = [] } in
    subst (IsRunUpTo labels.names labels.edges vertices (i + 1)) (sym c.in_ok-push.ensures.ok)
    (run-goes_on labels.names labels.edges vertices i c.loop-i.run c.in-Some.edge c.loop-i.invariant (omega (arith, length-map c.args.names.now (λ (name : Bor (List ℕ)). name.now)))
    (c.in-Some.ensures.place
    ∙ (λ j. position (same_ends (vertex_of labels.names (other-is c.args.names.now (i - 1) none (omega arith) j), vertex_of labels.names (other-is c.args.names.now i none (omega arith) j))) labels.edges)))

pub returns : goal.returns
returns c =
    let labels = c.args.labels.now in
    let vertices = map (λ (name : Bor (List ℕ)). name.now) c.args.names.now in
    run-ends labels.names labels.edges vertices c.loop-i.i c.loop-i.run c.loop-i.invariant (omega (arith, length-map c.args.names.now (λ (name : Bor (List ℕ)). name.now)))
