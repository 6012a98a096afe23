use Rattle.std.proofs.Common.{◌≡◌, ℕ, ◌≤◌, List, ◌∷◌, ◌++◌, [], map, length, Option, None, sym, ap, ◌∙◌, arith}
use Rattle.std.specs.Borrow.{Bor}
use Rattle.graph_text.proofs.EdgeFields.{two-at-least, field-at, ends-are, range-of}
use Rattle.std.proofs.lemmas.Result.{IfOk-weaker}
use Rattle.graph_text.specs.Lines.{fields_of}
use Rattle.graph_text.specs.LineFaults.{weights_in, fault_of_fields}
use Rattle.graph_text.specs.Reading.{Line, ends_of, range_in, range_of}
use Rattle.graph_text.specs.ShownLine.{ShowsLine}
use Rattle.graph_text.specs.DraftGraph.{HoldsEdges}
use Rattle.report_terms.specs.declared.refusal.Why.{Why}
use Rattle.decomposition.specs.declared.Mode.{Mode}
use Rattle.graph_text.proofs.draft_graph.DraftGraph.add_line.Goals as goal

pub add-requires-clause-tail : goal.add-requires-clause-tail
add-requires-clause-tail c =
    let fields = c.in_ok-fields.fields.items in
    let long : 2 ≤ length fields = two-at-least c.args.mode fields (ap (λ x. fault_of_fields c.args.mode (map (λ (field : Bor (List ℕ)). field.now) x)) (sym c.deref.ensures.value) ∙ c.in-Ok.ensures.ok.0) in
    field-at fields c.args.text.now c.in_ok-fields.ensures 0 c.index.result.now c.requires.one_line (omega arith) c.index.ensures

pub add-requires-clause-head : goal.add-requires-clause-head
add-requires-clause-head c =
    let fields = c.in_ok-fields.fields.items in
    let long : 2 ≤ length fields = two-at-least c.args.mode fields (ap (λ x. fault_of_fields c.args.mode (map (λ (field : Bor (List ℕ)). field.now) x)) (sym c.deref.ensures.value) ∙ c.in-Ok.ensures.ok.0) in
    field-at fields c.args.text.now c.in_ok-fields.ensures 1 c.index-in-Ok.result.now c.requires.one_line (omega arith) c.index-in-Ok.ensures

pub returns-in-Ok-clause-added : goal.returns-in-Ok-clause-added
returns-in-Ok-clause-added c =
    let fields = c.in_ok-fields.fields.items in
    let same : c.deref.result.now ≡ fields = c.deref.ensures.value in
    let long : 2 ≤ length fields = two-at-least c.args.mode fields (ap (λ x. fault_of_fields c.args.mode (map (λ (field : Bor (List ℕ)). field.now) x)) (sym same) ∙ c.in-Ok.ensures.ok.0) in
    let old = c.args.self.now in
    let new = c.add.new.self in
    let tail = c.index.result.now.now in
    let head = c.index-in-Ok.result.now.now in
    let Adds : Option Why → Type 0 = λ fault. (mode : Mode) (edges : List Line) (line : Line) → HoldsEdges mode edges old
    → ends_of line ≡ tail ∷ head ∷ [] → line.number ≡ c.args.number → range_of mode line ≡ c.in-Ok.range
    → fault ≡ None → HoldsEdges mode (edges ++ line ∷ []) new in
    let AddsLine : Option Why → Type 0 = λ fault. (edges : List Line) (line : Line) → HoldsEdges c.args.mode edges old
    → ShowsLine c.args.number c.args.is_long c.args.text.now line → fault ≡ None → HoldsEdges c.args.mode (edges ++ line ∷ []) new in
    IfOk-weaker c.add.result Adds AddsLine
    (λ fault added edges line holds shows none.
    let are : line.fields ≡ fields_of c.args.text.now = shows.fields c.if-is_long.false in
    added c.args.mode edges line holds
    (ends-are fields c.args.text.now c.in_ok-fields.ensures line c.index.result.now c.index-in-Ok.result.now are long c.index.ensures c.index-in-Ok.ensures)
    shows.number_is
    (range-of fields c.args.text.now c.in_ok-fields.ensures c.args.mode line are
    ∙ ap (λ x. range_in (weights_in c.args.mode (map (λ (field : Bor (List ℕ)). field.now) x))) (sym same)
    ∙ sym c.in-Ok.ensures.ok.1)
    none)
    c.add.ensures.added
