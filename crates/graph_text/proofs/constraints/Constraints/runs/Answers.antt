use Rattle.std.proofs.Common.{◌≡◌, ℕ, ◌++◌, ◌∷◌, [], List, map, ap, sym, ◌∙◌, append_assoc}
use Rattle.std.specs.Borrow.{Bor}
use Rattle.std.proofs.lemmas.Bool.{cond-true, cond-false}
use Rattle.std.proofs.lemmas.List.{append-nil}
use Rattle.graph_text.specs.Constraints.{Listing, first_unknown}
use Rattle.graph_text.specs.Lines.{fields_of}
use Rattle.graph_text.specs.Reading.{run_of, has_unknown}
use Rattle.graph_text.proofs.Spelling.{listing_in}
use Rattle.graph_text.proofs.constraints.Constraints.runs.Goals as goal

pub loop-text-init : goal.loop-text-init
loop-text-init c =
    let labels = c.args.labels.now in
    let gives : c.into_iter-text-iterator.result ≡ c.self.inside.entries.entries = c.into_iter-text-iterator.ensures.into_iter_gives.0 in
    let same : map listing_in c.into_iter-text-iterator.result ≡ c.args.self.now = ap (map listing_in) gives ∙ c.self.view_is in
    let none : c.new-runs.result ≡ [] = c.new-runs.ensures in
    record {
      first = ap (first_unknown labels) (sym same);
      made = λ i. none i ++ map (λ (c : Listing). run_of labels.names labels.edges c.names) (same i);
    }

pub returns-in_default : goal.returns-in_default
returns-in_default c =
    let labels = c.args.labels.now in
    let step : c.loop-text.text-iterator ≡ (c.in-Some.text.now, c.in-Some.number.now) ∷ c.next.new.self = c.in-Some.ensures.steps in
    let is : map (λ (name : Bor (List ℕ)). name.now) c.deref-in-loop-text.result.now ≡ fields_of c.in-Some.text.now.items =
    ap (λ (names : List (Bor (List ℕ))). map (λ (name : Bor (List ℕ)). name.now) names) c.deref-in-loop-text.ensures.value ∙ c.in_ok-names.ensures ∙ ap fields_of c.deref.ensures.value in
    let found = rw c.in_default.is at c.in_ok-run.ensures in
    c.loop-text.invariant.first ∙ ap (λ entries. first_unknown labels (map listing_in entries)) step
    ∙ cond-true _ _ _ (ap (has_unknown labels.names labels.edges) (sym is) ∙ found)

pub loop-text-preserved : goal.loop-text-preserved
loop-text-preserved c =
    let labels = c.args.labels.now in
    let runs = c.loop-text.runs in
    let rest = c.next.new.self in
    let step : c.loop-text.text-iterator ≡ (c.in-Some.text.now, c.in-Some.number.now) ∷ rest = c.in-Some.ensures.steps in
    let is : map (λ (name : Bor (List ℕ)). name.now) c.deref-in-loop-text.result.now ≡ fields_of c.in-Some.text.now.items =
    ap (λ (names : List (Bor (List ℕ))). map (λ (name : Bor (List ℕ)). name.now) names) c.deref-in-loop-text.ensures.value ∙ c.in_ok-names.ensures ∙ ap fields_of c.deref.ensures.value in
    let found = rw c.in-Some-2.is at c.in_ok-run.ensures in
    let run_in : Listing → List ℕ = λ listing. run_of labels.names labels.edges listing.names in
    record {
      first = c.loop-text.invariant.first ∙ ap (λ entries. first_unknown labels (map listing_in entries)) step
          ∙ cond-false _ _ _ (ap (has_unknown labels.names labels.edges) (sym is) ∙ found.1);
      made = ap (λ (made : List (List ℕ)). made ++ map run_in (map listing_in rest)) c.in_ok-push.ensures.ok
          ∙ append_assoc runs (c.in-Some-2.run' ∷ []) (map run_in (map listing_in rest))
          ∙ ap (λ run. runs ++ run ∷ map run_in (map listing_in rest)) (found.0 ∙ ap (run_of labels.names labels.edges) is)
          ∙ sym (ap (λ entries. runs ++ map run_in (map listing_in entries)) step)
          ∙ c.loop-text.invariant.made;
    }

pub returns : goal.returns
returns c =
    let labels = c.args.labels.now in
    let run_in : Listing → List ℕ = λ listing. run_of labels.names labels.edges listing.names in
    let none : c.loop-text.text-iterator ≡ [] = c.in-None.ensures.steps.0 in (
      c.loop-text.invariant.first ∙ ap (λ entries. first_unknown labels (map listing_in entries)) none,
      sym (append-nil c.loop-text.runs) ∙ ap (λ entries. c.loop-text.runs ++ map run_in (map listing_in entries)) (sym none) ∙ c.loop-text.invariant.made,
    )
