use Rattle.std.proofs.Common.{◌≡◌, ℕ, ◌++◌, ◌∷◌, [], List, true, false, nat_eq, map, length, get_or, refl, sym, ap, subst, ◌∙◌, arith, ◌<◌}
use Rattle.std.specs.Borrow.{Bor}
use Rattle.std.proofs.lemmas.Bool.{le-ltb, eq-eqb, cond-true, cond-false}
use Rattle.std.proofs.lemmas.List.{length-map, map_push}
use Rattle.std.proofs.lemmas.List.Elements.{All-push}
use Rattle.indexmap.proofs.CallerLemmas.{insert_entry-new}
use Rattle.graph_text.specs.Constraints.{Listing, spelled, has_list}
use Rattle.graph_text.specs.Lines.{fields_of}
use Rattle.graph_text.specs.Reading.{most_constraints}
use Rattle.graph_text.proofs.SameNames.{fault_of_list-is}
use Rattle.graph_text.proofs.Spelling.{Entry, listing_in, found-among, not-found}
use Rattle.graph_text.proofs.constraints.Constraints.add.Goals as goal

pub returns-then-contains_key-clause-fault : goal.returns-then-contains_key-clause-fault
returns-then-contains_key-clause-fault c =
    let vertices = map (λ (name : Bor (List ℕ)). name.now) c.args.names.now in
    let has = c.contains_key.ensures ∙ found-among c.self.inside.entries.entries c.args.self.now c.as_slice.result.now vertices c.self.view_is (c.as_slice.ensures.value ∙ c.in_ok-text.ensures) c.requires.fields c.self.invariant in
    fault_of_list-is c.args.self.now vertices false true (nat_eq (length c.args.self.now) most_constraints)
    (le-ltb (length vertices) 2 (omega (arith, length-map c.args.names.now (λ (name : Bor (List ℕ)). name.now))))
    (sym has ∙ c.if-contains_key.true) refl

pub returns-then-contains_key-clause-added : goal.returns-then-contains_key-clause-added
returns-then-contains_key-clause-added c = λ _.
    let vertices = map (λ (name : Bor (List ℕ)). name.now) c.args.names.now in
    let has = c.contains_key.ensures ∙ found-among c.self.inside.entries.entries c.args.self.now c.as_slice.result.now vertices c.self.view_is (c.as_slice.ensures.value ∙ c.in_ok-text.ensures) c.requires.fields c.self.invariant in
    sym (cond-true _ _ _ (sym has ∙ c.if-contains_key.true))

pub returns-then-len-eq-MOST_CONSTRAINTS-clause-fault : goal.returns-then-len-eq-MOST_CONSTRAINTS-clause-fault
returns-then-len-eq-MOST_CONSTRAINTS-clause-fault c =
    let vertices = map (λ (name : Bor (List ℕ)). name.now) c.args.names.now in
    let has = c.contains_key.ensures ∙ found-among c.self.inside.entries.entries c.args.self.now c.as_slice.result.now vertices c.self.view_is (c.as_slice.ensures.value ∙ c.in_ok-text.ensures) c.requires.fields c.self.invariant in
    fault_of_list-is c.args.self.now vertices false false true
    (le-ltb (length vertices) 2 (omega (arith, length-map c.args.names.now (λ (name : Bor (List ℕ)). name.now))))
    (sym has ∙ c.if-contains_key.false)
    (eq-eqb (length c.args.self.now) most_constraints
    (ap (λ (ls : List Listing). length ls) (sym c.self.view_is) ∙ length-map c.self.inside.entries.entries listing_in ∙ sym c.len.ensures.len ∙ c.if-len-eq-MOST_CONSTRAINTS.true))

pub invariant_of-self-2 : goal.invariant_of-self-2
invariant_of-self-2 c =
    let text = c.in_ok-text.text in
    let is : text.items ≡ spelled (map (λ (name : Bor (List ℕ)). name.now) c.args.names.now) = c.in_ok-text.ensures in
    let IsKept : Entry → Type 0 = λ entry. spelled (fields_of entry.0.items) ≡ entry.0.items in
    subst (λ entries. (k : ℕ) (d : Entry) → k < length entries → IsKept (get_or entries k d))
    (sym (c.in_ok-_earlier.ensures.entries ∙ insert_entry-new _ c.self.inside.entries text c.args.number (not-found c.self.inside.entries.entries c.as_slice.result.now text.items c.as_slice.ensures.value (sym c.contains_key.ensures ∙ c.if-contains_key.false))))
    (All-push IsKept c.self.inside.entries.entries (text, c.args.number) c.self.invariant
    (ap (λ t. spelled (fields_of t)) is ∙ ap spelled c.requires.fields ∙ sym is))

pub returns-clause-added : goal.returns-clause-added
returns-clause-added c = λ _.
    let text = c.in_ok-text.text in
    let vertices = map (λ (name : Bor (List ℕ)). name.now) c.args.names.now in
    let has = c.contains_key.ensures ∙ found-among c.self.inside.entries.entries c.args.self.now c.as_slice.result.now vertices c.self.view_is (c.as_slice.ensures.value ∙ c.in_ok-text.ensures) c.requires.fields c.self.invariant in
    let listing : Listing = record { number = c.args.number; names = vertices } in
    ap (map listing_in) (c.in_ok-_earlier.ensures.entries ∙ insert_entry-new _ c.self.inside.entries text c.args.number (not-found c.self.inside.entries.entries c.as_slice.result.now text.items c.as_slice.ensures.value (sym c.contains_key.ensures ∙ c.if-contains_key.false)))
    ∙ map_push listing_in c.self.inside.entries.entries (text, c.args.number)
    ∙ (λ i. c.self.view_is i ++ record { number = c.args.number; names = (ap fields_of c.in_ok-text.ensures ∙ c.requires.fields) i } ∷ [])
    ∙ sym (cond-false (has_list c.args.self.now vertices) c.args.self.now (c.args.self.now ++ listing ∷ []) (sym has ∙ c.if-contains_key.false))
