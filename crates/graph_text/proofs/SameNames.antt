-- Names behind references, and what is wrong with a list of names among others, by its tests.
use Rattle.std.proofs.Common.{◌≡◌, ℕ, ◌<◌, ◌==◌, Bool, cond, List, [], ◌∷◌, map, length, get_or, Some, None, sym, ap, ◌∙◌}
use Rattle.std.specs.Borrow.{Bor}
use Rattle.std.specs.Prelude.{nat_lt}
use Rattle.std.proofs.lemmas.List.{length-map, get_or-map}
use Rattle.report_terms.specs.declared.refusal.Why.TheVariants.{TooManyConstraints, ShortConstraint}
use Rattle.graph_text.specs.Constraints.{Listing, has_list}
use Rattle.graph_text.specs.LineFaults.{fault_of_list}
use Rattle.graph_text.specs.Reading.{most_constraints, same_fields}
use Rattle.graph_text.proofs.Places.{list_any-map}

-- a name behind a reference
pub other-is : (names : List (Bor (List ℕ))) (i : ℕ) (d : Bor (List ℕ)) → i < length names → (get_or names i d).now ≡ get_or (map (λ name. name.now) names) i []
other-is names i d within = sym (get_or-map (λ (name : Bor (List ℕ)). name.now) names i d [] within)

pub fault_of_list-is : (listings : List Listing) (vertices : List (List ℕ)) (short again many : Bool)
    → nat_lt (length vertices) 2 ≡ short → has_list listings vertices ≡ again → (length listings == most_constraints) ≡ many
    → cond short (Some ShortConstraint) (cond again None (cond many (Some TooManyConstraints) None)) ≡ fault_of_list (map (λ (c : Listing). c.names) listings) vertices
fault_of_list-is listings vertices short again many e f g =
    λ i. cond (sym e i) (Some ShortConstraint)
    (cond ((sym f ∙ sym (list_any-map (λ list. same_fields list vertices) (λ (c : Listing). c.names) listings)) i) None
    (cond ((sym g ∙ ap (λ n. n == most_constraints) (sym (length-map listings (λ (c : Listing). c.names)))) i) (Some TooManyConstraints) None))
