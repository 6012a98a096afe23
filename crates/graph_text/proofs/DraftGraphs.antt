-- What a draft graph says of one more edge line.
use Rattle.std.proofs.Common.{◌≡◌, ℕ, ◌<◌, ◌==◌, [], ltb, Bool, true, false, cond, List, length, Option, Some, None, Contains, position, refl, sym, ap, subst, ◌∙◌, map, arith, ⊎_elim}
use Rattle.std.specs.List.{list_any}
use Rattle.std.specs.Option.{MatchOption, is_some}
use Rattle.std.specs.Prelude.{IsTrue, ◌↔◌}
use Rattle.std.specs.Str.{bytes_eq}
use Rattle.std.specs.Prelude.{vec_len}
use Rattle.std.specs.declared.vec.Vec.{Vec}
use Rattle.std.specs.declared.alloc.Global.{Global}
use Rattle.std.proofs.lemmas.Bool.{false≢true, cond-true, cond-false, cases_Bool}
use Rattle.std.proofs.lemmas.List.{get_or_default, length-map}
use Rattle.std.proofs.lemmas.List.Elements.{Contains-get_or}
use Rattle.report_terms.specs.declared.refusal.Why.TheVariants.{RepeatedEdge, TooManyEdges}
use Rattle.graph_text.specs.DraftGraph.{HasEdge}
use Rattle.graph_text.specs.Labels.{LabelLists, name_at, tail_at, head_at}
use Rattle.graph_text.specs.LineFaults.{fault_among}
use Rattle.graph_text.specs.Reading.{Line, most_edges, same_fields, ends_of, vertex_of}

position-number : (names : List (List ℕ)) (name : List ℕ) (v : ℕ) → Some v ≡ position (bytes_eq name) names → v ≡ vertex_of names name
position-number names name v is =
    let place = vertex_of names name in
    ⊎_elim
    (λ (t : ltb place (length names) ≡ true).
    let e : ◌≡◌ {A = Option ℕ} (Some v) (Some place) = is ∙ cond-true (ltb place (length names)) (Some place) None t in cc)
    (λ (f : ltb place (length names) ≡ false).
    let e : ◌≡◌ {A = Option ℕ} (Some v) None = is ∙ cond-false (ltb place (length names)) (Some place) None f in cc)
    (cases_Bool (ltb place (length names)))

edge_numbers : (labels : LabelLists) (tail head : List ℕ) (u v : ℕ) → Some u ≡ position (bytes_eq tail) labels.names → Some v ≡ position (bytes_eq head) labels.names
    → ◌≡◌ {A = ℕ × ℕ} (vertex_of labels.names tail, vertex_of labels.names head) (u, v)
edge_numbers labels tail head u v pu pv =
    λ i. (sym (position-number labels.names tail u pu) i, sym (position-number labels.names head v pv) i)

pub HasEdge-numbers : (labels : LabelLists) (tail head : List ℕ) (u v : ℕ) (found : Option ℕ)
    → Some u ≡ position (bytes_eq tail) labels.names → Some v ≡ position (bytes_eq head) labels.names
    → (u < length labels.names) × (name_at labels u ≡ tail) → (v < length labels.names) × (name_at labels v ≡ head)
    → MatchOption found (¬ Contains labels.edges (u, v)) (λ e. (e < length labels.edges) × (tail_at labels e ≡ u) × (head_at labels e ≡ v))
    → IsTrue (is_some found) ↔ HasEdge labels tail head
HasEdge-numbers labels tail head u v None pu pv fu fv is = (
  λ t. absurd (false≢true t),
  λ h. absurd (is (subst (λ (edge : ℕ × ℕ). Contains labels.edges edge) (edge_numbers labels tail head u v pu pv) h.joined)),
)
HasEdge-numbers labels tail head u v (Some e) pu pv fu fv is = (
  λ t. record {
    tail_named = subst (Contains labels.names) fu.1 (Contains-get_or labels.names u [] fu.0);
    head_named = subst (Contains labels.names) fv.1 (Contains-get_or labels.names v [] fv.0);
    joined = subst (λ (edge : ℕ × ℕ). Contains labels.edges edge) (sym (edge_numbers labels tail head u v pu pv))
        (e, is.0, get_or_default labels.edges e (u, v) (0, 0) is.0 ∙ (λ i. (is.1 i, is.2 i)));
  },
  λ h. refl,
)

-- what is wrong with an edge line among others, by the two tests
pub fault_among-is : (edges : List Line) (line : Line) (repeats many : Bool) → list_any (λ e. same_fields (ends_of e) (ends_of line)) edges ≡ repeats → (length edges == most_edges) ≡ many
    → cond repeats (Some RepeatedEdge) (cond many (Some TooManyEdges) None) ≡ fault_among edges line
fault_among-is edges line repeats many e f =
    sym (ap (λ b. cond b (Some RepeatedEdge) (cond (length edges == most_edges) (Some TooManyEdges) None)) e
    ∙ ap (λ b. cond repeats (Some RepeatedEdge) (cond b (Some TooManyEdges) None)) f)

-- as many numbers are kept as there are edge lines
pub many-from_numbers : (edges : List Line) (numbers : Vec ℕ Global) → numbers.items ≡ map (λ (l : Line). l.number) edges → vec_len numbers ≡ length edges
many-from_numbers edges numbers e = omega (arith, numbers.ok.0, ap length e, length-map edges (λ (l : Line). l.number))
