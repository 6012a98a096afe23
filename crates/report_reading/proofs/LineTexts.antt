-- A line that is taken is the line of what it says, which may stand in a report.
use Rattle.std.proofs.Common.{◌≡◌, ℕ, ◌^◌, ◌<◌, ◌≤◌, Bool, true, nat_le, nat_lt, ◌&&◌, List, [], ◌∷◌, ◌++◌, length, drop, refl, sym, ap, ◌∙◌, subst, inl, inr, arith, lt-ltb}
use Rattle.std.specs.Prelude.{Option, Some, Result, Ok, decimal, codes}
use Rattle.std.specs.List.{find}
use Rattle.std.specs.Str.{bytes_eq}
use Rattle.std.proofs.lemmas.Bool.{and_from, cases_Bool, cond-true, cond-false, le-leb}
use Rattle.std.proofs.lemmas.Slice.Eq.{bytes_eq-Decides}
use Rattle.decomposition.specs.declared.Mode.{Mode}
use Rattle.decomposition.specs.declared.Mode.TheVariants.{Exact, Interval, Abs}
use Rattle.decomposition.specs.declared.Token.{Token}
use Rattle.decomposition.specs.declared.Token.TheVariants.{Gap, Miss, Split, Step}
use Rattle.decomposition.specs.Graph.{is_run, is_list_before}
use Rattle.decomposition.specs.Answer.{comes_before}
use Rattle.report_terms.specs.declared.refusal.Refusal.{Refusal}
use Rattle.report_terms.specs.declared.refusal.Why.{Why}
use Rattle.graph_text.specs.Labels.{LabelLists, name_at, tail_at}
use Rattle.report_terms.specs.declared.report.Mark.{Mark}
use Rattle.report_terms.specs.declared.report.Mark.TheVariants.{Optimal, Infeasible, Bounds}
use Rattle.report_terms.specs.declared.report.Trail.{Trail}
use Rattle.report_reading.specs.declared.read_fault.ReadWhy.{ReadWhy}
use Rattle.report_reading.specs.Names.{graph_at}
use Rattle.report_terms.specs.NetFacts.{is_mode}
use Rattle.report_reading.specs.ReportText.{line, number_or_none, model_line, why_word, mark_word, path_line, edge_line, run_line, vertex_line, rule_line, token_line, fits, fits_or_none, is_path_entry, is_place, is_token}
use Rattle.report_reading.specs.LineFields.{spaced_fields, field_at, has_words, has_words_and_more, greatest, number_in, limit_in, place_in, decision_in, all_whys, why_in, vertex_in, edge_in, edges_in}
use Rattle.report_reading.specs.LineSteps.{model_in, mark_in, refusal_in, bound_in}
use Rattle.report_reading.specs.ListSteps.{last_of, may_follow, path_after, trail_in, token_in, edge_after, vertex_after, rule_after, run_after}
use Rattle.report_reading.proofs.Taken.{must-taken, given-taken, cond-taken}
use Rattle.report_reading.proofs.Spelled.{number-spelled, limit-spelled, place-spelled, decision-spelled, SpellsDecision}
use Rattle.report_reading.proofs.WordTests.{line-spaced, words-1-1, words-1-2, words-1-3, words-2-2, words-2-3, words-run, words-path}
use Rattle.report_reading.proofs.NamedRuns.{vertex-named, edge-named, run-named}

-- fields of which there is one at least, and their line
pub record IsLine (fields : List (List ℕ)) (text : List ℕ) : Type 0 where
  pub some : 0 < length fields
  pub line_is : line fields ≡ text

pub is_line : (fields : List (List ℕ)) (f : List ℕ) (fs : List (List ℕ)) → fields ≡ f ∷ fs → IsLine fields (line (f ∷ fs))
is_line fields f fs e = record { some = subst (λ (x : List (List ℕ)). 0 < length x) (sym e) (omega arith); line_is = ap line e }

-- the line of the fields of a line is that line
pub IsLine-text : (l text : List ℕ) → IsLine (spaced_fields l) text → l ++ 10 ∷ [] ≡ text
IsLine-text l text is = sym (line-spaced l is.some) ∙ is.line_is

pub on-ok : {X : Type 0} (P : X → Type 0) (x y : X) → (let a : Result X ReadWhy = Ok x in let b : Result X ReadWhy = Ok y in a ≡ b) → P x → P y
on-ok P x y e p = subst P (cc) p

-- whether a number from 1 on fits
pub counts : (n : ℕ) → 1 ≤ n → n ≤ greatest → (nat_le 1 n && fits n) ≡ true
counts n low high = and_from (nat_le 1 n) (fits n) (le-leb 1 n low) (lt-ltb n (2 ^ 64) (omega (arith, high)))

abbrev ModelRead : List (List ℕ) → Mode → Type 0
ModelRead fields mode = IsLine fields (model_line mode) × (is_mode mode ≡ true)

pub model-line : (fields : List (List ℕ)) (mode : Mode) → model_in fields ≡ Ok mode → IsLine fields (model_line mode) × (is_mode mode ≡ true)
model-line fields mode h =
    elim (cond-taken (has_words (codes "model" ∷ codes "exact" ∷ []) 2 fields) _ _ mode h) [
      | inl a ↦ on-ok (ModelRead fields) Exact mode a.1 (is_line fields _ _ (words-2-2 (codes "model") (codes "exact") fields a.0), refl)
      | inr a ↦
          elim (cond-taken (has_words (codes "model" ∷ codes "interval" ∷ []) 2 fields) _ _ mode a.1) [
            | inl b ↦ on-ok (ModelRead fields) Interval mode b.1 (is_line fields _ _ (words-2-2 (codes "model") (codes "interval") fields b.0), refl)
            | inr b ↦
                let m = must-taken _ (has_words (codes "model" ∷ codes "abs" ∷ []) 3 fields) _ mode b.1 in
                let g = given-taken _ (number_in 0 64 (field_at fields 2)) _ mode m.1 in
                let s = number-spelled 0 64 (field_at fields 2) g.0 (omega arith) g.1 in
                let w = words-2-3 (codes "model") (codes "abs") fields m.0 ∙ ap (λ f. codes "model" ∷ codes "abs" ∷ f ∷ []) s.spelled in
                on-ok (ModelRead fields) (Abs g.0) mode g.2 (is_line fields _ _ w, le-leb g.0 64 s.most_is)
          ]
    ]

pub mark-line : (fields : List (List ℕ)) (mark : Mark) → mark_in fields ≡ Ok mark → IsLine fields (line (codes "mark" ∷ mark_word mark ∷ []))
mark-line fields mark h =
    let P : Mark → Type 0 = λ m. IsLine fields (line (codes "mark" ∷ mark_word m ∷ [])) in
    elim (cond-taken (has_words (codes "mark" ∷ codes "optimal" ∷ []) 2 fields) _ _ mark h) [
      | inl a ↦ on-ok P Optimal mark a.1 (is_line fields _ _ (words-2-2 (codes "mark") (codes "optimal") fields a.0))
      | inr a ↦
          elim (cond-taken (has_words (codes "mark" ∷ codes "infeasible" ∷ []) 2 fields) _ _ mark a.1) [
            | inl b ↦ on-ok P Infeasible mark b.1 (is_line fields _ _ (words-2-2 (codes "mark") (codes "infeasible") fields b.0))
            | inr b ↦
                let m = must-taken _ (has_words (codes "mark" ∷ codes "bounds" ∷ []) 2 fields) _ mark b.1 in
                on-ok P Bounds mark m.1 (is_line fields _ _ (words-2-2 (codes "mark") (codes "bounds") fields m.0))
          ]
    ]

-- the refusal of a word has this word
why-named : (word : List ℕ) (whys : List Why) (why : Why) → find (λ w. bytes_eq (why_word w) word) whys ≡ Some why → word ≡ why_word why
why-named word [] why h = absurd (cc)
why-named word (w ∷ whys) why h =
    elim (cases_Bool (bytes_eq (why_word w) word)) [
      | inl same ↦
          let e : w ≡ why = cc (sym (cond-true _ (Some w) (find (λ x. bytes_eq (why_word x) word) whys) same) ∙ h) in
          sym ((bytes_eq-Decides (why_word w) word).0 same) ∙ ap why_word e
      | inr other ↦ why-named word whys why (sym (cond-false _ (Some w) (find (λ x. bytes_eq (why_word x) word) whys) other) ∙ h)
    ]

pub refusal-line : (fields : List (List ℕ)) (r : Refusal) → has_words (codes "refused" ∷ []) 3 fields ≡ true → refusal_in fields ≡ Ok r →
    IsLine fields (line (codes "refused" ∷ decimal r.line ∷ why_word r.why ∷ [])) × ((nat_le 1 r.line && fits r.line) ≡ true)
refusal-line fields r words h =
    let P : Refusal → Type 0 = λ r. IsLine fields (line (codes "refused" ∷ decimal r.line ∷ why_word r.why ∷ [])) × ((nat_le 1 r.line && fits r.line) ≡ true) in
    let a = given-taken _ (why_in (field_at fields 2)) _ r h in
    let b = given-taken _ (number_in 1 greatest (field_at fields 1)) _ r a.2 in
    let s = number-spelled 1 greatest (field_at fields 1) b.0 (omega arith) b.1 in
    let w =
    words-1-3 (codes "refused") fields words
    ∙ ap (λ f. codes "refused" ∷ f ∷ field_at fields 2 ∷ []) s.spelled
    ∙ ap (λ f. codes "refused" ∷ decimal b.0 ∷ f ∷ []) (why-named (field_at fields 2) all_whys a.0 a.1) in
    on-ok P (record { line = b.0; why = a.0 }) r b.2 (is_line fields _ _ w, counts b.0 s.least_is s.most_is)

pub bound-line : (word : List ℕ) (fields : List (List ℕ)) (bound : Option ℕ) → bound_in word fields ≡ Ok bound →
    IsLine fields (line (word ∷ number_or_none bound ∷ [])) × (fits_or_none bound ≡ true)
bound-line word fields bound h =
    let P : Option ℕ → Type 0 = λ b. IsLine fields (line (word ∷ number_or_none b ∷ [])) × (fits_or_none b ≡ true) in
    let m = must-taken _ (has_words (word ∷ []) 2 fields) _ bound h in
    let g = given-taken _ (limit_in (field_at fields 1)) _ bound m.1 in
    let s = limit-spelled (field_at fields 1) g.0 g.1 in
    on-ok P g.0 bound g.2 (is_line fields _ _ (words-1-2 word fields m.0 ∙ ap (λ f. word ∷ f ∷ []) s.0), s.1)

-- a path that is taken: its line, that it is a run with a weight, and that it stands after the last one
pub record PathRead (labels : LabelLists) (paths : List (List ℕ × ℕ)) (fields : List (List ℕ)) (entry : List ℕ × ℕ) : Type 0 where
  pub text : IsLine fields (path_line labels entry)
  pub regular : is_path_entry labels entry ≡ true
  pub follows : may_follow comes_before (last_of paths) entry ≡ true

pub path-line : (labels : LabelLists) (paths : List (List ℕ × ℕ)) (fields : List (List ℕ)) (entry : List ℕ × ℕ) →
    has_words_and_more (codes "path" ∷ []) 4 fields ≡ true → path_after labels paths fields ≡ Ok entry → PathRead labels paths fields entry
path-line labels paths fields entry words h =
    let w = words-path (codes "path") fields words in
    let a = given-taken _ (number_in 1 greatest (field_at fields 1)) _ entry h in
    let b = given-taken _ (edges_in labels (drop 2 fields)) _ entry a.2 in
    let m = must-taken _ (may_follow comes_before (last_of paths) (b.0, a.0)) _ entry b.2 in
    let s = number-spelled 1 greatest (field_at fields 1) a.0 (omega arith) a.1 in
    let r = run-named labels (drop 2 fields) b.0 w.1 b.1 in
    let made : List ℕ × ℕ = (b.0, a.0) in
    let is =
    w.0
    ∙ ap (λ f. codes "path" ∷ f ∷ drop 2 fields) s.spelled
    ∙ ap (λ names. codes "path" ∷ decimal a.0 ∷ names) r.1 in
    on-ok (PathRead labels paths fields) made entry m.1
    (record {
      text = is_line fields _ _ is;
      regular = and_from (is_run (graph_at labels) b.0) (nat_le 1 a.0 && fits a.0) r.0 (counts a.0 s.least_is s.most_is);
      follows = m.0;
    })

-- a safe run that is taken
pub record RunRead (labels : LabelLists) (runs : List (List ℕ)) (fields : List (List ℕ)) (run : List ℕ) : Type 0 where
  pub text : IsLine fields (run_line labels run)
  pub regular : is_run (graph_at labels) run ≡ true
  pub follows : may_follow is_list_before (last_of runs) run ≡ true

pub run-line : (labels : LabelLists) (runs : List (List ℕ)) (fields : List (List ℕ)) (run : List ℕ) → run_after labels runs fields ≡ Ok run →
    RunRead labels runs fields run
run-line labels runs fields run h =
    let a = must-taken _ (has_words_and_more (codes "run" ∷ []) 3 fields) _ run h in
    let w = words-run (codes "run") fields a.0 in
    let b = given-taken _ (edges_in labels (drop 1 fields)) _ run a.1 in
    let m = must-taken _ (may_follow is_list_before (last_of runs) b.0) _ run b.2 in
    let r = run-named labels (drop 1 fields) b.0 w.1 b.1 in
    on-ok (RunRead labels runs fields) b.0 run m.1
    (record { text = is_line fields _ _ (w.0 ∙ ap (λ names. codes "run" ∷ names) r.1); regular = r.0; follows = m.0 })

-- a trail that is taken, without its tokens
pub record TrailRead (slots limit count : List ℕ) (t : Trail × ℕ) : Type 0 where
  pub decision : SpellsDecision slots limit t.0.decision
  pub count_is : count ≡ decimal t.1
  pub few : t.1 ≤ greatest
  pub empty : t.0.tokens ≡ []

pub trail-line : (slots limit count : List ℕ) (t : Trail × ℕ) → trail_in slots limit count ≡ Ok t → TrailRead slots limit count t
trail-line slots limit count t h =
    let a = given-taken _ (decision_in slots limit) _ t h in
    let b = given-taken _ (number_in 0 greatest count) _ t a.2 in
    let s = number-spelled 0 greatest count b.0 (omega arith) b.1 in
    let bare : Trail = record { decision = a.0; tokens = [] } in
    let made : Trail × ℕ = (bare, b.0) in
    on-ok (TrailRead slots limit count) made t b.2
    (record { decision = decision-spelled slots limit a.0 a.1; count_is = s.spelled; few = s.most_is; empty = refl })

abbrev TokenRead : List (List ℕ) → Token → Type 0
TokenRead fields token = IsLine fields (token_line token) × (is_token token ≡ true)

pub token-line : (fields : List (List ℕ)) (token : Token) → token_in fields ≡ Ok token → IsLine fields (token_line token) × (is_token token ≡ true)
token-line fields token h =
    elim (cond-taken (has_words (codes "gap" ∷ []) 1 fields) _ _ token h) [
      | inl a ↦ on-ok (TokenRead fields) Gap token a.1 (is_line fields _ _ (words-1-1 (codes "gap") fields a.0), refl)
      | inr a ↦
          elim (cond-taken (has_words (codes "miss" ∷ []) 2 fields) _ _ token a.1) [
            | inl b ↦
                let g = given-taken _ (place_in (field_at fields 1)) _ token b.1 in
                let s = place-spelled (field_at fields 1) g.0 g.1 in
                on-ok (TokenRead fields) (Miss g.0) token g.2 (is_line fields _ _ (words-1-2 (codes "miss") fields b.0 ∙ ap (λ f. codes "miss" ∷ f ∷ []) s.0), s.1)
            | inr b ↦
                elim (cond-taken (has_words (codes "split" ∷ []) 2 fields) _ _ token b.1) [
                  | inl c ↦
                      let g = given-taken _ (place_in (field_at fields 1)) _ token c.1 in
                      let s = place-spelled (field_at fields 1) g.0 g.1 in
                      on-ok (TokenRead fields) (Split g.0) token g.2 (is_line fields _ _ (words-1-2 (codes "split") fields c.0 ∙ ap (λ f. codes "split" ∷ f ∷ []) s.0), s.1)
                  | inr c ↦
                      let m = must-taken _ (has_words (codes "step" ∷ []) 2 fields) _ token c.1 in
                      let g = given-taken _ (place_in (field_at fields 1)) _ token m.1 in
                      let s = place-spelled (field_at fields 1) g.0 g.1 in
                      on-ok (TokenRead fields) (Step g.0) token g.2 (is_line fields _ _ (words-1-2 (codes "step") fields m.0 ∙ ap (λ f. codes "step" ∷ f ∷ []) s.0), s.1)
                ]
          ]
    ]

-- an item that is taken: its line, that it may stand in a report, and that it stands after the last one
pub record ItemRead (text : ℕ → List ℕ) (test : ℕ → Bool) (items : List ℕ) (fields : List (List ℕ)) (item : ℕ) : Type 0 where
  pub text_is : IsLine fields (text item)
  pub regular : test item ≡ true
  pub follows : may_follow nat_lt (last_of items) item ≡ true

pub edge-after : (labels : LabelLists) (edges : List ℕ) (fields : List (List ℕ)) (e : ℕ) → edge_after labels edges fields ≡ Ok e →
    ItemRead (edge_line labels) (λ e. nat_lt e (length labels.edges)) edges fields e
edge-after labels edges fields e h =
    let a = must-taken _ (has_words (codes "edge" ∷ []) 3 fields) _ e h in
    let b = given-taken _ (edge_in labels (field_at fields 1) (field_at fields 2)) _ e a.1 in
    let m = must-taken _ (may_follow nat_lt (last_of edges) b.0) _ e b.2 in
    let j = edge-named labels (field_at fields 1) (field_at fields 2) b.0 b.1 in
    let is =
    words-1-3 (codes "edge") fields a.0
    ∙ ap (λ f. codes "edge" ∷ f ∷ field_at fields 2 ∷ []) j.tail_name
    ∙ ap (λ f. codes "edge" ∷ name_at labels (tail_at labels b.0) ∷ f ∷ []) j.head_name in
    on-ok (ItemRead (edge_line labels) (λ e. nat_lt e (length labels.edges)) edges fields) b.0 e m.1
    (record { text_is = is_line fields _ _ is; regular = lt-ltb _ _ j.inside; follows = m.0 })

pub vertex-after : (labels : LabelLists) (vertices : List ℕ) (fields : List (List ℕ)) (v : ℕ) → vertex_after labels vertices fields ≡ Ok v →
    ItemRead (vertex_line labels) (λ v. nat_lt v (length labels.names)) vertices fields v
vertex-after labels vertices fields v h =
    let a = must-taken _ (has_words (codes "vertex" ∷ []) 2 fields) _ v h in
    let b = given-taken _ (vertex_in labels (field_at fields 1)) _ v a.1 in
    let m = must-taken _ (may_follow nat_lt (last_of vertices) b.0) _ v b.2 in
    let j = vertex-named labels (field_at fields 1) b.0 b.1 in
    on-ok (ItemRead (vertex_line labels) (λ v. nat_lt v (length labels.names)) vertices fields) b.0 v m.1
    (record { text_is = is_line fields _ _ (words-1-2 (codes "vertex") fields a.0 ∙ ap (λ f. codes "vertex" ∷ f ∷ []) j.1); regular = lt-ltb _ _ j.0; follows = m.0 })

pub rule-after : (rules : List ℕ) (fields : List (List ℕ)) (c : ℕ) → rule_after rules fields ≡ Ok c → ItemRead rule_line is_place rules fields c
rule-after rules fields c h =
    let a = must-taken _ (has_words (codes "rule" ∷ []) 2 fields) _ c h in
    let b = given-taken _ (place_in (field_at fields 1)) _ c a.1 in
    let m = must-taken _ (may_follow nat_lt (last_of rules) b.0) _ c b.2 in
    let s = place-spelled (field_at fields 1) b.0 b.1 in
    on-ok (ItemRead rule_line is_place rules fields) b.0 c m.1
    (record { text_is = is_line fields _ _ (words-1-2 (codes "rule") fields a.0 ∙ ap (λ f. codes "rule" ∷ f ∷ []) s.0); regular = s.1; follows = m.0 })

-- a path that is taken has a weight of at least 1
pub path-positive : (labels : LabelLists) (paths : List (List ℕ × ℕ)) (fields : List (List ℕ)) (entry : List ℕ × ℕ) →
    path_after labels paths fields ≡ Ok entry → 1 ≤ entry.1
path-positive labels paths fields entry h =
    let a = given-taken _ (number_in 1 greatest (field_at fields 1)) _ entry h in
    let b = given-taken _ (edges_in labels (drop 2 fields)) _ entry a.2 in
    let m = must-taken _ (may_follow comes_before (last_of paths) (b.0, a.0)) _ entry b.2 in
    let s = number-spelled 1 greatest (field_at fields 1) a.0 (omega arith) a.1 in
    let made : List ℕ × ℕ = (b.0, a.0) in
    on-ok (λ (e : List ℕ × ℕ). 1 ≤ e.1) made entry m.1 s.least_is
