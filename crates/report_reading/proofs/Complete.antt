-- The text of a regular report is read, and tells this report.
use Rattle.std.proofs.Common.{◌≡◌, ℕ, suc, ◌+◌, true, false, not, nat_le, ◌||◌, ◌&&◌, List, [], ◌∷◌, ◌++◌, length, take, drop, refl, sym, ap, subst, ◌∙◌, append_assoc, append-nil, ◌^◌, arith}
use Rattle.std.specs.Prelude.{Result, Ok, Err, Option, Some, None, decimal, codes, ◌==◌}
use Rattle.std.specs.List.{list_any, before_first, after_first, position_or_len}
use Rattle.std.proofs.lemmas.Bool.{and_parts, and_from, or_parts, or_from, or_right, cond-true, ne_eqb, leb-true, ltb-true, not-true, not_from_false}
use Rattle.std.proofs.Math.Seq.{take-append_seam}
use Rattle.std.proofs.lemmas.List.{drop_all}
use Rattle.std.proofs.lemmas.List.Folds.{list_any-append}
use Rattle.decomposition.specs.declared.Mode.{Mode}
use Rattle.decomposition.specs.declared.Mode.TheVariants.{Exact}
use Rattle.graph_text.specs.Labels.{LabelLists, AreLabels}
use Rattle.report_terms.specs.declared.report.Mark.{Mark}
use Rattle.report_terms.specs.declared.report.Mark.TheVariants.{Optimal, Infeasible, Bounds}
use Rattle.report_terms.specs.declared.report.Trail.{Trail}
use Rattle.report_terms.specs.declared.report.Solved.{Solved}
use Rattle.report_terms.specs.declared.report.Body.{Body}
use Rattle.report_terms.specs.declared.report.Body.TheVariants.{Refused, Solved as SolvedBody}
use Rattle.report_terms.specs.declared.report.Report.{Report}
use Rattle.report_reading.specs.declared.draft.Draft.{Draft}
use Rattle.report_reading.specs.declared.draft.Place.TheVariants.{Model, Third, PathOrCert, TrailHead, SafeOrEnd, End, Nothing}
use Rattle.report_reading.specs.declared.read_fault.ReadWhy.{ReadWhy}
use Rattle.report_reading.specs.declared.read_fault.ReadWhy.TheVariants.{BadForm, BadNumber}
use Rattle.report_terms.specs.NetFacts.{is_mode}
use Rattle.report_reading.specs.ReportText.{line, graph_line, trail_text, safe_text, body_text, text_of, fits, is_name, has_trail, are_runs_or_none, is_regular_solved, is_regular_body, is_regular}
use Rattle.report_reading.specs.LineFields.{greatest, number_in}
use Rattle.report_reading.specs.LineSteps.{given_ok, graph_in, found_so_far}
use Rattle.report_reading.specs.ListSteps.{after_cert}
use Rattle.report_reading.specs.BadLines.{at_last, numbered, read_from, text_lines, bad_line, nothing_found, empty_draft, drafted, IsTextOf}
use Rattle.report_reading.specs.ReaderLaws.{TextsAreOfOneReport, BadLinesAreOfNoReport}
use Rattle.report_reading.proofs.Regular.{solved-parts}
use Rattle.report_reading.proofs.Taken.{must-true, given-some}
use Rattle.report_reading.proofs.Soundness.{text-read}
use Rattle.report_reading.proofs.ReadingOn.{some_line, read_from-cons}
use Rattle.report_reading.proofs.GoodFields.{field-clean, split-at}
use Rattle.report_reading.proofs.Written.{decimal-field, number-written}
use Rattle.report_reading.proofs.GraphLine.{is_space, graph-named}
use Rattle.report_reading.proofs.Goes.{Goes, goes-none, goes-then}
use Rattle.report_reading.proofs.WrittenLines.{draft_at, small-greatest, goes-model, goes-refused, goes-mark, goes-lower, goes-upper, goes-end, goes-no_runs, goes-paths}
use Rattle.report_reading.proofs.WrittenCerts.{goes-cert, goes-trail, goes-runs}

-- where the first space of bytes is
place-at : (f rest : List ℕ) → list_any is_space f ≡ false → position_or_len is_space (f ++ 32 ∷ rest) ≡ length f
place-at [] rest h = refl
place-at (b ∷ f) rest h =
    let parts = or_parts (b == 32) (list_any is_space f) h in
    let k = place-at f rest parts.1 in
    cond-true (not (b == 32)) (1 + position_or_len is_space (f ++ 32 ∷ rest)) 0 (not_from_false _ parts.0) ∙ omega (arith, k)

place-none : (f : List ℕ) → list_any is_space f ≡ false → position_or_len is_space f ≡ length f
place-none [] h = refl
place-none (b ∷ f) h =
    let parts = or_parts (b == 32) (list_any is_space f) h in
    let k = place-none f parts.1 in
    cond-true (not (b == 32)) (1 + position_or_len is_space f) 0 (not_from_false _ parts.0) ∙ omega (arith, k)

drop-front : (f : List ℕ) (b : ℕ) (rest : List ℕ) → drop (suc (length f)) (f ++ b ∷ rest) ≡ rest
drop-front [] b rest = refl
drop-front (a ∷ f) b rest = drop-front f b rest

-- the line of the number and the name: its bytes, without a line feed, and what they tell
record GraphWritten (i : ℕ) (name : List ℕ) : Type 0 where
  bytes : List ℕ
  line_is : bytes ++ 10 ∷ [] ≡ graph_line i name
  feed : list_any (λ b. b == 10) bytes ≡ false
  told : (let made : ℕ × List ℕ = (i, name) in graph_in bytes ≡ Ok made)

graph-written : (i : ℕ) (name : List ℕ) → (nat_le 1 i && fits i) ≡ true → is_name name ≡ true → GraphWritten i name
graph-written i [] index good =
    let size = and_parts (nat_le 1 i) (fits i) index in
    let small = ltb-true i (2 ^ 64) size.1 in
    let f = decimal i in
    let c = field-clean f (decimal-field i small) in
    let place = place-none f c.space in
    let before : before_first is_space f ≡ f = ap (λ n. take n f) place ∙ ap (take (length f)) (sym (append-nil f)) ∙ take-append_seam f [] in
    let after : after_first is_space f ≡ [] = drop_all (position_or_len is_space f + 1) f (omega (arith, place)) in
    let some = (and_parts (not (length f == 0)) _ (decimal-field i small)).0 in
    record {
      bytes = codes "graph " ++ f;
      line_is = refl;
      feed = c.feed;
      told =
          graph-named (codes "graph " ++ f) f f [] (record { rest_is = refl; index_is = sym before; name_is = sym after }) refl
          (and_from (not (length f == 0)) (not (list_any (λ b. b == 9) f)) some (not_from_false _ c.tab))
          ∙ must-true BadForm _ _ (ap (λ t. not t || false) c.space)
          ∙ given-some BadNumber (number_in 1 greatest f) i (λ n. (let made : Result (ℕ × List ℕ) ReadWhy = Ok (n, []) in made))
          (number-written 1 greatest i (leb-true 1 i size.0) (small-greatest i small) small);
    }
graph-written i (b ∷ name) index good =
    let size = and_parts (nat_le 1 i) (fits i) index in
    let small = ltb-true i (2 ^ 64) size.1 in
    let f = decimal i in
    let c = field-clean f (decimal-field i small) in
    let filled : not (length (b ∷ name) == 0) ≡ true = not_from_false _ (ne_eqb (length (b ∷ name)) 0 (λ e. omega (arith, e))) in
    let rest = f ++ 32 ∷ b ∷ name in
    let place = place-at f (b ∷ name) c.space in
    let before : before_first is_space rest ≡ f = ap (λ n. take n rest) place ∙ take-append_seam f (32 ∷ b ∷ name) in
    let next : position_or_len is_space rest + 1 ≡ suc (length f) = omega (arith, place) in
    let after : after_first is_space rest ≡ b ∷ name = ap (λ n. drop n rest) next ∙ drop-front f 32 (b ∷ name) in
    let some = (and_parts (not (length f == 0)) _ (decimal-field i small)).0 in
    let no_feed = not-true _ (and_parts (not (list_any (λ x. x == 10) (b ∷ name))) _ good).0 in
    record {
      bytes = codes "graph " ++ rest;
      line_is = refl;
      feed =
          list_any-append (λ x. x == 10) f (32 ∷ b ∷ name)
          ∙ or_from (list_any (λ x. x == 10) f) (list_any (λ x. x == 10) (32 ∷ b ∷ name)) c.feed no_feed;
      told =
          graph-named (codes "graph " ++ rest) rest f (b ∷ name) (record { rest_is = refl; index_is = sym before; name_is = sym after }) refl
          (and_from (not (length f == 0)) (not (list_any (λ x. x == 9) f)) some (not_from_false _ c.tab))
          ∙ must-true BadForm _ _ (or_right (not (list_any is_space rest)) _ (and_from (not (length (b ∷ name) == 0)) (is_name (b ∷ name)) filled good))
          ∙ given-some BadNumber (number_in 1 greatest f) i (λ n. (let made : Result (ℕ × List ℕ) ReadWhy = Ok (n, b ∷ name) in made))
          (number-written 1 greatest i (leb-true 1 i size.0) (small-greatest i small) small);
    }

goes-graph : (labels : LabelLists) (i : ℕ) (name : List ℕ) → (nat_le 1 i && fits i) ≡ true → is_name name ≡ true →
    Goes labels empty_draft (graph_line i name) (draft_at Model i name Exact nothing_found)
goes-graph labels i name index good =
    let w = graph-written i name index good in
    subst (λ text. Goes labels empty_draft text (draft_at Model i name Exact nothing_found)) w.line_is
    (record {
      on = λ n rest. (
        n + 1,
        ap (λ t. read_from labels (text_lines t) n empty_draft) (append_assoc w.bytes (10 ∷ []) rest)
            ∙ ap (λ ls. read_from labels ls n empty_draft) (split-at 10 w.bytes rest w.feed)
            ∙ read_from-cons labels w.bytes (text_lines rest) n empty_draft (some_line rest)
            ∙ ap (λ r. numbered n (read_from labels (text_lines rest) (n + 1)) (given_ok r (λ (g : ℕ × List ℕ). Ok (draft_at Model g.0 g.1 Exact nothing_found)))) w.told,
      );
    })

-- a trail stands exactly with the mark bounds
trail-goes : (labels : LabelLists) (d : Draft) (mark : Mark) (trail : Option Trail) → has_trail mark trail ≡ true →
    Goes labels (found_so_far d (after_cert mark) (record d.solved { trail = None })) (trail_text trail) (found_so_far d SafeOrEnd (record d.solved { trail = trail }))
trail-goes labels d Optimal None h = goes-none labels _
trail-goes labels d Optimal (Some t) h = absurd (cc)
trail-goes labels d Infeasible None h = goes-none labels _
trail-goes labels d Infeasible (Some t) h = absurd (cc)
trail-goes labels d Bounds None h = absurd (cc)
trail-goes labels d Bounds (Some t) h = goes-trail labels (found_so_far d TrailHead (record d.solved { trail = None })) t h

-- a text up to the line `end`, and this line
record Ends (labels : LabelLists) (d : Draft) (text : List ℕ) (e : Draft) : Type 0 where
  before : Draft
  goes : Goes labels d text before
  ends : Goes labels before (line (codes "end" ∷ [])) e

runs-end : (labels : LabelLists) (d : Draft) (safe : Option (List (List ℕ))) → AreLabels labels → are_runs_or_none labels safe ≡ true →
    Ends labels (found_so_far d SafeOrEnd (record d.solved { safe = None })) (safe_text labels safe) (found_so_far d Nothing (record d.solved { safe = safe }))
runs-end labels d None are h =
    let here = found_so_far d SafeOrEnd (record d.solved { safe = None }) in
    record { before = here; goes = goes-none labels here; ends = goes-no_runs labels here }
runs-end labels d (Some runs) are h =
    let here = found_so_far d SafeOrEnd (record d.solved { safe = None }) in
    let there = found_so_far d End (record d.solved { safe = Some runs }) in
    record { before = there; goes = goes-runs labels here runs are h; ends = goes-end labels there }

solved-ends : (labels : LabelLists) (i : ℕ) (name : List ℕ) (m : Mode) (s : Solved) → AreLabels labels → is_regular_solved labels s ≡ true →
    Ends labels (draft_at Third i name m nothing_found) (body_text labels (SolvedBody s)) (draft_at Nothing i name m s)
solved-ends labels i name m s are h =
    let is = solved-parts labels s h in
    let one = record nothing_found { mark = s.mark } in
    let two = record one { lower = s.lower } in
    let three = record two { upper = s.upper } in
    let four = record three { paths = s.paths } in
    let five = record four { cert = s.cert } in
    let six = record five { trail = s.trail } in
    let bounds = goes-then (goes-then (goes-mark labels i name m nothing_found s.mark) (goes-lower labels i name m one s.lower is.lower)) (goes-upper labels i name m two s.upper is.upper) in
    let paths = goes-then bounds (goes-paths labels (draft_at PathOrCert i name m three) s.paths are is.paths is.order) in
    let cert = goes-then paths (goes-cert labels (draft_at PathOrCert i name m four) s.cert are is.cert) in
    let trail = goes-then cert (trail-goes labels (draft_at PathOrCert i name m five) s.mark s.trail is.trail) in
    let end_of = runs-end labels (draft_at SafeOrEnd i name m six) s.safe are is.safe in
    record { before = end_of.before; goes = goes-then trail end_of.goes; ends = end_of.ends }

-- a draft that is at its end, and tells this body
record Tells (labels : LabelLists) (i : ℕ) (name : List ℕ) (m : Mode) (body : Body) : Type 0 where
  last : Draft
  ends : Ends labels (draft_at Third i name m nothing_found) (body_text labels body) last
  place_is : last.place ≡ Nothing
  tells : (let r : Report = record { index = i; name = name; mode = m; body = body } in drafted last ≡ r)

body-told : (labels : LabelLists) (i : ℕ) (name : List ℕ) (m : Mode) (body : Body) → AreLabels labels → is_regular_body labels body ≡ true → Tells labels i name m body
body-told labels i name m (Refused r) are h =
    let d = draft_at Third i name m nothing_found in
    let there = record d { place = End; refusal = Some r } in
    record {
      last = record there { place = Nothing };
      ends = record { before = there; goes = goes-refused labels d r refl h; ends = goes-end labels there };
      place_is = refl;
      tells = refl;
    }
body-told labels i name m (SolvedBody s) are h =
    record { last = draft_at Nothing i name m s; ends = solved-ends labels i name m s are h; place_is = refl; tells = refl }

-- the text of a regular report is read, and tells it
record Reads (labels : LabelLists) (r : Report) : Type 0 where
  draft : Draft
  read : read_from labels (text_lines (text_of labels r)) 1 empty_draft ≡ Ok draft
  tells : drafted draft ≡ r

at_end : (labels : LabelLists) (e : Draft) (m : ℕ) → e.place ≡ Nothing → read_from labels (text_lines []) m e ≡ Ok e
at_end labels e m h = ap (at_last e [] m) h

reads : (labels : LabelLists) (r : Report) → AreLabels labels → is_regular labels r ≡ true → Reads labels r
reads labels r are h =
    let body = is_regular_body labels r.body in
    let a = and_parts (nat_le 1 r.index && fits r.index) (is_name r.name && (is_mode r.mode && body)) h in
    let b = and_parts (is_name r.name) (is_mode r.mode && body) a.1 in
    let c = and_parts (is_mode r.mode) body b.1 in
    let t = body-told labels r.index r.name r.mode r.body are c.1 in
    let all = goes-then (goes-then (goes-then (goes-graph labels r.index r.name a.0 b.0) (goes-model labels r.index r.name Exact r.mode nothing_found c.0)) t.ends.goes) t.ends.ends in
    let on = all.on 1 [] in
    record {
      draft = t.last;
      read = ap (λ x. read_from labels (text_lines x) 1 empty_draft) (sym (append-nil (text_of labels r))) ∙ on.1 ∙ at_end labels t.last on.0 t.place_is;
      tells = t.tells;
    }

-- a text of a report is read
text-reads : (labels : LabelLists) (r : Report) (text : List ℕ) → AreLabels labels → IsTextOf labels r text →
    (e : Draft) × (read_from labels (text_lines text) 1 empty_draft ≡ Ok e) × (drafted e ≡ r)
text-reads labels r text are is =
    let a = reads labels r are is.regular in
    (a.draft, ap (λ x. read_from labels (text_lines x) 1 empty_draft) is.text_is ∙ a.read, a.tells)

pub texts_are_of_one_report : TextsAreOfOneReport
texts_are_of_one_report labels one other text are is also =
    let a = text-reads labels one text are is in
    let b = text-reads labels other text are also in
    let same : a.0 ≡ b.0 = cc (sym a.1 ∙ b.1) in
    sym a.2 ∙ ap drafted same ∙ b.2

none-bad : (r : Result Draft (ℕ × ReadWhy)) → bad_line r ≡ None → (d : Draft) × (r ≡ Ok d)
none-bad (Ok d) h = (d, refl)
none-bad (Err bad) h = absurd (cc)

pub bad_lines_are_of_no_report : BadLinesAreOfNoReport
bad_lines_are_of_no_report labels text are = (
  λ none. let a = none-bad (read_from labels (text_lines text) 1 empty_draft) none in (drafted a.0, text-read labels text a.0 a.1),
  λ (r, is). let a = text-reads labels r text are is in ap bad_line a.1,
)
