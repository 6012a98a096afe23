-- The lines of a regular report are taken, one after another.
use Rattle.std.proofs.Common.{◌≡◌, ℕ, ◌+◌, ◌-◌, ◌^◌, ◌<◌, ◌≤◌, true, nat_le, ◌&&◌, List, [], ◌∷◌, ◌++◌, length, refl, sym, ap, subst, ◌∙◌, arith}
use Rattle.std.specs.Prelude.{Ok, Option, Some, None, decimal, codes, flat_map, ◌==◌}
use Rattle.std.specs.List.{list_all}
use Rattle.std.proofs.lemmas.Bool.{and_parts, and_from, cond-true, cond-false, ne_eqb, leb-true, ltb-true, le-leb}
use Rattle.decomposition.specs.declared.Mode.{Mode}
use Rattle.decomposition.specs.declared.Mode.TheVariants.{Exact, Interval, Abs}
use Rattle.decomposition.specs.Graph.{is_run}
use Rattle.decomposition.specs.Answer.{comes_before, is_ordered}
use Rattle.report_terms.specs.declared.refusal.Refusal.{Refusal}
use Rattle.report_terms.specs.declared.refusal.Why.{Why}
use Rattle.report_terms.specs.declared.refusal.Why.TheVariants.{LongLine, BadCount, BadFields, BadWeight, BadRange, RepeatedEdge, TooManyEdges, TooManyConstraints, ShortConstraint, Cycle, UnknownEdge, Unconserved}
use Rattle.graph_text.specs.Labels.{LabelLists, AreLabels, is_field}
use Rattle.report_terms.specs.declared.report.Mark.{Mark}
use Rattle.report_terms.specs.declared.report.Mark.TheVariants.{Optimal, Infeasible, Bounds}
use Rattle.report_terms.specs.declared.report.Cert.{Cert}
use Rattle.report_terms.specs.declared.report.Solved.{Solved}
use Rattle.report_reading.specs.declared.draft.Draft.{Draft}
use Rattle.report_reading.specs.declared.draft.Place.{Place}
use Rattle.report_reading.specs.declared.draft.Place.TheVariants.{Model, Third, Lower, Upper, PathOrCert, Item, SafeOrEnd, End, Nothing}
use Rattle.report_reading.specs.declared.read_fault.ReadWhy.TheVariants.{BadForm, BadNumber, BadName, BadOrder}
use Rattle.report_reading.specs.Names.{graph_at, names_along}
use Rattle.report_terms.specs.NetFacts.{is_mode}
use Rattle.report_reading.specs.ReportText.{line, number_or_none, model_line, why_word, mark_word, path_line, fits, fits_or_none, is_path_entry}
use Rattle.report_reading.specs.LineFields.{greatest, number_in, why_in, edges_in}
use Rattle.report_reading.specs.LineSteps.{must, given, given_ok, found_so_far, model_step, third_step, lower_step, upper_step, end_step}
use Rattle.report_reading.specs.ListSteps.{last_of, may_follow, path_after, with_item, after_cert, before_items, cert_step, path_or_cert_step, item_step, safe_or_end_step}
use Rattle.report_reading.proofs.Written.{decimal-field, number-written, bound-field, limit-written}
use Rattle.report_reading.proofs.WrittenNames.{run-written}
use Rattle.report_reading.proofs.Goes.{Goes, goes-fields, goes-list, MayFollow, all-follow}

-- a draft without a refusal
abbrev pub draft_at : Place → ℕ → List ℕ → Mode → Solved → Draft
draft_at place index name mode s = record { place = place; index = index; name = name; mode = mode; refusal = None; solved = s }

-- fields behind words that are fields
pub good-1 : (f : List ℕ) → is_field f ≡ true → list_all is_field (f ∷ []) ≡ true
good-1 f h = and_from (is_field f) true h refl

pub good-2 : (f g : List ℕ) → is_field f ≡ true → is_field g ≡ true → list_all is_field (f ∷ g ∷ []) ≡ true
good-2 f g h k = and_from (is_field f) (list_all is_field (g ∷ [])) h (good-1 g k)

pub good-3 : (f g e : List ℕ) → is_field f ≡ true → is_field g ≡ true → is_field e ≡ true → list_all is_field (f ∷ g ∷ e ∷ []) ≡ true
good-3 f g e h k l = and_from (is_field f) (list_all is_field (g ∷ e ∷ [])) h (good-2 g e k l)

pub small-greatest : (n : ℕ) → n < 2 ^ 64 → n ≤ greatest
small-greatest n h = omega (arith, h)

pub goes-model : (labels : LabelLists) (i : ℕ) (name : List ℕ) (old m : Mode) (s : Solved) → is_mode m ≡ true →
    Goes labels (draft_at Model i name old s) (model_line m) (draft_at Third i name m s)
goes-model labels i name old Exact s h =
    goes-fields labels _ _ (model_step (draft_at Model i name old s)) (codes "model") (codes "exact" ∷ []) (λ l. refl) refl refl
goes-model labels i name old Interval s h =
    goes-fields labels _ _ (model_step (draft_at Model i name old s)) (codes "model") (codes "interval" ∷ []) (λ l. refl) refl refl
goes-model labels i name old (Abs k) s h =
    let most = leb-true k 64 h in
    goes-fields labels _ _ (model_step (draft_at Model i name old s)) (codes "model") (codes "abs" ∷ decimal k ∷ []) (λ l. refl)
    (good-1 (decimal k) (decimal-field k (omega (arith, most))))
    (ap (λ o. given_ok (given BadNumber o (λ n. Ok (Abs n))) (λ mode. Ok (draft_at Third i name mode s))) (number-written 0 64 k (omega arith) most (omega (arith, most))))

-- the word of a refusal is a field, and tells it
record WhyWritten (w : Why) : Type 0 where
  good : is_field (why_word w) ≡ true
  told : why_in (why_word w) ≡ Some w

why-written : (w : Why) → WhyWritten w
why-written LongLine = record { good = refl; told = refl }
why-written BadCount = record { good = refl; told = refl }
why-written BadFields = record { good = refl; told = refl }
why-written BadWeight = record { good = refl; told = refl }
why-written BadRange = record { good = refl; told = refl }
why-written RepeatedEdge = record { good = refl; told = refl }
why-written TooManyEdges = record { good = refl; told = refl }
why-written TooManyConstraints = record { good = refl; told = refl }
why-written ShortConstraint = record { good = refl; told = refl }
why-written Cycle = record { good = refl; told = refl }
why-written UnknownEdge = record { good = refl; told = refl }
why-written Unconserved = record { good = refl; told = refl }

pub goes-refused : (labels : LabelLists) (d : Draft) (r : Refusal) → d.place ≡ Third → (nat_le 1 r.line && fits r.line) ≡ true →
    Goes labels (record d { place = Third }) (line (codes "refused" ∷ decimal r.line ∷ why_word r.why ∷ [])) (record d { place = End; refusal = Some r })
goes-refused labels d r at h =
    let parts = and_parts (nat_le 1 r.line) (fits r.line) h in
    let small = ltb-true r.line (2 ^ 64) parts.1 in
    let made : ℕ → Why → Refusal = λ n w. record { line = n; why = w } in
    goes-fields labels _ _ (third_step (record d { place = Third })) (codes "refused") (decimal r.line ∷ why_word r.why ∷ []) (λ l. refl)
    (good-2 (decimal r.line) (why_word r.why) (decimal-field r.line small) (why-written r.why).good)
    (ap (λ o. given_ok (given BadForm o (λ why. given BadNumber (number_in 1 greatest (decimal r.line)) (λ n. Ok (made n why)))) (λ refusal. Ok (record d { place = End; refusal = Some refusal }))) (why-written r.why).told
    ∙ ap (λ o. given_ok (given BadNumber o (λ n. Ok (made n r.why))) (λ refusal. Ok (record d { place = End; refusal = Some refusal })))
    (number-written 1 greatest r.line (leb-true 1 r.line parts.0) (small-greatest r.line small) small))

pub goes-mark : (labels : LabelLists) (i : ℕ) (name : List ℕ) (m : Mode) (s : Solved) (mark : Mark) →
    Goes labels (draft_at Third i name m s) (line (codes "mark" ∷ mark_word mark ∷ [])) (draft_at Lower i name m (record s { mark = mark }))
goes-mark labels i name m s Optimal =
    goes-fields labels _ _ (third_step (draft_at Third i name m s)) (codes "mark") (codes "optimal" ∷ []) (λ l. refl) refl refl
goes-mark labels i name m s Infeasible =
    goes-fields labels _ _ (third_step (draft_at Third i name m s)) (codes "mark") (codes "infeasible" ∷ []) (λ l. refl) refl refl
goes-mark labels i name m s Bounds =
    goes-fields labels _ _ (third_step (draft_at Third i name m s)) (codes "mark") (codes "bounds" ∷ []) (λ l. refl) refl refl

pub goes-lower : (labels : LabelLists) (i : ℕ) (name : List ℕ) (m : Mode) (s : Solved) (bound : Option ℕ) → fits_or_none bound ≡ true →
    Goes labels (draft_at Lower i name m s) (line (codes "lower" ∷ number_or_none bound ∷ [])) (draft_at Upper i name m (record s { lower = bound }))
goes-lower labels i name m s bound h =
    goes-fields labels _ _ (lower_step (draft_at Lower i name m s)) (codes "lower") (number_or_none bound ∷ []) (λ l. refl)
    (good-1 (number_or_none bound) (bound-field bound h))
    (ap (λ o. given_ok (given BadNumber o (λ b. Ok b)) (λ b. Ok (draft_at Upper i name m (record s { lower = b })))) (limit-written bound h))

pub goes-upper : (labels : LabelLists) (i : ℕ) (name : List ℕ) (m : Mode) (s : Solved) (bound : Option ℕ) → fits_or_none bound ≡ true →
    Goes labels (draft_at Upper i name m s) (line (codes "upper" ∷ number_or_none bound ∷ [])) (draft_at PathOrCert i name m (record s { upper = bound }))
goes-upper labels i name m s bound h =
    goes-fields labels _ _ (upper_step (draft_at Upper i name m s)) (codes "upper") (number_or_none bound ∷ []) (λ l. refl)
    (good-1 (number_or_none bound) (bound-field bound h))
    (ap (λ o. given_ok (given BadNumber o (λ b. Ok b)) (λ b. Ok (draft_at PathOrCert i name m (record s { upper = b })))) (limit-written bound h))

pub goes-end : (labels : LabelLists) (d : Draft) → Goes labels (record d { place = End }) (line (codes "end" ∷ [])) (record d { place = Nothing })
goes-end labels d = goes-fields labels _ _ (end_step (record d { place = End })) (codes "end") [] (λ l. refl) refl refl

pub goes-no_runs : (labels : LabelLists) (d : Draft) → Goes labels (record d { place = SafeOrEnd }) (line (codes "end" ∷ [])) (record d { place = Nothing })
goes-no_runs labels d = goes-fields labels _ _ (safe_or_end_step (record d { place = SafeOrEnd })) (codes "end") [] (λ l. refl) refl refl

-- a path, behind the paths that were read
goes-path : (labels : LabelLists) (d : Draft) (done : List (List ℕ × ℕ)) (entry : List ℕ × ℕ) → AreLabels labels →
    MayFollow (is_path_entry labels) comes_before done entry →
    Goes labels (found_so_far d PathOrCert (record d.solved { paths = done })) (path_line labels entry)
    (found_so_far d PathOrCert (record d.solved { paths = done ++ entry ∷ [] }))
goes-path labels d done entry are may =
    let parts = and_parts (is_run (graph_at labels) entry.0) (nat_le 1 entry.1 && fits entry.1) may.pass in
    let size = and_parts (nat_le 1 entry.1) (fits entry.1) parts.1 in
    let small = ltb-true entry.1 (2 ^ 64) size.1 in
    let run = run-written labels entry.0 are parts.0 in
    let old : Draft = found_so_far d PathOrCert (record d.solved { paths = done }) in
    let new : List ℕ × ℕ → Draft = λ e. found_so_far d PathOrCert (record d.solved { paths = done ++ e ∷ [] }) in
    let names = names_along labels entry.0 in
    let fields = codes "path" ∷ decimal entry.1 ∷ names in
    let there : (nat_le 4 (length fields) && true) ≡ true = and_from (nat_le 4 (length fields)) true (le-leb 4 (length fields) (omega (arith, run.two))) refl in
    let pair : List ℕ → ℕ → List ℕ × ℕ = λ p w. (p, w) in
    goes-fields labels _ _ (path_or_cert_step labels old) (codes "path") (decimal entry.1 ∷ names) (λ l. refl)
    (and_from (is_field (decimal entry.1)) (list_all is_field names) (decimal-field entry.1 small) run.fields)
    (cond-true _ (given_ok (path_after labels done fields) (λ e. Ok (new e))) (cert_step labels old fields) there
    ∙ ap (λ o. given_ok (given BadNumber o (λ w. given BadName (edges_in labels names) (λ p. must BadOrder (may_follow comes_before (last_of done) (pair p w)) (Ok (pair p w))))) (λ e. Ok (new e)))
    (number-written 1 greatest entry.1 (leb-true 1 entry.1 size.0) (small-greatest entry.1 small) small)
    ∙ ap (λ o. given_ok (given BadName o (λ p. must BadOrder (may_follow comes_before (last_of done) (pair p entry.1)) (Ok (pair p entry.1)))) (λ e. Ok (new e))) run.edges
    ∙ ap (λ t. given_ok (must BadOrder t (Ok entry)) (λ e. Ok (new e))) may.follows)

pub goes-paths : (labels : LabelLists) (d : Draft) (paths : List (List ℕ × ℕ)) → AreLabels labels → list_all (is_path_entry labels) paths ≡ true →
    is_ordered comes_before paths ≡ true →
    Goes labels (found_so_far d PathOrCert (record d.solved { paths = [] })) (flat_map (path_line labels) paths)
    (found_so_far d PathOrCert (record d.solved { paths = paths }))
goes-paths labels d paths are all ordered =
    goes-list labels (λ n done. found_so_far d PathOrCert (record d.solved { paths = done })) (path_line labels) (MayFollow (is_path_entry labels) comes_before)
    (λ done entry n may. goes-path labels d done entry are may) paths [] (all-follow (is_path_entry labels) comes_before paths [] all ordered)

-- an item of a certificate
pub goes-item : (labels : LabelLists) (d : Draft) (n : ℕ) (old new : Cert) (f : List ℕ) (fs : List (List ℕ)) → list_all is_field (f ∷ fs) ≡ true →
    with_item labels old (f ∷ fs) ≡ Ok new →
    Goes labels (found_so_far d (before_items d.solved.mark (n + 1)) (record d.solved { cert = old })) (line (f ∷ fs))
    (found_so_far d (before_items d.solved.mark n) (record d.solved { cert = new }))
goes-item labels d n old new f fs good h =
    let here : Draft = found_so_far d (Item (n + 1)) (record d.solved { cert = old }) in
    let place : Item (n + 1) ≡ before_items d.solved.mark (n + 1) =
    sym (cond-false (n + 1 == 0) (after_cert d.solved.mark) (Item (n + 1)) (ne_eqb (n + 1) 0 (λ e. omega (arith, e)))) in
    let back : n + 1 - 1 ≡ n = omega arith in
    subst (λ p. Goes labels (found_so_far d p (record d.solved { cert = old })) (line (f ∷ fs)) (found_so_far d (before_items d.solved.mark n) (record d.solved { cert = new }))) place
    (goes-fields labels _ _ (item_step labels here (n + 1)) f fs (λ l. refl) good
    (ap (λ r. given_ok r (λ cert. Ok (found_so_far d (before_items d.solved.mark (n + 1 - 1)) (record d.solved { cert = cert })))) h
    ∙ ap (λ k. Ok (found_so_far d (before_items d.solved.mark k) (record d.solved { cert = new }))) back))
