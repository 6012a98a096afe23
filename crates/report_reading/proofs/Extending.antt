-- Each line that is taken makes the text of a draft longer by this line.
use Rattle.std.proofs.Common.{◌≡◌, ℕ, suc, ◌+◌, ◌-◌, ◌^◌, ◌<◌, Bool, true, false, ◌&&◌, List, [], ◌∷◌, ◌++◌, length, refl, sym, ap, subst, ◌∙◌, inl, inr, arith, append-nil, append_assoc, lt-ltb}
use Rattle.std.specs.Prelude.{Option, Some, None, Ok, decimal, codes, flat_map, ◌==◌, ◌⊎◌}
use Rattle.std.specs.List.{list_all}
use Rattle.std.specs.Option.{option_map, unwrap_or}
use Rattle.std.proofs.lemmas.Bool.{and_from, cases_Bool, cond-true, cond-false, eqb-true, eqb-false}
use Rattle.std.proofs.lemmas.Grind.{flat_map-append}
use Rattle.std.proofs.lemmas.List.{length_push}
use Rattle.std.proofs.lemmas.List.Folds.{list_all-append}
use Rattle.decomposition.specs.declared.Token.{Token}
use Rattle.decomposition.specs.Graph.{is_run, is_list_before}
use Rattle.decomposition.specs.Answer.{comes_before, is_ordered}
use Rattle.graph_text.specs.Labels.{LabelLists}
use Rattle.report_terms.specs.declared.report.Mark.{Mark}
use Rattle.report_terms.specs.declared.report.Mark.TheVariants.{Optimal, Infeasible, Bounds}
use Rattle.report_terms.specs.declared.report.Cert.{Cert}
use Rattle.report_terms.specs.declared.report.Trail.{Trail}
use Rattle.report_reading.specs.declared.draft.Draft.{Draft}
use Rattle.report_reading.specs.declared.draft.Place.{Place}
use Rattle.report_reading.specs.declared.draft.Place.TheVariants.{Graph, Model, Third, Lower, Upper, PathOrCert, Item, TrailHead, TrailToken, SafeOrEnd, Run, End, Nothing}
use Rattle.report_reading.specs.declared.read_fault.ReadWhy.TheVariants.{BadNumber}
use Rattle.report_reading.specs.Names.{graph_at}
use Rattle.report_reading.specs.ReportText.{line, number_or_none, graph_line, path_line, run_line, token_line, cert_text, trail_text, safe_text, marks_text, body_text, fits, is_path_entry, is_cert, has_trail, are_runs, are_runs_or_none, fits_or_none, is_regular_solved, is_regular_body}
use Rattle.report_reading.specs.LineFields.{spaced_fields, field_at, has_words, has_words_and_more, greatest, number_in}
use Rattle.report_reading.specs.LineSteps.{given, given_ok, graph_in, model_in, mark_in, refusal_in, bound_in, found_so_far, graph_step, model_step, third_step, lower_step, upper_step, end_step}
use Rattle.report_reading.specs.ListSteps.{path_after, cert_in, trail_in, token_in, with_item, with_token, run_after, after_cert, before_items, before_tokens, before_runs, cert_step, path_or_cert_step, item_step, trail_step, trail_token_step, safe_or_end_step, run_step}
use Rattle.report_reading.specs.BadLines.{drafted_body, step_at}
use Rattle.report_reading.proofs.Taken.{must-taken, given-taken, given_ok-taken, cond-taken}
use Rattle.report_reading.proofs.Spelled.{number-spelled}
use Rattle.report_reading.proofs.WordTests.{words-1-1, words-1-2, words-1-4}
use Rattle.report_reading.proofs.Following.{is_ordered-push}
use Rattle.report_reading.proofs.LineTexts.{is_line, IsLine-text, on-ok, model-line, mark-line, refusal-line, bound-line, path-line, run-line, trail-line, token-line}
use Rattle.report_reading.proofs.GraphLine.{graph-read}
use Rattle.report_reading.proofs.CertTexts.{trail_head, cert_so_far, IsCertPart, IsTrailPart, cert-done, cert-regular, trail_part, trail-done, trail-more, trail-listed, cert-line, item-added}
use Rattle.report_reading.proofs.ReadSoFar.{two_lines, mark_line, to_paths, to_cert, to_trail, trail_so_far, runs_so_far, text_at, IsPathed, IsCertified, IsTrailed, AreRunsPart, IsDone, IsFitAt, ReadsTo}

-- a text with a line more
abbrev more : LabelLists → Draft → Place → List ℕ → List ℕ
more labels d place l = text_at labels d place ++ (l ++ 10 ∷ [])

graph-extends : (labels : LabelLists) (d e : Draft) (l : List ℕ) → IsFitAt labels d Graph → graph_step d l ≡ Ok e → ReadsTo labels (more labels d Graph l) e
graph-extends labels d e l fit h =
    let g = given_ok-taken (graph_in l) _ e h in
    let r = graph-read l g.0 g.1 in
    let made : Draft = record d { place = Model; index = g.0.0; name = g.0.1 } in
    on-ok (ReadsTo labels (more labels d Graph l)) made e g.2
    (record {
      text_is = r.text;
      fit = (
        record { no_refusal = fit.no_refusal; no_paths = fit.no_paths; no_trail = fit.no_trail; no_safe = fit.no_safe },
        record { index = r.index; name = r.name },
      );
    })

model-extends : (labels : LabelLists) (d e : Draft) (l : List ℕ) → IsFitAt labels d Model → model_step d (spaced_fields l) ≡ Ok e →
    ReadsTo labels (more labels d Model l) e
model-extends labels d e l fit h =
    let g = given_ok-taken (model_in (spaced_fields l)) _ e h in
    let r = model-line (spaced_fields l) g.0 g.1 in
    let made : Draft = record d { place = Third; mode = g.0 } in
    on-ok (ReadsTo labels (more labels d Model l)) made e g.2
    (record {
      text_is = ap (λ x. graph_line d.index d.name ++ x) (IsLine-text l _ r.0);
      fit = (
        record { no_refusal = fit.0.no_refusal; no_paths = fit.0.no_paths; no_trail = fit.0.no_trail; no_safe = fit.0.no_safe },
        record { headed = record { index = fit.1.index; name = fit.1.name }; mode = r.1 },
      );
    })

refused-extends : (labels : LabelLists) (d e : Draft) (l : List ℕ) → IsFitAt labels d Third → has_words (codes "refused" ∷ []) 3 (spaced_fields l) ≡ true →
    given_ok (refusal_in (spaced_fields l)) (λ refusal. Ok (record d { place = End; refusal = Some refusal })) ≡ Ok e →
    ReadsTo labels (more labels d Third l) e
refused-extends labels d e l fit words h =
    let g = given_ok-taken (refusal_in (spaced_fields l)) _ e h in
    let r = refusal-line (spaced_fields l) g.0 words g.1 in
    let made : Draft = record d { place = End; refusal = Some g.0 } in
    on-ok (ReadsTo labels (more labels d Third l)) made e g.2
    (record {
      text_is = ap (λ x. two_lines d ++ x) (IsLine-text l _ r.0);
      fit = record { modelled = record { headed = record { index = fit.1.headed.index; name = fit.1.headed.name }; mode = fit.1.mode }; body = r.1 };
    })

mark-extends : (labels : LabelLists) (d e : Draft) (l : List ℕ) → IsFitAt labels d Third →
    given_ok (mark_in (spaced_fields l)) (λ mark. Ok (found_so_far d Lower (record d.solved { mark = mark }))) ≡ Ok e → ReadsTo labels (more labels d Third l) e
mark-extends labels d e l fit h =
    let g = given_ok-taken (mark_in (spaced_fields l)) _ e h in
    let r = mark-line (spaced_fields l) g.0 g.1 in
    let made : Draft = found_so_far d Lower (record d.solved { mark = g.0 }) in
    on-ok (ReadsTo labels (more labels d Third l)) made e g.2
    (record {
      text_is = ap (λ x. two_lines d ++ x) (IsLine-text l _ r);
      fit = (
        record { no_refusal = fit.0.no_refusal; no_paths = fit.0.no_paths; no_trail = fit.0.no_trail; no_safe = fit.0.no_safe },
        record { headed = record { index = fit.1.headed.index; name = fit.1.headed.name }; mode = fit.1.mode },
      );
    })

third-extends : (labels : LabelLists) (d e : Draft) (l : List ℕ) → IsFitAt labels d Third → third_step d (spaced_fields l) ≡ Ok e →
    ReadsTo labels (more labels d Third l) e
third-extends labels d e l fit h =
    elim (cond-taken (has_words (codes "refused" ∷ []) 3 (spaced_fields l)) _ _ e h) [
      | inl a ↦ refused-extends labels d e l fit a.0 a.1
      | inr a ↦ mark-extends labels d e l fit a.1
    ]

lower-extends : (labels : LabelLists) (d e : Draft) (l : List ℕ) → IsFitAt labels d Lower → lower_step d (spaced_fields l) ≡ Ok e →
    ReadsTo labels (more labels d Lower l) e
lower-extends labels d e l fit h =
    let g = given_ok-taken (bound_in (codes "lower") (spaced_fields l)) _ e h in
    let r = bound-line (codes "lower") (spaced_fields l) g.0 g.1 in
    let made : Draft = found_so_far d Upper (record d.solved { lower = g.0 }) in
    on-ok (ReadsTo labels (more labels d Lower l)) made e g.2
    (record {
      text_is = ap (λ x. (two_lines d ++ mark_line d) ++ x) (IsLine-text l _ r.0) ∙ append_assoc (two_lines d) (mark_line d) _;
      fit = (
        record { no_refusal = fit.0.no_refusal; no_paths = fit.0.no_paths; no_trail = fit.0.no_trail; no_safe = fit.0.no_safe },
        record { headed = record { index = fit.1.headed.index; name = fit.1.headed.name }; mode = fit.1.mode },
        r.1,
      );
    })

upper-extends : (labels : LabelLists) (d e : Draft) (l : List ℕ) → IsFitAt labels d Upper → upper_step d (spaced_fields l) ≡ Ok e →
    ReadsTo labels (more labels d Upper l) e
upper-extends labels d e l fit h =
    let g = given_ok-taken (bound_in (codes "upper") (spaced_fields l)) _ e h in
    let r = bound-line (codes "upper") (spaced_fields l) g.0 g.1 in
    let made : Draft = found_so_far d PathOrCert (record d.solved { upper = g.0 }) in
    let marks = marks_text made.solved in
    let bounds = mark_line d ++ line (codes "lower" ∷ number_or_none d.solved.lower ∷ []) in
    on-ok (ReadsTo labels (more labels d Upper l)) made e g.2
    (record {
      text_is =
          ap (λ x. (two_lines d ++ bounds) ++ x) (IsLine-text l _ r.0)
          ∙ append_assoc (two_lines d) bounds _
          ∙ ap (λ x. two_lines d ++ x) (sym (append-nil marks))
          ∙ ap (λ (paths : List (List ℕ × ℕ)). two_lines d ++ (marks ++ flat_map (path_line labels) paths)) (sym fit.0.no_paths);
      fit =
          record {
            pathed =
                record {
                  modelled = record { headed = record { index = fit.1.headed.index; name = fit.1.headed.name }; mode = fit.1.mode };
                  no_refusal = fit.0.no_refusal;
                  lower = fit.2;
                  upper = r.1;
                  paths = ap (list_all (is_path_entry labels)) fit.0.no_paths;
                  order = ap (is_ordered comes_before) fit.0.no_paths;
                };
            no_trail = fit.0.no_trail;
            no_safe = fit.0.no_safe;
          };
    })

-- from equal texts
reads-same : (labels : LabelLists) (t u : List ℕ) (d : Draft) → t ≡ u → ReadsTo labels u d → ReadsTo labels t d
reads-same labels t u d e reads = record { text_is = e ∙ reads.text_is; fit = reads.fit }

flat_map-push : {X : Type 0} (f : X → List ℕ) (xs : List X) (x : X) → flat_map f xs ++ f x ≡ flat_map f (xs ++ x ∷ [])
flat_map-push f xs x = sym (flat_map-append f xs (x ∷ []) ∙ ap (λ t. flat_map f xs ++ t) (append-nil (f x)))

all-push : {X : Type 0} (test : X → Bool) (xs : List X) (x : X) → list_all test xs ≡ true → test x ≡ true → list_all test (xs ++ x ∷ []) ≡ true
all-push test xs x all one = list_all-append test xs (x ∷ []) ∙ and_from (list_all test xs) (test x && true) all (and_from (test x) true one refl)

-- what is known of the paths is known whatever place, certificate, trail and runs follow
pathed-with : (labels : LabelLists) (d : Draft) (p : Place) (c : Cert) (t : Option Trail) (s : Option (List (List ℕ))) → IsPathed labels d →
    IsPathed labels (found_so_far d p (record d.solved { cert = c; trail = t; safe = s }))
pathed-with labels d p c t s is =
    record {
      modelled = record { headed = record { index = is.modelled.headed.index; name = is.modelled.headed.name }; mode = is.modelled.mode };
      no_refusal = is.no_refusal;
      lower = is.lower;
      upper = is.upper;
      paths = is.paths;
      order = is.order;
    }

path-extends : (labels : LabelLists) (d e : Draft) (l : List ℕ) → IsFitAt labels d PathOrCert →
    has_words_and_more (codes "path" ∷ []) 4 (spaced_fields l) ≡ true →
    given_ok (path_after labels d.solved.paths (spaced_fields l)) (λ entry.
    Ok (found_so_far d PathOrCert (record d.solved { paths = d.solved.paths ++ entry ∷ [] })))
    ≡ Ok e → ReadsTo labels (more labels d PathOrCert l) e
path-extends labels d e l fit words h =
    let g = given_ok-taken (path_after labels d.solved.paths (spaced_fields l)) _ e h in
    let r = path-line labels d.solved.paths (spaced_fields l) g.0 words g.1 in
    let made : Draft = found_so_far d PathOrCert (record d.solved { paths = d.solved.paths ++ g.0 ∷ [] }) in
    let marks = marks_text d.solved in
    let lines = flat_map (path_line labels) d.solved.paths in
    on-ok (ReadsTo labels (more labels d PathOrCert l)) made e g.2
    (record {
      text_is =
          ap (λ x. (two_lines d ++ (marks ++ lines)) ++ x) (IsLine-text l _ r.text)
          ∙ append_assoc (two_lines d) (marks ++ lines) _
          ∙ ap (λ x. two_lines d ++ x) (append_assoc marks lines _ ∙ ap (λ x. marks ++ x) (flat_map-push (path_line labels) d.solved.paths g.0));
      fit =
          record {
            pathed =
                record {
                  modelled = record { headed = record { index = fit.pathed.modelled.headed.index; name = fit.pathed.modelled.headed.name }; mode = fit.pathed.modelled.mode };
                  no_refusal = fit.pathed.no_refusal;
                  lower = fit.pathed.lower;
                  upper = fit.pathed.upper;
                  paths = all-push (is_path_entry labels) d.solved.paths g.0 fit.pathed.paths r.regular;
                  order = is_ordered-push comes_before d.solved.paths g.0 fit.pathed.order r.follows;
                };
            no_trail = fit.no_trail;
            no_safe = fit.no_safe;
          };
    })

-- a draft with a certificate, of which no item is still to come
no-items : (labels : LabelLists) (d : Draft) (c : Cert) (m : Mark) → IsPathed labels d → d.solved.trail ≡ None → d.solved.safe ≡ None →
    IsCertPart labels c 0 → d.solved.mark ≡ m →
    ReadsTo labels (two_lines d ++ (to_paths labels d.solved ++ cert_so_far labels c 0)) (found_so_far d (after_cert m) (record d.solved { cert = c }))
no-items labels d c m is no_trail no_safe part mark = by m mark where
  text : two_lines d ++ (to_paths labels d.solved ++ cert_so_far labels c 0) ≡ two_lines d ++ (to_paths labels d.solved ++ cert_text labels c)
  text = ap (λ x. two_lines d ++ (to_paths labels d.solved ++ x)) (cert-done labels c)

  no_tokens : two_lines d ++ (to_paths labels d.solved ++ cert_text labels c)
      ≡ two_lines d ++ ((to_paths labels d.solved ++ cert_text labels c) ++ trail_text d.solved.trail)
  no_tokens =
      ap (λ x. two_lines d ++ x) (sym (append-nil (to_paths labels d.solved ++ cert_text labels c)))
      ∙ ap (λ t. two_lines d ++ ((to_paths labels d.solved ++ cert_text labels c) ++ trail_text t)) (sym no_trail)

  trailed : (p : Place) → has_trail d.solved.mark d.solved.trail ≡ true → IsTrailed labels (found_so_far d p (record d.solved { cert = c }))
  trailed p has =
      record { pathed = pathed-with labels d p c d.solved.trail d.solved.safe is; cert = cert-regular labels c part; trail = has }

  by : (n : Mark) → d.solved.mark ≡ n →
      ReadsTo labels (two_lines d ++ (to_paths labels d.solved ++ cert_so_far labels c 0)) (found_so_far d (after_cert n) (record d.solved { cert = c }))
  by Optimal same =
      record { text_is = text ∙ no_tokens; fit = (trailed SafeOrEnd (ap (λ x. has_trail x d.solved.trail) same ∙ ap (has_trail Optimal) no_trail), no_safe) }
  by Infeasible same =
      record { text_is = text ∙ no_tokens; fit = (trailed SafeOrEnd (ap (λ x. has_trail x d.solved.trail) same ∙ ap (has_trail Infeasible) no_trail), no_safe) }
  by Bounds same =
      record {
        text_is = text;
        fit = (
          record { pathed = pathed-with labels d TrailHead c d.solved.trail d.solved.safe is; cert = cert-regular labels c part; no_safe = no_safe },
          same,
        );
      }

-- a draft with a certificate, of which so many items are still to come
items-reached : (labels : LabelLists) (d : Draft) (c : Cert) (n : ℕ) → IsPathed labels d → d.solved.trail ≡ None → d.solved.safe ≡ None →
    IsCertPart labels c n →
    ReadsTo labels (two_lines d ++ (to_paths labels d.solved ++ cert_so_far labels c n)) (found_so_far d (before_items d.solved.mark n) (record d.solved { cert = c }))
items-reached labels d c n is no_trail no_safe part = by (cases_Bool (n == 0)) where
  by : ((n == 0) ≡ true) ⊎ ((n == 0) ≡ false) → ReadsTo labels (two_lines d ++ (to_paths labels d.solved ++ cert_so_far labels c n)) (found_so_far d (before_items d.solved.mark n) (record d.solved { cert = c }))
  by (inl none) =
      let zero_is : n ≡ 0 = eqb-true n 0 none in
      let reads = no-items labels d c d.solved.mark is no_trail no_safe (subst (IsCertPart labels c) zero_is part) refl in
      subst (λ p. ReadsTo labels (two_lines d ++ (to_paths labels d.solved ++ cert_so_far labels c n)) (found_so_far d p (record d.solved { cert = c })))
      (sym (cond-true (n == 0) (after_cert d.solved.mark) (Item n) none))
      (subst (λ k. ReadsTo labels (two_lines d ++ (to_paths labels d.solved ++ cert_so_far labels c k)) (found_so_far d (after_cert d.solved.mark) (record d.solved { cert = c }))) (sym zero_is) reads)
  by (inr some) =
      let left : n ≡ 0 → ⊥ = eqb-false n 0 some in
      subst (λ p. ReadsTo labels (two_lines d ++ (to_paths labels d.solved ++ cert_so_far labels c n)) (found_so_far d p (record d.solved { cert = c })))
      (sym (cond-false (n == 0) (after_cert d.solved.mark) (Item n) some))
      (record {
        text_is = refl;
        fit = record { pathed = pathed-with labels d (Item n) c d.solved.trail d.solved.safe is; part = part; no_trail = no_trail; no_safe = no_safe; left = omega arith };
      })

cert-extends : (labels : LabelLists) (d e : Draft) (l : List ℕ) → IsFitAt labels d PathOrCert → cert_step labels d (spaced_fields l) ≡ Ok e →
    ReadsTo labels (more labels d PathOrCert l) e
cert-extends labels d e l fit h =
    let g = given_ok-taken (cert_in labels (spaced_fields l)) _ e h in
    let r = cert-line labels (spaced_fields l) g.0 g.1 in
    on-ok (ReadsTo labels (more labels d PathOrCert l)) _ e g.2
    (reads-same labels _ _ _
    (ap (λ x. (two_lines d ++ to_paths labels d.solved) ++ x) (IsLine-text l _ r.text) ∙ append_assoc (two_lines d) (to_paths labels d.solved) _)
    (items-reached labels d g.0.0 g.0.1 fit.pathed fit.no_trail fit.no_safe r.part))

path_or_cert-extends : (labels : LabelLists) (d e : Draft) (l : List ℕ) → IsFitAt labels d PathOrCert →
    path_or_cert_step labels d (spaced_fields l) ≡ Ok e → ReadsTo labels (more labels d PathOrCert l) e
path_or_cert-extends labels d e l fit h =
    elim (cond-taken (has_words_and_more (codes "path" ∷ []) 4 (spaced_fields l)) _ _ e h) [
      | inl a ↦ path-extends labels d e l fit a.0 a.1
      | inr a ↦ cert-extends labels d e l fit a.1
    ]

item-extends : (labels : LabelLists) (d e : Draft) (n : ℕ) (l : List ℕ) → IsFitAt labels d (Item n) → item_step labels d n (spaced_fields l) ≡ Ok e →
    ReadsTo labels (more labels d (Item n) l) e
item-extends labels d e n l fit h =
    let g = given_ok-taken (with_item labels d.solved.cert (spaced_fields l)) _ e h in
    let back : n ≡ suc (n - 1) = omega (arith, fit.left) in
    let r = item-added labels (spaced_fields l) (n - 1) d.solved.cert g.0 (subst (IsCertPart labels d.solved.cert) back fit.part) g.1 in
    let before = to_paths labels d.solved in
    on-ok (ReadsTo labels (more labels d (Item n) l)) _ e g.2
    (reads-same labels _ _ _
    (ap (λ x. (two_lines d ++ (before ++ cert_so_far labels d.solved.cert n)) ++ x) (IsLine-text l _ r.text)
    ∙ append_assoc (two_lines d) (before ++ cert_so_far labels d.solved.cert n) r.item
    ∙ ap (λ x. two_lines d ++ x) (append_assoc before (cert_so_far labels d.solved.cert n) r.item
    ∙ ap (λ x. before ++ x) (ap (λ k. cert_so_far labels d.solved.cert k ++ r.item) back ∙ sym r.goes_on)))
    (items-reached labels d g.0 (n - 1) fit.pathed fit.no_trail fit.no_safe r.part))

trail_so_far-done : (t : Trail) → trail_so_far (Some t) 0 ≡ trail_text (Some t)
trail_so_far-done t =
    let none : length t.tokens + 0 ≡ length t.tokens = omega arith in
    ap (λ k. line (codes "trail" ∷ decimal t.decision.slots ∷ number_or_none t.decision.limit ∷ decimal k ∷ []) ++ flat_map token_line t.tokens) none

-- a draft with a trail, of which so many tokens are still to come
tokens-reached : (labels : LabelLists) (d : Draft) (t : Trail) (n : ℕ) → IsCertified labels d → d.solved.mark ≡ Bounds → IsTrailPart t n →
    ReadsTo labels (two_lines d ++ (to_cert labels d.solved ++ trail_so_far (Some t) n)) (found_so_far d (before_tokens n) (record d.solved { trail = Some t }))
tokens-reached labels d t n is mark part = by (cases_Bool (n == 0)) where
  pathed : (p : Place) → IsPathed labels (found_so_far d p (record d.solved { trail = Some t }))
  pathed p = pathed-with labels d p d.solved.cert (Some t) d.solved.safe is.pathed

  by : ((n == 0) ≡ true) ⊎ ((n == 0) ≡ false) → ReadsTo labels (two_lines d ++ (to_cert labels d.solved ++ trail_so_far (Some t) n)) (found_so_far d (before_tokens n) (record d.solved { trail = Some t }))
  by (inl none) =
      let zero_is : n ≡ 0 = eqb-true n 0 none in
      subst (λ p. ReadsTo labels (two_lines d ++ (to_cert labels d.solved ++ trail_so_far (Some t) n)) (found_so_far d p (record d.solved { trail = Some t })))
      (sym (cond-true (n == 0) SafeOrEnd (TrailToken n) none))
      (record {
        text_is = ap (λ k. two_lines d ++ (to_cert labels d.solved ++ trail_so_far (Some t) k)) zero_is ∙ ap (λ x. two_lines d ++ (to_cert labels d.solved ++ x)) (trail_so_far-done t);
        fit = (
          record {
            pathed = pathed SafeOrEnd;
            cert = is.cert;
            trail = ap (λ m. has_trail m (Some t)) mark ∙ trail-done t (subst (IsTrailPart t) zero_is part);
          },
          is.no_safe,
        );
      })
  by (inr some) =
      let left : n ≡ 0 → ⊥ = eqb-false n 0 some in
      subst (λ p. ReadsTo labels (two_lines d ++ (to_cert labels d.solved ++ trail_so_far (Some t) n)) (found_so_far d p (record d.solved { trail = Some t })))
      (sym (cond-false (n == 0) SafeOrEnd (TrailToken n) some))
      (record {
        text_is = refl;
        fit = (
          record { pathed = pathed (TrailToken n); cert = is.cert; no_safe = is.no_safe },
          mark,
          record { trail = t; trail_is = refl; part = part; left = omega arith },
        );
      })

trail-extends : (labels : LabelLists) (d e : Draft) (l : List ℕ) → IsFitAt labels d TrailHead → trail_step d (spaced_fields l) ≡ Ok e →
    ReadsTo labels (more labels d TrailHead l) e
trail-extends labels d e l fit h =
    let fields = spaced_fields l in
    let m = must-taken _ (has_words (codes "trail" ∷ []) 4 fields) _ e h in
    let g = given_ok-taken (trail_in (field_at fields 1) (field_at fields 2) (field_at fields 3)) _ e m.1 in
    let r = trail-line (field_at fields 1) (field_at fields 2) (field_at fields 3) g.0 g.1 in
    let count : decimal g.0.1 ≡ decimal (length g.0.0.tokens + g.0.1) =
    ap decimal (let k : g.0.1 ≡ 0 + g.0.1 = omega arith in k ∙ ap (λ (ts : List Token). length ts + g.0.1) (sym r.empty)) in
    let words =
    words-1-4 (codes "trail") fields m.0
    ∙ ap (λ f. codes "trail" ∷ f ∷ field_at fields 2 ∷ field_at fields 3 ∷ []) r.decision.slots_is
    ∙ ap (λ f. codes "trail" ∷ decimal g.0.0.decision.slots ∷ f ∷ field_at fields 3 ∷ []) r.decision.limit_is
    ∙ ap (λ f. codes "trail" ∷ decimal g.0.0.decision.slots ∷ number_or_none g.0.0.decision.limit ∷ f ∷ []) (r.count_is ∙ count) in
    let head = line (codes "trail" ∷ trail_head g.0.0 g.0.1) in
    let text : l ++ 10 ∷ [] ≡ head ++ flat_map token_line g.0.0.tokens =
    IsLine-text l head (is_line fields _ _ words) ∙ sym (append-nil head) ∙ ap (λ ts. head ++ flat_map token_line ts) (sym r.empty) in
    on-ok (ReadsTo labels (more labels d TrailHead l)) _ e g.2
    (reads-same labels _ _ _
    (ap (λ x. (two_lines d ++ to_cert labels d.solved) ++ x) text ∙ append_assoc (two_lines d) (to_cert labels d.solved) _)
    (tokens-reached labels d g.0.0 g.0.1 fit.0 fit.1 (trail_part g.0 r)))

token-extends : (labels : LabelLists) (d e : Draft) (n : ℕ) (l : List ℕ) → IsFitAt labels d (TrailToken n) →
    trail_token_step d n (spaced_fields l) ≡ Ok e → ReadsTo labels (more labels d (TrailToken n) l) e
token-extends labels d e n l fit h =
    let g = given_ok-taken (token_in (spaced_fields l)) _ e h in
    let r = token-line (spaced_fields l) g.0 g.1 in
    let t = fit.2.trail in
    let back : n ≡ suc (n - 1) = omega (arith, fit.2.left) in
    let part = trail-more t g.0 (n - 1) (subst (IsTrailPart t) back fit.2.part) r.1 in
    let before = to_cert labels d.solved in
    let same : found_so_far d (before_tokens (n - 1)) (record d.solved { trail = Some (with_token g.0 t) }) ≡ e =
    ap (λ o. found_so_far d (before_tokens (n - 1)) (record d.solved { trail = option_map (with_token g.0) o })) (sym fit.2.trail_is) ∙ cc (g.2) in
    subst (ReadsTo labels (more labels d (TrailToken n) l)) same
    (reads-same labels _ _ _
    (ap (λ o. (two_lines d ++ (before ++ trail_so_far o n)) ++ (l ++ 10 ∷ [])) fit.2.trail_is
    ∙ ap (λ x. (two_lines d ++ (before ++ trail_so_far (Some t) n)) ++ x) (IsLine-text l _ r.0)
    ∙ append_assoc (two_lines d) (before ++ trail_so_far (Some t) n) (token_line g.0)
    ∙ ap (λ x. two_lines d ++ x) (append_assoc before (trail_so_far (Some t) n) (token_line g.0)
    ∙ ap (λ x. before ++ x) (ap (λ k. trail_so_far (Some t) k ++ token_line g.0) back ∙ sym (trail-listed (codes "trail" ∷ []) t g.0 (n - 1)))))
    (tokens-reached labels d (with_token g.0 t) (n - 1) fit.0 fit.1 part))

-- what was found, with these runs, is regular
regular-with : (labels : LabelLists) (d : Draft) (safe : Option (List (List ℕ))) → IsTrailed labels d → are_runs_or_none labels safe ≡ true →
    is_regular_solved labels (record d.solved { safe = safe }) ≡ true
regular-with labels d safe is runs =
    let s = d.solved in
    let after_cert = has_trail s.mark s.trail && are_runs_or_none labels safe in
    let after_order = is_cert labels s.cert && after_cert in
    let after_paths = is_ordered comes_before s.paths && after_order in
    let after_upper = list_all (is_path_entry labels) s.paths && after_paths in
    and_from (fits_or_none s.lower) (fits_or_none s.upper && after_upper) is.pathed.lower
    (and_from (fits_or_none s.upper) after_upper is.pathed.upper
    (and_from (list_all (is_path_entry labels) s.paths) after_paths is.pathed.paths
    (and_from (is_ordered comes_before s.paths) after_order is.pathed.order
    (and_from (is_cert labels s.cert) after_cert is.cert (and_from (has_trail s.mark s.trail) (are_runs_or_none labels safe) is.trail runs)))))

runs_so_far-done : (labels : LabelLists) (runs : List (List ℕ)) → runs_so_far labels (Some runs) 0 ≡ safe_text labels (Some runs)
runs_so_far-done labels runs =
    let none : length runs + 0 ≡ length runs = omega arith in
    ap (λ k. line (codes "safe" ∷ decimal k ∷ []) ++ flat_map (run_line labels) runs) none

-- a draft with safe runs, of which so many are still to come
runs-reached : (labels : LabelLists) (d : Draft) (runs : List (List ℕ)) (n : ℕ) → IsTrailed labels d → AreRunsPart labels runs n →
    ReadsTo labels (two_lines d ++ (to_trail labels d.solved ++ runs_so_far labels (Some runs) n)) (found_so_far d (before_runs n) (record d.solved { safe = Some runs }))
runs-reached labels d runs n is part = by (cases_Bool (n == 0)) where
  body : body_text labels (drafted_body d.refusal (record d.solved { safe = Some runs })) ≡ to_trail labels d.solved ++ safe_text labels (Some runs)
  body = ap (λ o. body_text labels (drafted_body o (record d.solved { safe = Some runs }))) is.pathed.no_refusal

  by : ((n == 0) ≡ true) ⊎ ((n == 0) ≡ false) →
      ReadsTo labels (two_lines d ++ (to_trail labels d.solved ++ runs_so_far labels (Some runs) n)) (found_so_far d (before_runs n) (record d.solved { safe = Some runs }))
  by (inl none) =
      let zero_is : n ≡ 0 = eqb-true n 0 none in
      let are : are_runs labels runs ≡ true =
      and_from (list_all (is_run (graph_at labels)) runs) (is_ordered is_list_before runs && fits (length runs)) part.pass
      (and_from (is_ordered is_list_before runs) (fits (length runs)) part.rise (lt-ltb (length runs) (2 ^ 64) (omega (arith, part.few)))) in
      subst (λ p. ReadsTo labels (two_lines d ++ (to_trail labels d.solved ++ runs_so_far labels (Some runs) n)) (found_so_far d p (record d.solved { safe = Some runs })))
      (sym (cond-true (n == 0) End (Run n) none))
      (record {
        text_is =
            ap (λ k. two_lines d ++ (to_trail labels d.solved ++ runs_so_far labels (Some runs) k)) zero_is
            ∙ ap (λ x. two_lines d ++ (to_trail labels d.solved ++ x)) (runs_so_far-done labels runs)
            ∙ ap (λ x. two_lines d ++ x) (sym body);
        fit =
            record {
              modelled =
                  record {
                    headed = record { index = is.pathed.modelled.headed.index; name = is.pathed.modelled.headed.name };
                    mode = is.pathed.modelled.mode;
                  };
              body =
                  ap (λ o. is_regular_body labels (drafted_body o (record d.solved { safe = Some runs }))) is.pathed.no_refusal
                  ∙ regular-with labels d (Some runs) is are;
            };
      })
  by (inr some) =
      let left : n ≡ 0 → ⊥ = eqb-false n 0 some in
      subst (λ p. ReadsTo labels (two_lines d ++ (to_trail labels d.solved ++ runs_so_far labels (Some runs) n)) (found_so_far d p (record d.solved { safe = Some runs })))
      (sym (cond-false (n == 0) End (Run n) some))
      (record {
        text_is = refl;
        fit = (
          record { pathed = pathed-with labels d (Run n) d.solved.cert d.solved.trail (Some runs) is.pathed; cert = is.cert; trail = is.trail },
          record { runs = runs; runs_are = refl; part = part; left = omega arith },
        );
      })

-- the line `end` after a body
end-done : (labels : LabelLists) (d e : Draft) (l : List ℕ) → IsDone labels d → end_step d (spaced_fields l) ≡ Ok e →
    ReadsTo labels ((two_lines d ++ body_text labels (drafted_body d.refusal d.solved)) ++ (l ++ 10 ∷ [])) e
end-done labels d e l is h =
    let m = must-taken _ (has_words (codes "end" ∷ []) 1 (spaced_fields l)) _ e h in
    let made : Draft = record d { place = Nothing } in
    on-ok (ReadsTo labels ((two_lines d ++ body_text labels (drafted_body d.refusal d.solved)) ++ (l ++ 10 ∷ []))) made e m.1
    (record {
      text_is =
          ap (λ x. (two_lines d ++ body_text labels (drafted_body d.refusal d.solved)) ++ x)
          (IsLine-text l _ (is_line (spaced_fields l) _ _ (words-1-1 (codes "end") (spaced_fields l) m.0)));
      fit =
          record {
            modelled = record { headed = record { index = is.modelled.headed.index; name = is.modelled.headed.name }; mode = is.modelled.mode };
            body = is.body;
          };
    })

safe-extends : (labels : LabelLists) (d e : Draft) (l : List ℕ) → IsFitAt labels d SafeOrEnd → has_words (codes "safe" ∷ []) 2 (spaced_fields l) ≡ true →
    given BadNumber (number_in 0 greatest (field_at (spaced_fields l) 1)) (λ n. Ok (found_so_far d (before_runs n) (record d.solved { safe = Some [] }))) ≡ Ok e →
    ReadsTo labels (more labels d SafeOrEnd l) e
safe-extends labels d e l fit words h =
    let fields = spaced_fields l in
    let g = given-taken _ (number_in 0 greatest (field_at fields 1)) _ e h in
    let s = number-spelled 0 greatest (field_at fields 1) g.0 (omega arith) g.1 in
    let count : g.0 ≡ 0 + g.0 = omega arith in
    let is = words-1-2 (codes "safe") fields words ∙ ap (λ f. codes "safe" ∷ f ∷ []) (s.spelled ∙ ap decimal count) in
    let head = line (codes "safe" ∷ decimal (0 + g.0) ∷ []) in
    on-ok (ReadsTo labels (more labels d SafeOrEnd l)) _ e g.2
    (reads-same labels _ _ _
    (ap (λ x. (two_lines d ++ to_trail labels d.solved) ++ x) (IsLine-text l head (is_line fields _ _ is) ∙ sym (append-nil head))
    ∙ append_assoc (two_lines d) (to_trail labels d.solved) _)
    (runs-reached labels d [] g.0 fit.0 (record { pass = refl; rise = refl; few = omega (arith, s.most_is) })))

end-extends : (labels : LabelLists) (d e : Draft) (l : List ℕ) → IsFitAt labels d SafeOrEnd → end_step d (spaced_fields l) ≡ Ok e →
    ReadsTo labels (more labels d SafeOrEnd l) e
end-extends labels d e l fit h =
    let is = fit.0 in
    let body =
    ap (λ s. drafted_body d.refusal s) (let e : d.solved ≡ record d.solved { safe = d.solved.safe } = refl in e)
    ∙ ap (λ o. drafted_body o d.solved) is.pathed.no_refusal in
    let text : to_trail labels d.solved ≡ body_text labels (drafted_body d.refusal d.solved) =
    sym (ap (body_text labels) body ∙ ap (λ o. to_trail labels d.solved ++ safe_text labels o) fit.1 ∙ append-nil (to_trail labels d.solved)) in
    let done : IsDone labels d =
    record {
      modelled =
          record { headed = record { index = is.pathed.modelled.headed.index; name = is.pathed.modelled.headed.name }; mode = is.pathed.modelled.mode };
      body = ap (is_regular_body labels) body ∙ regular-with labels d d.solved.safe is (ap (are_runs_or_none labels) fit.1);
    } in
    reads-same labels _ _ _ (ap (λ x. (two_lines d ++ x) ++ (l ++ 10 ∷ [])) text) (end-done labels d e l done h)

safe_or_end-extends : (labels : LabelLists) (d e : Draft) (l : List ℕ) → IsFitAt labels d SafeOrEnd → safe_or_end_step d (spaced_fields l) ≡ Ok e →
    ReadsTo labels (more labels d SafeOrEnd l) e
safe_or_end-extends labels d e l fit h =
    elim (cond-taken (has_words (codes "safe" ∷ []) 2 (spaced_fields l)) _ _ e h) [
      | inl a ↦ safe-extends labels d e l fit a.0 a.1
      | inr a ↦ end-extends labels d e l fit a.1
    ]

run-extends : (labels : LabelLists) (d e : Draft) (n : ℕ) (l : List ℕ) → IsFitAt labels d (Run n) → run_step labels d n (spaced_fields l) ≡ Ok e →
    ReadsTo labels (more labels d (Run n) l) e
run-extends labels d e n l fit h =
    let g = given_ok-taken (run_after labels (unwrap_or d.solved.safe []) (spaced_fields l)) _ e h in
    let runs = fit.1.runs in
    let r = run-line labels runs (spaced_fields l) g.0 (ap (λ o. run_after labels (unwrap_or o []) (spaced_fields l)) (sym fit.1.runs_are) ∙ g.1) in
    let back : n ≡ suc (n - 1) = omega (arith, fit.1.left) in
    let before = to_trail labels d.solved in
    let count : length runs + n ≡ length (runs ++ g.0 ∷ []) + (n - 1) = omega (arith, length_push runs g.0, fit.1.left) in
    let part : AreRunsPart labels (runs ++ g.0 ∷ []) (n - 1) =
    record {
      pass = all-push (is_run (graph_at labels)) runs g.0 fit.1.part.pass r.regular;
      rise = is_ordered-push is_list_before runs g.0 fit.1.part.rise r.follows;
      few = subst (λ k. k < 2 ^ 64) count fit.1.part.few;
    } in
    let same : found_so_far d (before_runs (n - 1)) (record d.solved { safe = Some (runs ++ g.0 ∷ []) }) ≡ e =
    ap (λ o. found_so_far d (before_runs (n - 1)) (record d.solved { safe = option_map (λ rs. rs ++ g.0 ∷ []) o })) (sym fit.1.runs_are) ∙ cc (g.2) in
    let head = λ (k : ℕ). line (codes "safe" ∷ decimal k ∷ []) in
    let lines = flat_map (run_line labels) runs in
    subst (ReadsTo labels (more labels d (Run n) l)) same
    (reads-same labels _ _ _
    (ap (λ o. (two_lines d ++ (before ++ runs_so_far labels o n)) ++ (l ++ 10 ∷ [])) fit.1.runs_are
    ∙ ap (λ x. (two_lines d ++ (before ++ runs_so_far labels (Some runs) n)) ++ x) (IsLine-text l _ r.text)
    ∙ append_assoc (two_lines d) (before ++ runs_so_far labels (Some runs) n) (run_line labels g.0)
    ∙ ap (λ x. two_lines d ++ x) (append_assoc before (runs_so_far labels (Some runs) n) (run_line labels g.0)
    ∙ ap (λ x. before ++ x) (append_assoc (head (length runs + n)) lines (run_line labels g.0)
    ∙ ap (λ x. head (length runs + n) ++ x) (flat_map-push (run_line labels) runs g.0)
    ∙ ap (λ k. head k ++ flat_map (run_line labels) (runs ++ g.0 ∷ [])) count)))
    (runs-reached labels d (runs ++ g.0 ∷ []) (n - 1) fit.0 part))

-- each line that is taken makes the text of the draft longer by this line
pub step-extends : (labels : LabelLists) (d e : Draft) (l : List ℕ) (place : Place) → IsFitAt labels d place → step_at labels d l place ≡ Ok e →
    ReadsTo labels (text_at labels d place ++ (l ++ 10 ∷ [])) e
step-extends labels d e l Graph fit h = graph-extends labels d e l fit h
step-extends labels d e l Model fit h = model-extends labels d e l fit h
step-extends labels d e l Third fit h = third-extends labels d e l fit h
step-extends labels d e l Lower fit h = lower-extends labels d e l fit h
step-extends labels d e l Upper fit h = upper-extends labels d e l fit h
step-extends labels d e l PathOrCert fit h = path_or_cert-extends labels d e l fit h
step-extends labels d e l (Item n) fit h = item-extends labels d e n l fit h
step-extends labels d e l TrailHead fit h = trail-extends labels d e l fit h
step-extends labels d e l (TrailToken n) fit h = token-extends labels d e n l fit h
step-extends labels d e l SafeOrEnd fit h = safe_or_end-extends labels d e l fit h
step-extends labels d e l (Run n) fit h = run-extends labels d e n l fit h
step-extends labels d e l End fit h = end-done labels d e l fit h
step-extends labels d e l Nothing fit h = absurd (cc)
