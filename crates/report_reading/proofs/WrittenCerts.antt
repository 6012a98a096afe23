-- The lines of a regular certificate, of a trail and of safe runs are taken, one after another.
use Rattle.std.proofs.Common.{◌≡◌, ℕ, ◌+◌, ◌-◌, ◌^◌, ◌<◌, Bool, true, nat_le, nat_lt, ◌&&◌, List, [], ◌∷◌, ◌++◌, length, refl, sym, ap, subst, ◌∙◌, arith}
use Rattle.std.specs.Prelude.{Result, Ok, Some, decimal, codes, ◌==◌}
use Rattle.std.specs.List.{list_all}
use Rattle.std.proofs.lemmas.Bool.{and_parts, and_from, cond-false, ne_eqb, leb-true, ltb-true, le-leb}
use Rattle.decomposition.specs.declared.Decision.{Decision}
use Rattle.decomposition.specs.declared.Side.{Side}
use Rattle.decomposition.specs.declared.Side.TheVariants.{Entering, Leaving}
use Rattle.decomposition.specs.declared.Token.{Token}
use Rattle.decomposition.specs.declared.Token.TheVariants.{Gap, Miss, Split, Step}
use Rattle.decomposition.specs.Graph.{is_run, is_list_before}
use Rattle.decomposition.specs.Answer.{is_ordered}
use Rattle.graph_text.specs.Labels.{LabelLists, AreLabels, name_at, tail_at, head_at, is_field}
use Rattle.report_terms.specs.declared.report.Cert.{Cert}
use Rattle.report_terms.specs.declared.report.Cert.TheVariants.{Zero, Wide, Tree, Cut, Crowd}
use Rattle.report_terms.specs.declared.report.Trail.{Trail}
use Rattle.report_reading.specs.declared.draft.Draft.{Draft}
use Rattle.report_reading.specs.declared.draft.Place.TheVariants.{PathOrCert, TrailHead, TrailToken, SafeOrEnd, Run, End}
use Rattle.report_reading.specs.declared.read_fault.ReadWhy.{ReadWhy}
use Rattle.report_reading.specs.declared.read_fault.ReadWhy.TheVariants.{BadForm, BadNumber, BadName, BadOrder}
use Rattle.report_reading.specs.Names.{graph_at, names_along}
use Rattle.report_reading.specs.ReportText.{line, number_or_none, edge_line, vertex_line, rule_line, run_line, token_line, trail_fields, cert_text, trail_text, safe_text, fits, fits_or_none, is_place, is_token, is_trail, is_cert, are_runs}
use Rattle.report_reading.specs.LineFields.{greatest, number_in, edge_in, edges_in}
use Rattle.report_reading.specs.LineSteps.{must, given, given_ok, found_so_far}
use Rattle.report_reading.specs.ListSteps.{last_of, may_follow, trail_in, cert_in, token_in, with_token, after_cert, before_items, before_tokens, before_runs, cert_step, path_or_cert_step, trail_step, trail_token_step, safe_or_end_step, run_step}
use Rattle.report_reading.proofs.Written.{decimal-field, number-written, bound-field, place-written, decision-written}
use Rattle.report_reading.proofs.WrittenNames.{vertex-written, vertex-field, edge-ends, edge-written, run-written}
use Rattle.report_reading.proofs.Goes.{Goes, goes-then, goes-fields, goes-list, MayFollow, AllFollow, all-follow}
use Rattle.report_reading.proofs.WrittenLines.{good-1, good-2, good-3, small-greatest, goes-item}

-- the parts of a list that rises
pub record AreListed {X : Type 0} (test : X → Bool) (before : X → X → Bool) (xs : List X) : Type 0 where
  pass : list_all test xs ≡ true
  rise : is_ordered before xs ≡ true
  few : length xs < 2 ^ 64

pub listed : {X : Type 0} (test : X → Bool) (before : X → X → Bool) (xs : List X) → (list_all test xs && (is_ordered before xs && fits (length xs))) ≡ true →
    AreListed test before xs
listed test before xs h =
    let a = and_parts (list_all test xs) (is_ordered before xs && fits (length xs)) h in
    let b = and_parts (is_ordered before xs) (fits (length xs)) a.1 in
    record { pass = a.0; rise = b.0; few = ltb-true (length xs) (2 ^ 64) b.1 }

-- the line of a certificate
pub goes-head : (labels : LabelLists) (d : Draft) (c : Cert) (n : ℕ) (f : List ℕ) (fs : List (List ℕ)) → list_all is_field (codes "cert" ∷ f ∷ fs) ≡ true →
    (let made : Cert × ℕ = (c, n) in cert_in labels (codes "cert" ∷ f ∷ fs) ≡ Ok made) →
    path_or_cert_step labels (found_so_far d PathOrCert d.solved) (codes "cert" ∷ f ∷ fs) ≡ cert_step labels (found_so_far d PathOrCert d.solved) (codes "cert" ∷ f ∷ fs) →
    Goes labels (found_so_far d PathOrCert d.solved) (line (codes "cert" ∷ f ∷ fs)) (found_so_far d (before_items d.solved.mark n) (record d.solved { cert = c }))
goes-head labels d c n f fs good h no_path =
    goes-fields labels _ _ (path_or_cert_step labels (found_so_far d PathOrCert d.solved)) (codes "cert") (f ∷ fs) (λ l. refl) good
    (no_path ∙ ap (λ r. given_ok r (λ (x : Cert × ℕ). Ok (found_so_far d (before_items d.solved.mark x.1) (record d.solved { cert = x.0 })))) h)

pub edge-item : (labels : LabelLists) (d : Draft) (done : List ℕ) (e n : ℕ) → AreLabels labels →
    MayFollow (λ e. nat_lt e (length labels.edges)) nat_lt done e →
    Goes labels (found_so_far d (before_items d.solved.mark (n + 1)) (record d.solved { cert = Wide done })) (edge_line labels e)
    (found_so_far d (before_items d.solved.mark n) (record d.solved { cert = Wide (done ++ e ∷ []) }))
edge-item labels d done e n are may =
    let there = ltb-true e (length labels.edges) may.pass in
    let ends = edge-ends labels e are there in
    let tail = name_at labels (tail_at labels e) in
    let head = name_at labels (head_at labels e) in
    goes-item labels d n (Wide done) (Wide (done ++ e ∷ [])) (codes "edge") (tail ∷ head ∷ [])
    (good-2 tail head (vertex-field labels _ are ends.tail) (vertex-field labels _ are ends.head))
    (ap (λ o. given_ok (given BadName o (λ x. must BadOrder (may_follow nat_lt (last_of done) x) (Ok x))) (λ x. Ok (Wide (done ++ x ∷ [])))) (edge-written labels e are there)
    ∙ ap (λ t. given_ok (must BadOrder t (Ok e)) (λ x. Ok (Wide (done ++ x ∷ [])))) may.follows)

pub vertex-item : (labels : LabelLists) (d : Draft) (side : Side) (done : List ℕ) (v n : ℕ) → AreLabels labels →
    MayFollow (λ v. nat_lt v (length labels.names)) nat_lt done v →
    Goes labels (found_so_far d (before_items d.solved.mark (n + 1)) (record d.solved { cert = Cut side done })) (vertex_line labels v)
    (found_so_far d (before_items d.solved.mark n) (record d.solved { cert = Cut side (done ++ v ∷ []) }))
vertex-item labels d side done v n are may =
    let there = ltb-true v (length labels.names) may.pass in
    goes-item labels d n (Cut side done) (Cut side (done ++ v ∷ [])) (codes "vertex") (name_at labels v ∷ [])
    (good-1 (name_at labels v) (vertex-field labels v are there))
    (ap (λ o. given_ok (given BadName o (λ x. must BadOrder (may_follow nat_lt (last_of done) x) (Ok x))) (λ x. Ok (Cut side (done ++ x ∷ [])))) (vertex-written labels v are there)
    ∙ ap (λ t. given_ok (must BadOrder t (Ok v)) (λ x. Ok (Cut side (done ++ x ∷ [])))) may.follows)

pub rule-item : (labels : LabelLists) (d : Draft) (e : ℕ) (done : List ℕ) (c n : ℕ) → MayFollow is_place nat_lt done c →
    Goes labels (found_so_far d (before_items d.solved.mark (n + 1)) (record d.solved { cert = Crowd e done })) (rule_line c)
    (found_so_far d (before_items d.solved.mark n) (record d.solved { cert = Crowd e (done ++ c ∷ []) }))
rule-item labels d e done c n may =
    let most = leb-true (c + 1) 4294967295 may.pass in
    goes-item labels d n (Crowd e done) (Crowd e (done ++ c ∷ [])) (codes "rule") (decimal (c + 1) ∷ [])
    (good-1 (decimal (c + 1)) (decimal-field (c + 1) (omega (arith, most))))
    (ap (λ o. given_ok (given BadNumber o (λ x. must BadOrder (may_follow nat_lt (last_of done) x) (Ok x))) (λ x. Ok (Crowd e (done ++ x ∷ [])))) (place-written c may.pass)
    ∙ ap (λ t. given_ok (must BadOrder t (Ok c)) (λ x. Ok (Crowd e (done ++ x ∷ [])))) may.follows)

-- a token: the fields of its line are fields, and tell it
pub record TokenWritten (token : Token) : Type 0 where
  word : List ℕ
  others : List (List ℕ)
  line_is : line (word ∷ others) ≡ token_line token
  good : list_all is_field (word ∷ others) ≡ true
  told : token_in (word ∷ others) ≡ Ok token

pub token-written : (token : Token) → is_token token ≡ true → TokenWritten token
token-written Gap h = record { word = codes "gap"; others = []; line_is = refl; good = refl; told = refl }
token-written (Miss c) h =
    let most = leb-true (c + 1) 4294967295 h in
    record {
      word = codes "miss";
      others = decimal (c + 1) ∷ [];
      line_is = refl;
      good = good-1 (decimal (c + 1)) (decimal-field (c + 1) (omega (arith, most)));
      told = ap (λ o. given BadNumber o (λ x. Ok (Miss x))) (place-written c h);
    }
token-written (Split k) h =
    let most = leb-true (k + 1) 4294967295 h in
    record {
      word = codes "split";
      others = decimal (k + 1) ∷ [];
      line_is = refl;
      good = good-1 (decimal (k + 1)) (decimal-field (k + 1) (omega (arith, most)));
      told = ap (λ o. given BadNumber o (λ x. Ok (Split x))) (place-written k h);
    }
token-written (Step k) h =
    let most = leb-true (k + 1) 4294967295 h in
    record {
      word = codes "step";
      others = decimal (k + 1) ∷ [];
      line_is = refl;
      good = good-1 (decimal (k + 1)) (decimal-field (k + 1) (omega (arith, most)));
      told = ap (λ o. given BadNumber o (λ x. Ok (Step x))) (place-written k h);
    }

token-item : (labels : LabelLists) (d : Draft) (t : Trail) (token : Token) (n : ℕ) → is_token token ≡ true →
    Goes labels (found_so_far d (before_items d.solved.mark (n + 1)) (record d.solved { cert = Tree t })) (token_line token)
    (found_so_far d (before_items d.solved.mark n) (record d.solved { cert = Tree (with_token token t) }))
token-item labels d t token n h =
    let w = token-written token h in
    subst (λ text. Goes labels (found_so_far d (before_items d.solved.mark (n + 1)) (record d.solved { cert = Tree t })) text (found_so_far d (before_items d.solved.mark n) (record d.solved { cert = Tree (with_token token t) }))) w.line_is
    (goes-item labels d n (Tree t) (Tree (with_token token t)) w.word w.others w.good (ap (λ r. given_ok r (λ x. Ok (Tree (with_token x t)))) w.told))

-- tokens follow one another in any order
abbrev Passes : List Token → Token → Type 0
Passes done token = is_token token ≡ true

tokens-follow : (done tokens : List Token) → list_all is_token tokens ≡ true → AllFollow Passes done tokens
tokens-follow done [] h = tt
tokens-follow done (t ∷ tokens) h = let parts = and_parts (is_token t) (list_all is_token tokens) h in (parts.0, tokens-follow (done ++ t ∷ []) tokens parts.1)

-- the parts of a trail that may stand in a report
record TrailParts (t : Trail) : Type 0 where
  slots : nat_lt t.decision.slots (2 ^ 32) ≡ true
  limit : fits_or_none t.decision.limit ≡ true
  pass : list_all is_token t.tokens ≡ true
  few : length t.tokens < 2 ^ 64

trail-parts : (t : Trail) → is_trail t ≡ true → TrailParts t
trail-parts t h =
    let tokens = list_all is_token t.tokens && fits (length t.tokens) in
    let a = and_parts (nat_lt t.decision.slots (2 ^ 32)) (fits_or_none t.decision.limit && tokens) h in
    let b = and_parts (fits_or_none t.decision.limit) tokens a.1 in
    let c = and_parts (list_all is_token t.tokens) (fits (length t.tokens)) b.1 in
    record { slots = a.0; limit = b.0; pass = c.0; few = ltb-true (length t.tokens) (2 ^ 64) c.1 }

-- the three numbers of a trail are fields, and tell it
record NumbersWritten (t : Trail) : Type 0 where
  good : list_all is_field (trail_fields t) ≡ true
  told : (let bare : Trail = record { decision = t.decision; tokens = [] } in let made : Trail × ℕ = (bare, length t.tokens) in trail_in (decimal t.decision.slots) (number_or_none t.decision.limit) (decimal (length t.tokens)) ≡ Ok made)

numbers-written : (t : Trail) → TrailParts t → NumbersWritten t
numbers-written t is =
    let slots = ltb-true t.decision.slots (2 ^ 32) is.slots in
    let n = length t.tokens in
    let made : Decision → ℕ → Trail × ℕ = λ d k. (record { decision = d; tokens = [] }, k) in
    record {
      good = good-3 (decimal t.decision.slots) (number_or_none t.decision.limit) (decimal n) (decimal-field _ (omega (arith, slots))) (bound-field _ is.limit) (decimal-field n is.few);
      told =
          ap (λ o. given BadNumber o (λ d. given BadNumber (number_in 0 greatest (decimal n)) (λ k. Ok (made d k)))) (decision-written t.decision is.slots is.limit)
          ∙ ap (λ o. given BadNumber o (λ k. Ok (made t.decision k))) (number-written 0 greatest n (omega arith) (small-greatest n is.few) is.few);
    }

-- a count behind words
count-told : (n : ℕ) → n < 2 ^ 64 → (make : ℕ → Cert × ℕ) → given BadNumber (number_in 0 greatest (decimal n)) (λ k. Ok (make k)) ≡ Ok (make n)
count-told n small make = ap (λ o. given BadNumber o (λ k. Ok (make k))) (number-written 0 greatest n (omega arith) (small-greatest n small) small)

pub goes-cert : (labels : LabelLists) (d : Draft) (c : Cert) → AreLabels labels → is_cert labels c ≡ true →
    Goes labels (found_so_far d PathOrCert d.solved) (cert_text labels c) (found_so_far d (after_cert d.solved.mark) (record d.solved { cert = c }))
goes-cert labels d Zero are h = goes-head labels d Zero 0 (codes "none") [] refl refl refl
goes-cert labels d (Wide edges) are h =
    let is = listed (λ e. nat_lt e (length labels.edges)) nat_lt edges h in
    let n = length edges in
    let make : ℕ → Cert × ℕ = λ k. (Wide [], k) in
    goes-then
    (goes-head labels d (Wide []) n (codes "wide") (decimal n ∷ []) (good-1 (decimal n) (decimal-field n is.few)) (count-told n is.few make) refl)
    (goes-list labels (λ k done. found_so_far d (before_items d.solved.mark k) (record d.solved { cert = Wide done })) (edge_line labels)
    (MayFollow (λ e. nat_lt e (length labels.edges)) nat_lt) (λ done e k may. edge-item labels d done e k are may) edges []
    (all-follow (λ e. nat_lt e (length labels.edges)) nat_lt edges [] is.pass is.rise))
goes-cert labels d (Tree t) are h =
    let is = trail-parts t h in
    let w = numbers-written t is in
    let n = length t.tokens in
    let tree : List Token → Cert = λ done. Tree (record { decision = t.decision; tokens = done }) in
    goes-then
    (goes-head labels d (tree []) n (codes "tree") (trail_fields t) w.good (ap (λ r. given_ok r (λ (x : Trail × ℕ). (let made : Result (Cert × ℕ) ReadWhy = Ok (Tree x.0, x.1) in made))) w.told) refl)
    (goes-list labels (λ k done. found_so_far d (before_items d.solved.mark k) (record d.solved { cert = tree done })) token_line Passes
    (λ done token k may. token-item labels d (record { decision = t.decision; tokens = done }) token k may) t.tokens [] (tokens-follow [] t.tokens is.pass))
goes-cert labels d (Cut Entering vertices) are h =
    let is = listed (λ v. nat_lt v (length labels.names)) nat_lt vertices h in
    let n = length vertices in
    let make : ℕ → Cert × ℕ = λ k. (Cut Entering [], k) in
    goes-then
    (goes-head labels d (Cut Entering []) n (codes "cut") (codes "in" ∷ decimal n ∷ []) (good-1 (decimal n) (decimal-field n is.few)) (count-told n is.few make) refl)
    (goes-list labels (λ k done. found_so_far d (before_items d.solved.mark k) (record d.solved { cert = Cut Entering done })) (vertex_line labels)
    (MayFollow (λ v. nat_lt v (length labels.names)) nat_lt) (λ done v k may. vertex-item labels d Entering done v k are may) vertices []
    (all-follow (λ v. nat_lt v (length labels.names)) nat_lt vertices [] is.pass is.rise))
goes-cert labels d (Cut Leaving vertices) are h =
    let is = listed (λ v. nat_lt v (length labels.names)) nat_lt vertices h in
    let n = length vertices in
    let make : ℕ → Cert × ℕ = λ k. (Cut Leaving [], k) in
    goes-then
    (goes-head labels d (Cut Leaving []) n (codes "cut") (codes "out" ∷ decimal n ∷ []) (good-1 (decimal n) (decimal-field n is.few)) (count-told n is.few make) refl)
    (goes-list labels (λ k done. found_so_far d (before_items d.solved.mark k) (record d.solved { cert = Cut Leaving done })) (vertex_line labels)
    (MayFollow (λ v. nat_lt v (length labels.names)) nat_lt) (λ done v k may. vertex-item labels d Leaving done v k are may) vertices []
    (all-follow (λ v. nat_lt v (length labels.names)) nat_lt vertices [] is.pass is.rise))
goes-cert labels d (Crowd e rules) are h =
    let parts = and_parts (nat_lt e (length labels.edges)) _ h in
    let there = ltb-true e (length labels.edges) parts.0 in
    let ends = edge-ends labels e are there in
    let is = listed is_place nat_lt rules parts.1 in
    let n = length rules in
    let tail = name_at labels (tail_at labels e) in
    let head = name_at labels (head_at labels e) in
    let make : ℕ → ℕ → Cert × ℕ = λ k x. (Crowd x [], k) in
    goes-then
    (goes-head labels d (Crowd e []) n (codes "crowd") (tail ∷ head ∷ decimal n ∷ [])
    (good-3 tail head (decimal n) (vertex-field labels _ are ends.tail) (vertex-field labels _ are ends.head) (decimal-field n is.few))
    (ap (λ o. given BadNumber o (λ k. given BadName (edge_in labels tail head) (λ x. Ok (make k x)))) (number-written 0 greatest n (omega arith) (small-greatest n is.few) is.few)
    ∙ ap (λ o. given BadName o (λ x. Ok (make n x))) (edge-written labels e are there))
    refl)
    (goes-list labels (λ k done. found_so_far d (before_items d.solved.mark k) (record d.solved { cert = Crowd e done })) rule_line
    (MayFollow is_place nat_lt) (λ done c k may. rule-item labels d e done c k may) rules [] (all-follow is_place nat_lt rules [] is.pass is.rise))

-- a token of the trail
trail-token : (labels : LabelLists) (d : Draft) (t : Trail) (token : Token) (n : ℕ) → is_token token ≡ true →
    Goes labels (found_so_far d (before_tokens (n + 1)) (record d.solved { trail = Some t })) (token_line token)
    (found_so_far d (before_tokens n) (record d.solved { trail = Some (with_token token t) }))
trail-token labels d t token n h =
    let w = token-written token h in
    let here : Draft = found_so_far d (TrailToken (n + 1)) (record d.solved { trail = Some t }) in
    let place : TrailToken (n + 1) ≡ before_tokens (n + 1) = sym (cond-false (n + 1 == 0) SafeOrEnd (TrailToken (n + 1)) (ne_eqb (n + 1) 0 (λ e. omega (arith, e)))) in
    let back : n + 1 - 1 ≡ n = omega arith in
    subst (λ p. Goes labels (found_so_far d p (record d.solved { trail = Some t })) (token_line token) (found_so_far d (before_tokens n) (record d.solved { trail = Some (with_token token t) }))) place
    (subst (λ text. Goes labels here text (found_so_far d (before_tokens n) (record d.solved { trail = Some (with_token token t) }))) w.line_is
    (goes-fields labels _ _ (trail_token_step here (n + 1)) w.word w.others (λ l. refl) w.good
    (ap (λ r. given_ok r (λ x. Ok (found_so_far d (before_tokens (n + 1 - 1)) (record d.solved { trail = Some (with_token x t) })))) w.told
    ∙ ap (λ k. Ok (found_so_far d (before_tokens k) (record d.solved { trail = Some (with_token token t) }))) back)))

pub goes-trail : (labels : LabelLists) (d : Draft) (t : Trail) → is_trail t ≡ true →
    Goes labels (found_so_far d TrailHead d.solved) (trail_text (Some t)) (found_so_far d SafeOrEnd (record d.solved { trail = Some t }))
goes-trail labels d t h =
    let is = trail-parts t h in
    let w = numbers-written t is in
    let trail : List Token → Trail = λ done. record { decision = t.decision; tokens = done } in
    goes-then
    (goes-fields labels (found_so_far d TrailHead d.solved) (found_so_far d (before_tokens (length t.tokens)) (record d.solved { trail = Some (trail []) }))
    (trail_step (found_so_far d TrailHead d.solved)) (codes "trail") (trail_fields t) (λ l. refl) w.good
    (ap (λ r. given_ok r (λ (x : Trail × ℕ). Ok (found_so_far d (before_tokens x.1) (record d.solved { trail = Some x.0 })))) w.told))
    (goes-list labels (λ k done. found_so_far d (before_tokens k) (record d.solved { trail = Some (trail done) })) token_line Passes
    (λ done token k may. trail-token labels d (trail done) token k may) t.tokens [] (tokens-follow [] t.tokens is.pass))

-- a safe run
run-item : (labels : LabelLists) (d : Draft) (done : List (List ℕ)) (run : List ℕ) (n : ℕ) → AreLabels labels →
    MayFollow (is_run (graph_at labels)) is_list_before done run →
    Goes labels (found_so_far d (before_runs (n + 1)) (record d.solved { safe = Some done })) (run_line labels run)
    (found_so_far d (before_runs n) (record d.solved { safe = Some (done ++ run ∷ []) }))
run-item labels d done run n are may =
    let w = run-written labels run are may.pass in
    let names = names_along labels run in
    let fields = codes "run" ∷ names in
    let here : Draft = found_so_far d (Run (n + 1)) (record d.solved { safe = Some done }) in
    let place : Run (n + 1) ≡ before_runs (n + 1) = sym (cond-false (n + 1 == 0) End (Run (n + 1)) (ne_eqb (n + 1) 0 (λ e. omega (arith, e)))) in
    let back : n + 1 - 1 ≡ n = omega arith in
    let there : (nat_le 3 (length fields) && true) ≡ true = and_from (nat_le 3 (length fields)) true (le-leb 3 (length fields) (omega (arith, w.two))) refl in
    let new : List ℕ → Draft = λ r. found_so_far d (before_runs (n + 1 - 1)) (record d.solved { safe = Some (done ++ r ∷ []) }) in
    subst (λ p. Goes labels (found_so_far d p (record d.solved { safe = Some done })) (run_line labels run) (found_so_far d (before_runs n) (record d.solved { safe = Some (done ++ run ∷ []) }))) place
    (goes-fields labels _ _ (run_step labels here (n + 1)) (codes "run") names (λ l. refl) w.fields
    (ap (λ t. given_ok (must BadForm t (given BadName (edges_in labels names) (λ r. must BadOrder (may_follow is_list_before (last_of done) r) (Ok r)))) (λ r. Ok (new r))) there
    ∙ ap (λ o. given_ok (given BadName o (λ r. must BadOrder (may_follow is_list_before (last_of done) r) (Ok r))) (λ r. Ok (new r))) w.edges
    ∙ ap (λ t. given_ok (must BadOrder t (Ok run)) (λ r. Ok (new r))) may.follows
    ∙ ap (λ k. Ok (found_so_far d (before_runs k) (record d.solved { safe = Some (done ++ run ∷ []) }))) back))

pub goes-runs : (labels : LabelLists) (d : Draft) (runs : List (List ℕ)) → AreLabels labels → are_runs labels runs ≡ true →
    Goes labels (found_so_far d SafeOrEnd d.solved) (safe_text labels (Some runs)) (found_so_far d End (record d.solved { safe = Some runs }))
goes-runs labels d runs are h =
    let is = listed (is_run (graph_at labels)) is_list_before runs h in
    let n = length runs in
    goes-then
    (goes-fields labels (found_so_far d SafeOrEnd d.solved) (found_so_far d (before_runs n) (record d.solved { safe = Some [] }))
    (safe_or_end_step (found_so_far d SafeOrEnd d.solved)) (codes "safe") (decimal n ∷ []) (λ l. refl) (good-1 (decimal n) (decimal-field n is.few))
    (ap (λ o. given BadNumber o (λ k. Ok (found_so_far d (before_runs k) (record d.solved { safe = Some [] })))) (number-written 0 greatest n (omega arith) (small-greatest n is.few) is.few)))
    (goes-list labels (λ k done. found_so_far d (before_runs k) (record d.solved { safe = Some done })) (run_line labels) (MayFollow (is_run (graph_at labels)) is_list_before)
    (λ done run k may. run-item labels d done run k are may) runs [] (all-follow (is_run (graph_at labels)) is_list_before runs [] is.pass is.rise))
