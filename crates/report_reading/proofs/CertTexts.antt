-- A certificate whose items are read one by one: its text so far, and that it may stand in a report.
use Rattle.std.proofs.Common.{◌≡◌, ℕ, suc, ◌+◌, ◌^◌, ◌<◌, ◌≤◌, Bool, true, nat_lt, ◌&&◌, List, [], ◌∷◌, ◌++◌, length, refl, sym, ap, ◌∙◌, subst, inl, inr, arith, lt-ltb, append-nil, append_assoc}
use Rattle.std.specs.Prelude.{Result, Ok, decimal, codes, flat_map}
use Rattle.std.specs.List.{list_all}
use Rattle.std.proofs.lemmas.Bool.{and_from}
use Rattle.std.proofs.lemmas.List.{length_push}
use Rattle.std.proofs.lemmas.Grind.{flat_map-append}
use Rattle.std.proofs.lemmas.List.Folds.{list_all-append}
use Rattle.decomposition.specs.declared.Side.{Side}
use Rattle.decomposition.specs.declared.Side.TheVariants.{Entering, Leaving}
use Rattle.decomposition.specs.declared.Token.{Token}
use Rattle.decomposition.specs.Answer.{is_ordered}
use Rattle.graph_text.specs.Labels.{LabelLists, name_at, tail_at, head_at}
use Rattle.report_terms.specs.declared.report.Cert.{Cert}
use Rattle.report_terms.specs.declared.report.Cert.TheVariants.{Zero, Wide, Tree, Cut, Crowd}
use Rattle.report_terms.specs.declared.report.Trail.{Trail}
use Rattle.report_reading.specs.declared.read_fault.ReadWhy.{ReadWhy}
use Rattle.report_reading.specs.declared.read_fault.ReadWhy.TheVariants.{BadNumber, BadName}
use Rattle.report_reading.specs.ReportText.{line, number_or_none, side_word, edge_line, vertex_line, rule_line, token_line, cert_text, fits, fits_or_none, is_place, is_token, is_trail, is_cert}
use Rattle.report_reading.specs.LineFields.{field_at, has_words, greatest, number_in, edge_in}
use Rattle.report_reading.specs.LineSteps.{given, given_ok}
use Rattle.report_reading.specs.ListSteps.{cert_in, trail_in, token_in, with_token, edge_after, vertex_after, rule_after, with_item}
use Rattle.report_reading.proofs.Taken.{must-taken, given-taken, given_ok-taken, cond-taken}
use Rattle.report_reading.proofs.Spelled.{number-spelled}
use Rattle.report_reading.proofs.WordTests.{words-2-2, words-2-3, words-2-5, words-3-4}
use Rattle.report_reading.proofs.NamedRuns.{edge-named}
use Rattle.report_reading.proofs.Following.{is_ordered-push}
use Rattle.report_reading.proofs.LineTexts.{IsLine, is_line, on-ok, TrailRead, trail-line, token-line, ItemRead, edge-after, vertex-after, rule-after}

-- the fields of a trail of which so many tokens are still to come
abbrev pub trail_head : Trail → ℕ → List (List ℕ)
trail_head t n = decimal t.decision.slots ∷ number_or_none t.decision.limit ∷ decimal (length t.tokens + n) ∷ []

-- the text so far of a certificate of which so many items are still to come
abbrev pub cert_so_far : LabelLists → Cert → ℕ → List ℕ
cert_so_far labels Zero n = line (codes "cert" ∷ codes "none" ∷ [])
cert_so_far labels (Wide edges) n = line (codes "cert" ∷ codes "wide" ∷ decimal (length edges + n) ∷ []) ++ flat_map (edge_line labels) edges
cert_so_far labels (Tree tree) n = line (codes "cert" ∷ codes "tree" ∷ trail_head tree n) ++ flat_map token_line tree.tokens
cert_so_far labels (Cut side vertices) n =
    line (codes "cert" ∷ codes "cut" ∷ side_word side ∷ decimal (length vertices + n) ∷ []) ++ flat_map (vertex_line labels) vertices
cert_so_far labels (Crowd e rules) n =
    line (codes "cert" ∷ codes "crowd" ∷ name_at labels (tail_at labels e) ∷ name_at labels (head_at labels e) ∷ decimal (length rules + n) ∷ [])
    ++ flat_map rule_line rules

-- items that pass a test and rise, with so many still to come
pub record AreItems (test : ℕ → Bool) (items : List ℕ) (n : ℕ) : Type 0 where
  pub pass : list_all test items ≡ true
  pub rise : is_ordered nat_lt items ≡ true
  pub few : length items + n < 2 ^ 64

-- a trail with so many tokens still to come
pub record IsTrailPart (t : Trail) (n : ℕ) : Type 0 where
  pub slots : nat_lt t.decision.slots (2 ^ 32) ≡ true
  pub limit : fits_or_none t.decision.limit ≡ true
  pub pass : list_all is_token t.tokens ≡ true
  pub few : length t.tokens + n < 2 ^ 64

-- the part of a certificate that is read may stand in a report
abbrev pub IsCertPart : LabelLists → Cert → ℕ → Type 0
IsCertPart labels Zero n = n ≡ 0
IsCertPart labels (Wide edges) n = AreItems (λ e. nat_lt e (length labels.edges)) edges n
IsCertPart labels (Tree tree) n = IsTrailPart tree n
IsCertPart labels (Cut side vertices) n = AreItems (λ v. nat_lt v (length labels.names)) vertices n
IsCertPart labels (Crowd e rules) n = (nat_lt e (length labels.edges) ≡ true) × AreItems is_place rules n

no_more : (k : ℕ) → k + 0 ≡ k
no_more k = omega arith

-- without items to come it is the text of the certificate, which is regular
pub cert-done : (labels : LabelLists) (cert : Cert) → cert_so_far labels cert 0 ≡ cert_text labels cert
cert-done labels Zero = refl
cert-done labels (Wide edges) =
    ap (λ k. line (codes "cert" ∷ codes "wide" ∷ decimal k ∷ []) ++ flat_map (edge_line labels) edges) (no_more (length edges))
cert-done labels (Tree t) =
    ap (λ k. line (codes "cert" ∷ codes "tree" ∷ decimal t.decision.slots ∷ number_or_none t.decision.limit ∷ decimal k ∷ []) ++ flat_map token_line t.tokens)
    (no_more (length t.tokens))
cert-done labels (Cut side vertices) =
    ap (λ k. line (codes "cert" ∷ codes "cut" ∷ side_word side ∷ decimal k ∷ []) ++ flat_map (vertex_line labels) vertices) (no_more (length vertices))
cert-done labels (Crowd e rules) =
    ap
    (λ k.
    line (codes "cert" ∷ codes "crowd" ∷ name_at labels (tail_at labels e) ∷ name_at labels (head_at labels e) ∷ decimal k ∷ [])
    ++ flat_map rule_line rules)
    (no_more (length rules))

items-done : (test : ℕ → Bool) (items : List ℕ) → AreItems test items 0 → (list_all test items && (is_ordered nat_lt items && fits (length items))) ≡ true
items-done test items are =
    and_from (list_all test items) (is_ordered nat_lt items && fits (length items)) are.pass
    (and_from (is_ordered nat_lt items) (fits (length items)) are.rise (lt-ltb (length items) (2 ^ 64) (omega (arith, are.few))))

pub trail-done : (t : Trail) → IsTrailPart t 0 → is_trail t ≡ true
trail-done t is =
    let tokens = list_all is_token t.tokens && fits (length t.tokens) in
    and_from (nat_lt t.decision.slots (2 ^ 32)) (fits_or_none t.decision.limit && tokens) is.slots
    (and_from (fits_or_none t.decision.limit) tokens is.limit
    (and_from (list_all is_token t.tokens) (fits (length t.tokens)) is.pass (lt-ltb (length t.tokens) (2 ^ 64) (omega (arith, is.few)))))

pub cert-regular : (labels : LabelLists) (cert : Cert) → IsCertPart labels cert 0 → is_cert labels cert ≡ true
cert-regular labels Zero is = refl
cert-regular labels (Wide edges) is = items-done (λ e. nat_lt e (length labels.edges)) edges is
cert-regular labels (Tree tree) is = trail-done tree is
cert-regular labels (Cut side vertices) is = items-done (λ v. nat_lt v (length labels.names)) vertices is
cert-regular labels (Crowd e rules) is = and_from (nat_lt e (length labels.edges)) _ is.0 (items-done is_place rules is.1)

-- a certificate that is taken, with so many items to come
pub record CertRead (labels : LabelLists) (fields : List (List ℕ)) (c : Cert × ℕ) : Type 0 where
  pub text : IsLine fields (cert_so_far labels c.0 c.1)
  pub part : IsCertPart labels c.0 c.1

none_yet : (text : List ℕ) (fields : List (List ℕ)) → IsLine fields text → IsLine fields (text ++ [])
none_yet text fields is = subst (IsLine fields) (sym (append-nil text)) is

few_yet : (n : ℕ) → n ≤ greatest → 0 + n < 2 ^ 64
few_yet n h = omega (arith, h)

from_none : (n : ℕ) → n ≡ 0 + n
from_none n = omega arith

-- a trail that was taken may stand in a report
pub trail_part : {slots limit count : List ℕ} (t : Trail × ℕ) → TrailRead slots limit count t → IsTrailPart t.0 t.1
trail_part t read =
    record {
      slots = read.decision.few_slots;
      limit = read.decision.limit_fits;
      pass = ap (list_all is_token) read.empty;
      few = omega (arith, ap (λ (ts : List Token). length ts) read.empty, read.few);
    }

wide-line : (labels : LabelLists) (fields : List (List ℕ)) (c : Cert × ℕ) → has_words (codes "cert" ∷ codes "wide" ∷ []) 3 fields ≡ true →
    (let r : Result (Cert × ℕ) ReadWhy = given BadNumber (number_in 0 greatest (field_at fields 2)) (λ n. Ok (Wide [], n)) in r ≡ Ok c) →
    CertRead labels fields c
wide-line labels fields c words h =
    let g = given-taken _ (number_in 0 greatest (field_at fields 2)) _ c h in
    let s = number-spelled 0 greatest (field_at fields 2) g.0 (omega arith) g.1 in
    let made : Cert × ℕ = (Wide [], g.0) in
    let w = words-2-3 (codes "cert") (codes "wide") fields words ∙ ap (λ f. codes "cert" ∷ codes "wide" ∷ f ∷ []) (s.spelled ∙ ap decimal (from_none g.0)) in
    on-ok (CertRead labels fields) made c g.2
    (record { text = none_yet _ fields (is_line fields _ _ w); part = record { pass = refl; rise = refl; few = few_yet g.0 s.most_is } })

tree-line : (labels : LabelLists) (fields : List (List ℕ)) (c : Cert × ℕ) → has_words (codes "cert" ∷ codes "tree" ∷ []) 5 fields ≡ true →
    (let r : Result (Cert × ℕ) ReadWhy = given_ok (trail_in (field_at fields 2) (field_at fields 3) (field_at fields 4)) (λ t. Ok (Tree t.0, t.1)) in r ≡ Ok c) →
    CertRead labels fields c
tree-line labels fields c words h =
    let g = given_ok-taken (trail_in (field_at fields 2) (field_at fields 3) (field_at fields 4)) _ c h in
    let t = trail-line (field_at fields 2) (field_at fields 3) (field_at fields 4) g.0 g.1 in
    let made : Cert × ℕ = (Tree g.0.0, g.0.1) in
    let w =
    words-2-5 (codes "cert") (codes "tree") fields words
    ∙ ap (λ f. codes "cert" ∷ codes "tree" ∷ f ∷ field_at fields 3 ∷ field_at fields 4 ∷ []) t.decision.slots_is
    ∙ ap (λ f. codes "cert" ∷ codes "tree" ∷ decimal g.0.0.decision.slots ∷ f ∷ field_at fields 4 ∷ []) t.decision.limit_is
    ∙ ap (λ f. codes "cert" ∷ codes "tree" ∷ decimal g.0.0.decision.slots ∷ number_or_none g.0.0.decision.limit ∷ f ∷ [])
    (t.count_is ∙ ap decimal (from_none g.0.1 ∙ ap (λ (ts : List Token). length ts + g.0.1) (sym t.empty))) in
    on-ok (CertRead labels fields) made c g.2
    (record {
      text = subst (λ (ts : List Token). IsLine fields (line (codes "cert" ∷ codes "tree" ∷ trail_head g.0.0 g.0.1) ++ flat_map token_line ts)) (sym t.empty) (none_yet _ fields (is_line fields _ _ w));
      part = trail_part g.0 t;
    })

cut-line : (labels : LabelLists) (side : Side) (fields : List (List ℕ)) (c : Cert × ℕ) →
    has_words (codes "cert" ∷ codes "cut" ∷ side_word side ∷ []) 4 fields ≡ true →
    (let r : Result (Cert × ℕ) ReadWhy = given BadNumber (number_in 0 greatest (field_at fields 3)) (λ n. Ok (Cut side [], n)) in r ≡ Ok c) →
    CertRead labels fields c
cut-line labels side fields c words h =
    let g = given-taken _ (number_in 0 greatest (field_at fields 3)) _ c h in
    let s = number-spelled 0 greatest (field_at fields 3) g.0 (omega arith) g.1 in
    let made : Cert × ℕ = (Cut side [], g.0) in
    let w = words-3-4 (codes "cert") (codes "cut") (side_word side) fields words ∙ ap (λ f. codes "cert" ∷ codes "cut" ∷ side_word side ∷ f ∷ []) (s.spelled ∙ ap decimal (from_none g.0)) in
    on-ok (CertRead labels fields) made c g.2
    (record { text = none_yet _ fields (is_line fields _ _ w); part = record { pass = refl; rise = refl; few = few_yet g.0 s.most_is } })

crowd-line : (labels : LabelLists) (fields : List (List ℕ)) (c : Cert × ℕ) → has_words (codes "cert" ∷ codes "crowd" ∷ []) 5 fields ≡ true →
    (let r : Result (Cert × ℕ) ReadWhy = given BadNumber (number_in 0 greatest (field_at fields 4)) (λ n. given BadName (edge_in labels (field_at fields 2) (field_at fields 3)) (λ e. Ok (Crowd e [], n))) in r ≡ Ok c) →
    CertRead labels fields c
crowd-line labels fields c words h =
    let g = given-taken _ (number_in 0 greatest (field_at fields 4)) _ c h in
    let k = given-taken _ (edge_in labels (field_at fields 2) (field_at fields 3)) _ c g.2 in
    let s = number-spelled 0 greatest (field_at fields 4) g.0 (omega arith) g.1 in
    let j = edge-named labels (field_at fields 2) (field_at fields 3) k.0 k.1 in
    let made : Cert × ℕ = (Crowd k.0 [], g.0) in
    let w =
    words-2-5 (codes "cert") (codes "crowd") fields words
    ∙ ap (λ f. codes "cert" ∷ codes "crowd" ∷ f ∷ field_at fields 3 ∷ field_at fields 4 ∷ []) j.tail_name
    ∙ ap (λ f. codes "cert" ∷ codes "crowd" ∷ name_at labels (tail_at labels k.0) ∷ f ∷ field_at fields 4 ∷ []) j.head_name
    ∙ ap (λ f. codes "cert" ∷ codes "crowd" ∷ name_at labels (tail_at labels k.0) ∷ name_at labels (head_at labels k.0) ∷ f ∷ [])
    (s.spelled ∙ ap decimal (from_none g.0)) in
    on-ok (CertRead labels fields) made c k.2
    (record {
      text = none_yet _ fields (is_line fields _ _ w);
      part = (lt-ltb _ _ j.inside, record { pass = refl; rise = refl; few = few_yet g.0 s.most_is });
    })

pub cert-line : (labels : LabelLists) (fields : List (List ℕ)) (c : Cert × ℕ) → cert_in labels fields ≡ Ok c → CertRead labels fields c
cert-line labels fields c h =
    elim (cond-taken (has_words (codes "cert" ∷ codes "none" ∷ []) 2 fields) _ _ c h) [
      | inl a ↦
          let made : Cert × ℕ = (Zero, 0) in
          on-ok (CertRead labels fields) made c a.1 (record { text = is_line fields _ _ (words-2-2 (codes "cert") (codes "none") fields a.0); part = refl })
      | inr a ↦
          elim (cond-taken (has_words (codes "cert" ∷ codes "wide" ∷ []) 3 fields) _ _ c a.1) [
            | inl b ↦ wide-line labels fields c b.0 b.1
            | inr b ↦
                elim (cond-taken (has_words (codes "cert" ∷ codes "tree" ∷ []) 5 fields) _ _ c b.1) [
                  | inl d ↦ tree-line labels fields c d.0 d.1
                  | inr d ↦
                      elim (cond-taken (has_words (codes "cert" ∷ codes "cut" ∷ codes "in" ∷ []) 4 fields) _ _ c d.1) [
                        | inl e ↦ cut-line labels Entering fields c e.0 e.1
                        | inr e ↦
                            elim (cond-taken (has_words (codes "cert" ∷ codes "cut" ∷ codes "out" ∷ []) 4 fields) _ _ c e.1) [
                              | inl f ↦ cut-line labels Leaving fields c f.0 f.1
                              | inr f ↦ let m = must-taken _ (has_words (codes "cert" ∷ codes "crowd" ∷ []) 5 fields) _ c f.1 in crowd-line labels fields c m.0 m.1
                            ]
                      ]
                ]
          ]
    ]

-- a certificate with one more item: the text goes on with its line
pub record ItemAdded (labels : LabelLists) (fields : List (List ℕ)) (n : ℕ) (old new : Cert) : Type 0 where
  pub item : List ℕ
  pub text : IsLine fields item
  pub goes_on : cert_so_far labels new n ≡ cert_so_far labels old (suc n) ++ item
  pub part : IsCertPart labels new n

-- one item more: as many to come in all
one_more : {X : Type 0} (xs : List X) (x : X) (n : ℕ) → length (xs ++ x ∷ []) + n ≡ length xs + suc n
one_more xs x n = omega (arith, length_push xs x)

-- a list with its head line, and one item more
listed : {X : Type 0} (head : ℕ → List ℕ) (text : X → List ℕ) (xs : List X) (x : X) (n : ℕ) →
    head (length (xs ++ x ∷ []) + n) ++ flat_map text (xs ++ x ∷ []) ≡ (head (length xs + suc n) ++ flat_map text xs) ++ text x
listed head text xs x n =
    ap (λ k. head k ++ flat_map text (xs ++ x ∷ [])) (one_more xs x n)
    ∙ ap (λ t. head (length xs + suc n) ++ t) (flat_map-append text xs (x ∷ []) ∙ ap (λ t. flat_map text xs ++ t) (append-nil (text x)))
    ∙ sym (append_assoc (head (length xs + suc n)) (flat_map text xs) (text x))

items-more : (text : ℕ → List ℕ) (test : ℕ → Bool) (items : List ℕ) (fields : List (List ℕ)) (x n : ℕ) → AreItems test items (suc n) →
    ItemRead text test items fields x → AreItems test (items ++ x ∷ []) n
items-more text test items fields x n are read =
    record {
      pass = list_all-append test items (x ∷ []) ∙ and_from (list_all test items) (test x && true) are.pass (and_from (test x) true read.regular refl);
      rise = is_ordered-push nat_lt items x are.rise read.follows;
      few = subst (λ k. k < 2 ^ 64) (sym (one_more items x n)) are.few;
    }

pub trail-more : (t : Trail) (token : Token) (n : ℕ) → IsTrailPart t (suc n) → is_token token ≡ true → IsTrailPart (with_token token t) n
trail-more t token n is regular =
    record {
      slots = is.slots;
      limit = is.limit;
      pass = list_all-append is_token t.tokens (token ∷ []) ∙ and_from (list_all is_token t.tokens) (is_token token && true) is.pass (and_from (is_token token) true regular refl);
      few = subst (λ k. k < 2 ^ 64) (sym (one_more t.tokens token n)) is.few;
    }

-- a trail with its first line, and one token more
pub trail-listed : (word : List (List ℕ)) (t : Trail) (token : Token) (n : ℕ) →
    line (word ++ trail_head (with_token token t) n) ++ flat_map token_line (with_token token t).tokens
    ≡ (line (word ++ trail_head t (suc n)) ++ flat_map token_line t.tokens) ++ token_line token
trail-listed word t token n =
    listed (λ k. line (word ++ decimal t.decision.slots ∷ number_or_none t.decision.limit ∷ decimal k ∷ [])) token_line t.tokens token n

pub item-added : (labels : LabelLists) (fields : List (List ℕ)) (n : ℕ) (old new : Cert) → IsCertPart labels old (suc n) →
    with_item labels old fields ≡ Ok new → ItemAdded labels fields n old new
item-added labels fields n Zero new part h = absurd (cc)
item-added labels fields n (Wide edges) new part h =
    let g = given_ok-taken (edge_after labels edges fields) _ new h in
    let read = edge-after labels edges fields g.0 g.1 in
    on-ok (ItemAdded labels fields n (Wide edges)) (Wide (edges ++ g.0 ∷ [])) new g.2
    (record {
      item = edge_line labels g.0;
      text = read.text_is;
      goes_on = listed (λ k. line (codes "cert" ∷ codes "wide" ∷ decimal k ∷ [])) (edge_line labels) edges g.0 n;
      part = items-more _ _ edges fields g.0 n part read;
    })
item-added labels fields n (Tree tree) new part h =
    let g = given_ok-taken (token_in fields) _ new h in
    let read = token-line fields g.0 g.1 in
    on-ok (ItemAdded labels fields n (Tree tree)) (Tree (with_token g.0 tree)) new g.2
    (record {
      item = token_line g.0;
      text = read.0;
      goes_on = trail-listed (codes "cert" ∷ codes "tree" ∷ []) tree g.0 n;
      part = trail-more tree g.0 n part read.1;
    })
item-added labels fields n (Cut side vertices) new part h =
    let g = given_ok-taken (vertex_after labels vertices fields) _ new h in
    let read = vertex-after labels vertices fields g.0 g.1 in
    on-ok (ItemAdded labels fields n (Cut side vertices)) (Cut side (vertices ++ g.0 ∷ [])) new g.2
    (record {
      item = vertex_line labels g.0;
      text = read.text_is;
      goes_on = listed (λ k. line (codes "cert" ∷ codes "cut" ∷ side_word side ∷ decimal k ∷ [])) (vertex_line labels) vertices g.0 n;
      part = items-more _ _ vertices fields g.0 n part read;
    })
item-added labels fields n (Crowd e rules) new part h =
    let g = given_ok-taken (rule_after rules fields) _ new h in
    let read = rule-after rules fields g.0 g.1 in
    on-ok (ItemAdded labels fields n (Crowd e rules)) (Crowd e (rules ++ g.0 ∷ [])) new g.2
    (record {
      item = rule_line g.0;
      text = read.text_is;
      goes_on =
          listed (λ k. line (codes "cert" ∷ codes "crowd" ∷ name_at labels (tail_at labels e) ∷ name_at labels (head_at labels e) ∷ decimal k ∷ [])) rule_line rules g.0 n;
      part = (part.0, items-more _ _ rules fields g.0 n part.1 read);
    })
