-- How a draft stands for one more line.
use Rattle.std.proofs.Common.{◌≡◌, ℕ, zero, suc, Contains, ◌<◌, ◌≤◌, ◌==◌, ◌∷◌, ◌++◌, [], List, length, map, drop, Bool, true, false, not, ◌&&◌, ◌||◌, cond, ltb, Option, Some, None, refl, sym, ap, subst, ◌∙◌, arith}
use Rattle.std.specs.Bool.{then_some}
use Rattle.std.specs.List.{All, list_any}
use Rattle.std.specs.Option.{is_some, option_or, option_to_list}
use Rattle.std.proofs.lemmas.Bool.{true≢false, false≢true, eqb-true, eqb-false, not-true, not-false, or_right}
use Rattle.std.proofs.lemmas.List.{nil_from_length, append-nil, map_push}
use Rattle.std.proofs.lemmas.List.Elements.{All-contains}
use Rattle.std.specs.List.{AllPairs}
use Rattle.std.proofs.Common.{get_or}
use Rattle.std.proofs.lemmas.List.Elements.{All-append, Contains-get_or}
use Rattle.std.proofs.lemmas.List.Kept.{AllPairs-cons}
use Rattle.dag_net.proofs.Lists.{Contains-head}
use Rattle.graph_text.proofs.Finishing.{Rises}
use Rattle.std.proofs.lemmas.List.Folds.{list_any-append}
use Rattle.decomposition.specs.declared.Mode.{Mode}
use Rattle.graph_text.specs.declared.draft.Draft.{Draft}
use Rattle.report_terms.specs.declared.refusal.Why.{Why}
use Rattle.report_terms.specs.declared.refusal.Refusal.{Refusal}
use Rattle.graph_text.specs.Constraints.{Listing, listing_of, with_listing}
use Rattle.graph_text.specs.Draft.{Drafts, is_content, is_run, settled_refusals}
use Rattle.graph_text.specs.DraftGraph.{HoldsEdges, numbers_of}
use Rattle.graph_text.specs.Lines.{are_no_fields, are_hash_fields}
use Rattle.graph_text.specs.LineFaults.{refusal_at, fault_of_comment, fault_of_run}
use Rattle.report_terms.specs.declared.refusal.Why.TheVariants.{LongLine, ShortConstraint}
use Rattle.graph_text.specs.Reading.{Line, most_bytes, content_lines, edge_lines, listed, same_fields, is_short, constraint_lines, earliest, or_else}
use Rattle.graph_text.specs.ShownLine.{IsBlank, IsHash, IsRunLine, IsContent}
use Rattle.graph_text.proofs.FirstLists.{is_listed, constraints-other, constraints-run}
use Rattle.graph_text.proofs.KindsOfLines.{no_run-blank, no_run-content}
use Rattle.graph_text.proofs.LineByLine.{content-blank, content-any, last-more, last-blank}
use Rattle.graph_text.proofs.Places.{list_any-map, map-map}
use Rattle.graph_text.proofs.SettledRefusals.{settled-blank}

-- the same choice in two words
pub same_choice : (a b : Option Refusal) → option_or a b ≡ or_else a b
same_choice None b = refl
same_choice (Some r) b = refl

-- whether a line passes a test, after one more line
any-more : (p : Line → Bool) (lines : List Line) (l : Line) (test : Bool) → p l ≡ test → list_any p (lines ++ l ∷ []) ≡ (list_any p lines || test)
any-more p lines l test e = list_any-append p lines (l ∷ []) ∙ by test e
  where
    by : (test : Bool) → p l ≡ test → (list_any p lines || (p l || false)) ≡ (list_any p lines || test)
    by true e = ap (λ b. list_any p lines || (b || false)) e
    by false e = ap (λ b. list_any p lines || (b || false)) e

right_false : (b : Bool) → (b || false) ≡ b
right_false true = refl
right_false false = refl

pub any-other : (p : Line → Bool) (lines : List Line) (l : Line) → p l ≡ false → list_any p (lines ++ l ∷ []) ≡ list_any p lines
any-other p lines l e = any-more p lines l false e ∙ right_false (list_any p lines)

pub any-there : (p : Line → Bool) (lines : List Line) (l : Line) → p l ≡ true → list_any p (lines ++ l ∷ []) ≡ true
any-there p lines l e = any-more p lines l true e ∙ or_right (list_any p lines) true refl

pub filled-content : (lines : List Line) (l : Line) → IsContent l → list_any is_content (lines ++ l ∷ []) ≡ true
filled-content lines l h = any-there is_content lines l (ap (λ b. not b && not (are_hash_fields l.fields)) h.some ∙ ap not h.no_hash)

Contains-behind : {X : Type 0} (x : X) (xs : List X) (y : X) → Contains xs y → Contains (x ∷ xs) y
Contains-behind x xs y (k, within, same) = (suc k, omega arith, same)

-- what holds of each pair of elements of two lists, one behind the other
AllPairs-append : {X : Type 0} (R : X → X → Type 0) (xs ys : List X) → AllPairs R xs → AllPairs R ys → ((a b : X) → Contains xs a → Contains ys b → R a b) → AllPairs R (xs ++ ys)
AllPairs-append R [] ys front back cross = back
AllPairs-append R (x ∷ xs) ys front back cross =
    AllPairs-cons R x (xs ++ ys)
    (All-append (R x) xs ys
    (λ k d within. front 0 (suc k) d (omega arith) (omega arith))
    (λ k d within. cross x (get_or ys k d) (Contains-head x xs) (Contains-get_or ys k d within)))
    (AllPairs-append R xs ys
    (λ i j d before within. front (suc i) (suc j) d (omega arith) (omega arith))
    back
    (λ a b first second. cross a b (Contains-behind x xs a first) second))

-- the numbers of lines rise, after one more
pub rising-more : (lines : List Line) (l : Line) → All (λ k. k.number < l.number) lines → Rises lines → Rises (lines ++ l ∷ [])
rising-more lines l below rises =
    AllPairs-append (λ (a b : Line). a.number ≤ b.number) lines (l ∷ []) rises
    (λ i j d less within. absurd (omega arith))
    (λ a b first second. later a b (All-contains (λ (k : Line). k.number < l.number) lines a below first) second)
  where
    later : (a b : Line) → a.number < l.number → Contains (l ∷ []) b → a.number ≤ b.number
    later a b less (zero, within, same) = let e : l.number ≡ b.number = ap (λ (k : Line). k.number) same in omega arith
    later a b less (suc k, within, same) = absurd (omega arith)

-- no refusal stands where none stood and the line has no fault
none_stands : (r : Option Refusal) (n : ℕ) (fault : Option Why) → or_else r (refusal_at n fault) ≡ None → (r ≡ None) × (fault ≡ None)
none_stands None n None e = (refl, refl)
none_stands None n (Some why) e = cc
none_stands (Some r) n fault e = cc

-- a draft that stood for some lines stands for one more that is not blank
pub Drafts-more : (mode : Mode) (lines : List Line) (l : Line) (d d' : Draft) (fault : Option Why)
    → Drafts mode lines d → All (λ k. k.number < l.number) lines → are_no_fields l.fields ≡ false
    → earliest (settled_refusals mode (lines ++ l ∷ [])) ≡ or_else (earliest (settled_refusals mode lines)) (refusal_at l.number fault)
    → d'.mode ≡ d.mode → d'.is_filled ≡ list_any is_content (lines ++ l ∷ []) → d'.last_filled ≡ Some l.number
    → d'.has_run ≡ list_any is_run (lines ++ l ∷ []) → d'.refusal ≡ or_else d.refusal (refusal_at l.number fault)
    → (d.refusal ≡ None → fault ≡ None → d'.constraints ≡ map listing_of (constraint_lines (lines ++ l ∷ [])))
    → (d.refusal ≡ None → fault ≡ None → HoldsEdges mode (edge_lines (lines ++ l ∷ [])) d'.graph)
    → Drafts mode (lines ++ l ∷ []) d'
Drafts-more mode lines l d d' fault h below some settled same filled last run refusal constraints graph = record {
  mode_is = same ∙ h.mode_is;
  filled = filled;
  last = ap option_to_list last ∙ sym (ap numbers_of (last-more lines l some));
  rising = rising-more lines l below h.rising;
  run = run;
  refusal_is = refusal ∙ ap (λ r. or_else r (refusal_at l.number fault)) h.refusal_is ∙ sym settled;
  constraints_are = λ none. let both = none_stands d.refusal l.number fault (sym refusal ∙ none) in constraints both.0 both.1;
  graph_is = λ none. let both = none_stands d.refusal l.number fault (sym refusal ∙ none) in graph both.0 both.1;
}

-- a draft that stood for some lines stands for a blank one more
pub Drafts-blank : (mode : Mode) (lines : List Line) (l : Line) (d : Draft) → Drafts mode lines d → All (λ k. k.number < l.number) lines → IsBlank l → Drafts mode (lines ++ l ∷ []) d
Drafts-blank mode lines l d h below blank = record {
  mode_is = h.mode_is;
  filled = h.filled ∙ sym (any-other is_content lines l (ap (λ b. not b && not (are_hash_fields l.fields)) blank.none));
  last = h.last ∙ sym (ap numbers_of (last-blank lines l blank));
  rising = rising-more lines l below h.rising;
  run = h.run ∙ sym (any-other is_run lines l (no_run-blank l.fields blank.none));
  refusal_is = h.refusal_is ∙ sym (settled-blank mode lines l blank);
  constraints_are = λ none. h.constraints_are none ∙ sym (ap (map listing_of) (constraints-other lines l (no_run-blank l.fields blank.none)));
  graph_is = λ none. subst (λ (c : List Line). HoldsEdges mode (drop 1 c) d.graph) (sym (content-blank lines l blank)) (h.graph_is none);
}

-- the fault of a `#` line that is no `#S` line, of which only the length counts
pub comment_fault : (l : Line) (is_long : Bool) → ltb most_bytes l.bytes ≡ is_long → then_some is_long LongLine ≡ fault_of_comment l
comment_fault l is_long e = by is_long ∙ sym (ap (λ b. cond b (Some LongLine) None) e)
  where
    by : (b : Bool) → then_some b LongLine ≡ cond b (Some LongLine) None
    by true = refl
    by false = refl

pub no_content-hash : (l : Line) → IsHash l → is_content l ≡ false
no_content-hash l h = ap (λ b. not b && not (are_hash_fields l.fields)) h.some ∙ ap not h.hash

-- a content line leaves the `#S` lines as they are
pub run-content : (lines : List Line) (l : Line) → IsContent l → list_any is_run (lines ++ l ∷ []) ≡ list_any is_run lines
run-content lines l h = any-other is_run lines l (no_run-content l.fields h.no_hash)

pub constraints-content : (lines : List Line) (l : Line) → IsContent l → map listing_of (constraint_lines lines) ≡ map listing_of (constraint_lines (lines ++ l ∷ []))
constraints-content lines l h = sym (ap (map listing_of) (constraints-other lines l (no_run-content l.fields h.no_hash)))

-- what is wrong with a `#S` line after the kept lists
pub fault-kept : (listings : List Listing) (lines : List Line) (l : Line) → listings ≡ map listing_of lines → fault_of_run (map (λ c. c.names) listings) l ≡ fault_of_run (map listed lines) l
fault-kept listings lines l kept =
    ap (λ ls. fault_of_run (map (λ (c : Listing). c.names) ls) l) kept ∙ ap (λ ls. fault_of_run ls l) (map-map (λ (c : Listing). c.names) listing_of lines)

-- the kept lists after a `#S` line without a fault
pub constraints-more : (lines : List Line) (l : Line) → IsRunLine l → fault_of_run (map listed (constraint_lines lines)) l ≡ None
    → with_listing (map listing_of (constraint_lines lines)) (listing_of l) ≡ map listing_of (constraint_lines (lines ++ l ∷ []))
constraints-more lines l h faultless =
    ap (λ b. cond b (map listing_of (constraint_lines lines)) (map listing_of (constraint_lines lines) ++ listing_of l ∷ [])) (list_any-map (λ c. same_fields c.names (listed l)) listing_of (constraint_lines lines))
    ∙ by (is_listed (constraint_lines lines) l) (constraint_lines lines)
    ∙ ap (λ b. map listing_of (constraint_lines lines ++ cond (b || is_listed (constraint_lines lines) l) [] (l ∷ []))) (sym (long_enough (ltb most_bytes l.bytes) (is_short l) _ faultless))
    ∙ sym (ap (map listing_of) (constraints-run lines l h.run))
  where
    by : (b : Bool) (lists : List Line) → cond b (map listing_of lists) (map listing_of lists ++ listing_of l ∷ []) ≡ map listing_of (lists ++ cond b [] (l ∷ []))
    by true lists = ap (map listing_of) (sym (append-nil lists))
    by false lists = sym (map_push listing_of lists l)

    long_enough : (a b : Bool) (other : Option Why) → cond a (Some LongLine) (cond b (Some ShortConstraint) other) ≡ None → b ≡ false
    long_enough true b other e = absurd (let f : Some LongLine ≡ None = e in cc)
    long_enough false true other e = absurd (let f : Some ShortConstraint ≡ None = e in cc)
    long_enough false false other e = refl

-- whether there is a content line says whether the list of them is empty
pub none-content : (lines : List Line) → list_any is_content lines ≡ false → content_lines lines ≡ []
none-content lines e =
    nil_from_length (content_lines lines) (eqb-true (length (content_lines lines)) 0 (not-false (length (content_lines lines) == 0) (sym (content-any lines) ∙ e)))

pub some-content : (lines : List Line) → list_any is_content lines ≡ true → 0 < length (content_lines lines)
some-content lines e =
    let differs : length (content_lines lines) ≡ 0 → ⊥ = eqb-false (length (content_lines lines)) 0 (not-true (length (content_lines lines) == 0) (sym (content-any lines) ∙ e)) in
    omega arith

-- a refusal that stands stays
pub stands_still : (r other : Option Refusal) → is_some r ≡ true → (r ≡ or_else r other) × (r ≡ None → ⊥)
stands_still None other e = absurd (false≢true e)
stands_still (Some r) other e = (refl, λ f. cc)

pub is_none : (r : Option Refusal) → is_some r ≡ false → r ≡ None
is_none None e = refl
is_none (Some r) e = absurd (true≢false e)
