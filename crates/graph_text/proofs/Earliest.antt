-- The earliest refusal of two lists, and of lists that grow by refusals of a later line.
use Rattle.std.proofs.Common.{◌≡◌, ℕ, ◌<◌, ◌≤◌, ◌∷◌, ◌++◌, [], List, Bool, true, false, cond, leb, Option, Some, None, refl, sym, ap, subst, ◌∙◌, filter, ◌||◌, arith}
use Rattle.std.specs.Option.{IfSome}
use Rattle.std.specs.List.{All, list_any}
use Rattle.std.proofs.lemmas.Bool.{cond_both, cond-true, cond-false, le-leb, lt-leb}
use Rattle.std.proofs.lemmas.Bool.Decides.{nat_tests}
use Rattle.std.proofs.lemmas.List.Elements.{All-head, All-tail, All-map, All-filter, filter-append}
use Rattle.std.proofs.lemmas.List.{map-append}
use Rattle.report_terms.specs.declared.refusal.Why.{Why}
use Rattle.report_terms.specs.declared.refusal.Refusal.{Refusal}
use Rattle.graph_text.specs.Reading.{Line, refused, earlier, earliest, or_else, repeats, same_fields, ends_of}

-- the earlier one of two refusals, the first one where both are on one line
abbrev pub merge : Option Refusal → Option Refusal → Option Refusal
merge None other = other
merge (Some r) other = earlier r other

pub earlier-first : (r s : Refusal) → r.line ≤ s.line → earlier r (Some s) ≡ Some r
earlier-first r s h = cond-true (leb r.line s.line) (Some r) (Some s) (le-leb r.line s.line h)

pub earlier-second : (r s : Refusal) → s.line < r.line → earlier r (Some s) ≡ Some s
earlier-second r s h = cond-false (leb r.line s.line) (Some r) (Some s) (lt-leb r.line s.line h)

earlier-merge : (r : Refusal) (a b : Option Refusal) → earlier r (merge a b) ≡ merge (earlier r a) b
earlier-merge r None b = refl
earlier-merge r (Some s) None =
    cond_both (leb r.line s.line) (Some r) (Some s) (λ o. o ≡ merge o None) (λ _. refl) (λ _. refl)
earlier-merge r (Some s) (Some t) = grind (arith, nat_tests)

pub merge-assoc : (a b c : Option Refusal) → merge (merge a b) c ≡ merge a (merge b c)
merge-assoc None b c = refl
merge-assoc (Some r) b c = sym (earlier-merge r b c)

pub earliest-append : (xs ys : List Refusal) → earliest (xs ++ ys) ≡ merge (earliest xs) (earliest ys)
earliest-append [] ys = refl
earliest-append (x ∷ xs) ys =
    ap (earlier x) (earliest-append xs ys) ∙ earlier-merge x (earliest xs) (earliest ys)

earlier-IfSome : (P : Refusal → Type 0) (r : Refusal) (o : Option Refusal) → P r → IfSome o P → IfSome (earlier r o) P
earlier-IfSome P r None h k = h
earlier-IfSome P r (Some s) h k =
    cond_both (leb r.line s.line) (Some r) (Some s) (λ o. IfSome o P) (λ _. h) (λ _. k)

pub merge-IfSome : (P : Refusal → Type 0) (a b : Option Refusal) → IfSome a P → IfSome b P → IfSome (merge a b) P
merge-IfSome P None b h k = k
merge-IfSome P (Some r) b h k = earlier-IfSome P r b h k

or_else-IfSome : (P : Refusal → Type 0) (a b : Option Refusal) → IfSome a P → IfSome b P → IfSome (or_else a b) P
or_else-IfSome P None b h k = k
or_else-IfSome P (Some r) b h k = h

pub earliest-All : (P : Refusal → Type 0) (rs : List Refusal) → All P rs → IfSome (earliest rs) P
earliest-All P [] h = tt
earliest-All P (r ∷ rs) h =
    earlier-IfSome P r (earliest rs) (All-head P r rs h) (earliest-All P rs (All-tail P r rs h))

-- A refusal grows by one on a later line: the old one stands where there was one.
pub record Grows (line : ℕ) (old new more : Option Refusal) : Type 0 where
  pub below : IfSome old (λ r. r.line < line)
  pub here : IfSome more (λ r. r.line ≡ line)
  pub same : new ≡ or_else old more

merge-below : (line : ℕ) (o n : Option Refusal) → IfSome o (λ r. r.line < line) → IfSome n (λ r. r.line ≡ line) → merge o n ≡ or_else o n
merge-below line None n h k = refl
merge-below line (Some o) None h k = refl
merge-below line (Some o) (Some n) h k = earlier-first o n (omega arith)

merge-grown : (line : ℕ) (a b m n : Option Refusal) → IfSome a (λ r. r.line < line) → IfSome b (λ r. r.line < line) → IfSome m (λ r. r.line ≡ line) → IfSome n (λ r. r.line ≡ line) → merge (or_else a m) (or_else b n) ≡ or_else (merge a b) (or_else m n)
merge-grown line None None None n ha hb hm hn = refl
merge-grown line None None (Some x) None ha hb hm hn = refl
merge-grown line None None (Some x) (Some y) ha hb hm hn = earlier-first x y (omega arith)
merge-grown line None (Some o) None n ha hb hm hn = refl
merge-grown line None (Some o) (Some x) n ha hb hm hn = earlier-second x o (omega arith)
merge-grown line (Some r) None m None ha hb hm hn = refl
merge-grown line (Some r) None m (Some y) ha hb hm hn = earlier-first r y (omega arith)
merge-grown line (Some r) (Some o) m n ha hb hm hn =
    cond_both (leb r.line o.line) (Some r) (Some o) (λ x. x ≡ or_else x (or_else m n)) (λ _. refl) (λ _. refl)

pub Grows-merge : (line : ℕ) (a b a' b' m n : Option Refusal) → Grows line a a' m → Grows line b b' n → Grows line (merge a b) (merge a' b') (or_else m n)
Grows-merge line a b a' b' m n p q = record {
  below = merge-IfSome (λ r. r.line < line) a b p.below q.below;
  here = or_else-IfSome (λ r. r.line ≡ line) m n p.here q.here;
  same = let e = merge-grown line a b m n p.below q.below p.here q.here in cc;
}

-- a refusal of a line, where the test says so
abbrev pub refusal_if : Why → Line → Bool → Option Refusal
refusal_if why l test = cond test (Some (record { line = l.number; why = why })) None

refusal_if-here : (why : Why) (l : Line) (test : Bool) → IfSome (refusal_if why l test) (λ r. r.line ≡ l.number)
refusal_if-here why l true = refl
refusal_if-here why l false = tt

refused-All : (why : Why) (n : ℕ) (lines : List Line) → All (λ l. l.number < n) lines → All (λ r. r.line < n) (refused why lines)
refused-All why n lines h = All-map (λ r. r.line < n) (λ (l : Line). record { line = l.number; why = why }) lines h

refused_if : (why : Why) (l : Line) (test : Bool) → earliest (refused why (cond test (l ∷ []) [])) ≡ refusal_if why l test
refused_if why l true = refl
refused_if why l false = refl

or_else-None : (o : Option Refusal) → o ≡ or_else o None
or_else-None None = refl
or_else-None (Some r) = refl

refused-append : (why : Why) (a b : List Line) → earliest (refused why (a ++ b)) ≡ merge (earliest (refused why a)) (earliest (refused why b))
refused-append why a b =
    ap earliest (map-append (λ (l : Line). record { line = l.number; why = why }) a b)
    ∙ earliest-append (refused why a) (refused why b)

refused-below : (why : Why) (n : ℕ) (lines : List Line) → All (λ l. l.number < n) lines → IfSome (earliest (refused why lines)) (λ r. r.line < n)
refused-below why n lines h =
    earliest-All (λ r. r.line < n) (refused why lines) (refused-All why n lines h)

-- a kind of refusal that grows by the new line where that passes a test
pub Grows-kind : (why : Why) (lines : List Line) (l : Line) (test : Bool) → All (λ k. k.number < l.number) lines → Grows l.number (earliest (refused why lines)) (earliest (refused why (lines ++ cond test (l ∷ []) []))) (refusal_if why l test)
Grows-kind why lines l test h =
    let below = refused-below why l.number lines h in
    record {
      below = below;
      here = refusal_if-here why l test;
      same = refused-append why lines (cond test (l ∷ []) [])
          ∙ ap (merge (earliest (refused why lines))) (refused_if why l test)
          ∙ merge-below l.number (earliest (refused why lines)) (refusal_if why l test) below (refusal_if-here why l test);
    }

-- a kind of refusal that stays
pub Grows-same : (why : Why) (lines : List Line) (l : Line) → All (λ k. k.number < l.number) lines → Grows l.number (earliest (refused why lines)) (earliest (refused why lines)) None
Grows-same why lines l h = record {
  below = refused-below why l.number lines h;
  here = tt;
  same = or_else-None (earliest (refused why lines));
}

-- the same change at equal values
pub Grows-at : (line : ℕ) (a b a' b' m n : Option Refusal) → a ≡ b → a' ≡ b' → m ≡ n → Grows line a a' m → Grows line b b' n
Grows-at line a b a' b' m n e e' f g = record {
  below = subst (λ (o : Option Refusal). IfSome o (λ r. r.line < line)) e g.below;
  here = subst (λ (o : Option Refusal). IfSome o (λ r. r.line ≡ line)) f g.here;
  same = let h = g.same in cc;
}

-- lists of refusals put one behind the other
pub Grows-append : (line : ℕ) (a b a' b' : List Refusal) (m n : Option Refusal) → Grows line (earliest a) (earliest a') m → Grows line (earliest b) (earliest b') n → Grows line (earliest (a ++ b)) (earliest (a' ++ b')) (or_else m n)
Grows-append line a b a' b' m n p q =
    Grows-at line (merge (earliest a) (earliest b)) (earliest (a ++ b)) (merge (earliest a') (earliest b')) (earliest (a' ++ b')) (or_else m n) (or_else m n)
    (sym (earliest-append a b)) (sym (earliest-append a' b')) refl
    (Grows-merge line (earliest a) (earliest b) (earliest a') (earliest b') m n p q)

either : (why : Why) (l : Line) (a b : Bool) → or_else (refusal_if why l a) (refusal_if why l b) ≡ refusal_if why l (a || b)
either why l true b = refl
either why l false b = refl

-- the lines that repeat an earlier one
pub Grows-repeats : (why : Why) (lines : List Line) (l : Line) → All (λ k. k.number < l.number) lines → Grows l.number (earliest (refused why (repeats lines))) (earliest (refused why (repeats (lines ++ l ∷ [])))) (refusal_if why l (list_any (λ k. same_fields (ends_of k) (ends_of l)) lines))
Grows-repeats why [] l h = record { below = tt; here = tt; same = refl }
Grows-repeats why (k ∷ lines) l h =
    let rest = All-tail (λ (k : Line). k.number < l.number) k lines h in
    let same = λ (x : Line). same_fields (ends_of k) (ends_of x) in
    let old = filter same lines in
    let new = old ++ cond (same l) (l ∷ []) [] in
    Grows-at l.number
    (merge (earliest (refused why old)) (earliest (refused why (repeats lines))))
    (earliest (refused why (repeats (k ∷ lines))))
    (merge (earliest (refused why new)) (earliest (refused why (repeats (lines ++ l ∷ [])))))
    (earliest (refused why (repeats (k ∷ lines ++ l ∷ []))))
    (or_else (refusal_if why l (same l)) (refusal_if why l (list_any (λ k. same_fields (ends_of k) (ends_of l)) lines)))
    (refusal_if why l (list_any (λ k. same_fields (ends_of k) (ends_of l)) (k ∷ lines)))
    (sym (refused-append why old (repeats lines)))
    (sym (refused-append why new (repeats (lines ++ l ∷ [])))
    ∙ ap (λ x. earliest (refused why (x ++ repeats (lines ++ l ∷ [])))) (sym (filter-append same lines (l ∷ []))))
    (either why l (same l) (list_any (λ k. same_fields (ends_of k) (ends_of l)) lines))
    (Grows-merge l.number (earliest (refused why old)) (earliest (refused why (repeats lines)))
    (earliest (refused why new)) (earliest (refused why (repeats (lines ++ l ∷ []))))
    (refusal_if why l (same l)) (refusal_if why l (list_any (λ k. same_fields (ends_of k) (ends_of l)) lines))
    (Grows-kind why old l (same l) (All-filter same (λ k. k.number < l.number) lines rest))
    (Grows-repeats why lines l rest))
