-- Lists of booked paths, rule by rule: what stands in them, and how they are begun and continued.
use Rattle.std.proofs.Common.{◌≡◌, ◌==◌, ℕ, ◌+◌, ◌<◌, ◌≤◌, Bool, true, false, ◌||◌, List, [], ◌∷◌, ◌++◌, length, drop, drop-cons, add-one, slice_index_or, refl, sym, ap, ◌∙◌, subst, append_assoc, arith, inl, inr}
use Rattle.std.specs.Prelude.{MatchBool}
use Rattle.std.specs.List.{list_any, list_all}
use Rattle.std.proofs.lemmas.Bool.{cases_Bool}
use Rattle.std.proofs.lemmas.List.{append-nil, drop_all, length-map, map-append}
use Rattle.decomposition.specs.Graph.{Graph, is_path, contains_run}
use Rattle.decomposition.specs.Answer.{IsAnswer, Covers}
use Rattle.decomposition.specs.FirstAnswer.{IsBookedPath, Books, IsBooked, with_unit}
use Rattle.decomposition.proofs.Members.{any-here, any-append_left, any-append_right}
use Rattle.decomposition.proofs.Root.{all-cons}
use Rattle.decomposition.proofs.Extremes.{unit-answer, contains_run-middle}
use Rattle.greedy_paths.specs.Booking.{AreBooked}

-- what a list of paths contains, its entries of weight 1 contain
contains-with_unit : (r : List ℕ) (ps : List (List ℕ)) → list_any (λ entry. contains_run entry.0 r) (with_unit ps) ≡ list_any (λ p. contains_run p r) ps
contains-with_unit r [] = refl
contains-with_unit r (p ∷ ps) = ap (λ b. contains_run p r || b) (contains-with_unit r ps)

pub weights-with_unit : (ps : List (List ℕ)) → list_all (λ entry. entry.1 == 1) (with_unit ps) ≡ true
weights-with_unit [] = refl
weights-with_unit (p ∷ ps) = weights-with_unit ps

module _ (g : Graph) (flow : ℕ → ℕ) where
  -- the rule at hand books nothing where it is contained, and else a path, which is followed by those of the others
  abbrev pub GoesOn : List (List ℕ) → List ℕ → List (List ℕ) → List (List ℕ) → Bool → Type 0
  GoesOn booked r rs more contained =
      MatchBool contained (Books g flow booked rs more) ((p : List ℕ) × (rest : List (List ℕ)) × (more ≡ p ∷ rest) × IsBookedPath g flow r p × Books g flow (booked ++ p ∷ []) rs rest)

  pub books-contained : (booked : List (List ℕ)) (r : List ℕ) (rs more : List (List ℕ)) → list_any (λ p. contains_run p r) booked ≡ true → Books g flow booked (r ∷ rs) more → GoesOn booked r rs more true
  books-contained booked r rs more hit books = subst (GoesOn booked r rs more) hit books

  pub books-taken : (booked : List (List ℕ)) (r : List ℕ) (rs more : List (List ℕ)) → list_any (λ p. contains_run p r) booked ≡ false → Books g flow booked (r ∷ rs) more → GoesOn booked r rs more false
  books-taken booked r rs more free books = subst (GoesOn booked r rs more) free books

  -- booked paths are paths
  books-paths : (rules booked more : List (List ℕ)) → Books g flow booked rules more → list_all (is_path g) more ≡ true
  books-paths [] booked more none = subst (λ ps. list_all (is_path g) ps ≡ true) (sym none) refl
  books-paths (r ∷ rs) booked more books =
      elim (cases_Bool (list_any (λ p. contains_run p r) booked)) [
        | inl hit ↦ books-paths rs booked more (books-contained booked r rs more hit books)
        | inr free ↦
            let (p, rest, is, path, others) = books-taken booked r rs more free books in
            subst (λ ps. list_all (is_path g) ps ≡ true) (sym is) (all-cons (is_path g) p rest path.path (books-paths rs (booked ++ p ∷ []) rest others))
      ]

  -- no more than there are rules
  books-few : (rules booked more : List (List ℕ)) → Books g flow booked rules more → length more ≤ length rules
  books-few [] booked more none = omega (arith, ap length none)
  books-few (r ∷ rs) booked more books =
      elim (cases_Bool (list_any (λ p. contains_run p r) booked)) [
        | inl hit ↦ omega (arith, books-few rs booked more (books-contained booked r rs more hit books))
        | inr free ↦
            let (p, rest, is, path, others) = books-taken booked r rs more free books in
            omega (arith, ap length is, books-few rs (booked ++ p ∷ []) rest others)
      ]

  -- and each rule is contained in one of them
  covers-cons : (r : List ℕ) (rs ps : List (List ℕ)) → list_any (λ p. contains_run p r) ps ≡ true → Covers rs (with_unit ps) → Covers (r ∷ rs) (with_unit ps)
  covers-cons r rs ps stands others = all-cons (λ s. list_any (λ (entry : List ℕ × ℕ). contains_run entry.0 s) (with_unit ps)) r rs (contains-with_unit r ps ∙ stands) others

  books-cover : (rules booked more : List (List ℕ)) → Books g flow booked rules more → Covers rules (with_unit (booked ++ more))
  books-cover [] booked more none = refl
  books-cover (r ∷ rs) booked more books =
      elim (cases_Bool (list_any (λ p. contains_run p r) booked)) [
        | inl hit ↦ covers-cons r rs (booked ++ more) (any-append_left (λ p. contains_run p r) booked more hit) (books-cover rs booked more (books-contained booked r rs more hit books))
        | inr free ↦
            let (p, rest, is, path, others) = books-taken booked r rs more free books in
            let whole : booked ++ more ≡ (booked ++ p ∷ []) ++ rest = ap (λ ps. booked ++ ps) is ∙ sym (append_assoc booked (p ∷ []) rest) in
            let stands : contains_run p r ≡ true = subst (λ q. contains_run q r ≡ true) (sym path.is) (contains_run-middle path.before r path.after) in
            let last = any-append_right (λ q. contains_run q r) booked (p ∷ []) (any-here (λ q. contains_run q r) p [] stands) in
            subst (λ ps. Covers (r ∷ rs) (with_unit ps)) (sym whole)
            (covers-cons r rs ((booked ++ p ∷ []) ++ rest) (any-append_left (λ q. contains_run q r) (booked ++ p ∷ []) rest last) (books-cover rs (booked ++ p ∷ []) rest others))
      ]

  module _ (rules : List (List ℕ)) where
    -- so the booked paths are an answer that covers, with at most one path for each rule
    pub AreBooked-answer : (a : List (List ℕ × ℕ)) → AreBooked g flow rules a → IsAnswer g a
    AreBooked-answer a (booked, is, books) = subst (IsAnswer g) (sym is) (unit-answer g booked (books-paths rules [] booked books))

    pub AreBooked-covers : (a : List (List ℕ × ℕ)) → AreBooked g flow rules a → Covers rules a
    AreBooked-covers a (booked, is, books) = subst (Covers rules) (sym is) (books-cover rules [] booked books)

    pub AreBooked-few : (a : List (List ℕ × ℕ)) → AreBooked g flow rules a → length a ≤ length rules
    AreBooked-few a (booked, is, books) = omega (arith, ap length is, length-map booked (λ (p : List ℕ). let x : List ℕ × ℕ = (p, 1) in x), books-few rules [] booked books)

    pub AreBooked-units : (a : List (List ℕ × ℕ)) → AreBooked g flow rules a → list_all (λ entry. entry.1 == 1) a ≡ true
    AreBooked-units a (booked, is, books) = subst (λ b. list_all (λ (entry : List ℕ × ℕ). entry.1 == 1) b ≡ true) (sym is) (weights-with_unit booked)

    -- the booked paths of the rules before place i
    pub record AreBegun (i : ℕ) (a : List (List ℕ × ℕ)) : Type 0 where
      pub booked : List (List ℕ)
      pub is : a ≡ with_unit booked
      pub goes_on : (more : List (List ℕ)) → Books g flow booked (drop i rules) more → IsBooked g flow rules (booked ++ more)

    rule_first : (i : ℕ) → i < length rules → drop i rules ≡ slice_index_or rules i [] ∷ drop (i + 1) rules
    rule_first i there = rw (add-one) (drop-cons rules i [] there)

    pub AreBegun-contained : (i : ℕ) (r : List ℕ) (a : List (List ℕ × ℕ)) → i < length rules → r ≡ slice_index_or rules i [] → list_any (λ entry. contains_run entry.0 r) a ≡ true → AreBegun i a → AreBegun (i + 1) a
    AreBegun-contained i r a there is_rule hit b = record {
      booked = b.booked;
      is = b.is;
      goes_on = λ more books.
          let first : drop i rules ≡ r ∷ drop (i + 1) rules = rule_first i there ∙ ap (λ s. s ∷ drop (i + 1) rules) (sym is_rule) in
          let stands : list_any (λ p. contains_run p r) b.booked ≡ true
          = sym (contains-with_unit r b.booked) ∙ (ap (list_any (λ (entry : List ℕ × ℕ). contains_run entry.0 r)) (sym b.is) ∙ hit) in
          b.goes_on more (subst (λ rs. Books g flow b.booked rs more) (sym first) (subst (GoesOn b.booked r (drop (i + 1) rules) more) (sym stands) books));
    }

    pub AreBegun-more : (i : ℕ) (r p : List ℕ) (a : List (List ℕ × ℕ)) → i < length rules → r ≡ slice_index_or rules i [] → list_any (λ entry. contains_run entry.0 r) a ≡ false → IsBookedPath g flow r p
        → AreBegun i a → AreBegun (i + 1) (a ++ (p, 1) ∷ [])
    AreBegun-more i r p a there is_rule miss path b = record {
      booked = b.booked ++ p ∷ [];
      is = ap (λ xs. xs ++ (p, 1) ∷ []) b.is ∙ sym (map-append (λ (q : List ℕ). let x : List ℕ × ℕ = (q, 1) in x) b.booked (p ∷ []));
      goes_on = λ more books.
          let first : drop i rules ≡ r ∷ drop (i + 1) rules = rule_first i there ∙ ap (λ s. s ∷ drop (i + 1) rules) (sym is_rule) in
          let free : list_any (λ p. contains_run p r) b.booked ≡ false
          = sym (contains-with_unit r b.booked) ∙ (ap (list_any (λ (entry : List ℕ × ℕ). contains_run entry.0 r)) (sym b.is) ∙ miss) in
          subst (IsBooked g flow rules) (sym (append_assoc b.booked (p ∷ []) more))
          (b.goes_on (p ∷ more) (subst (λ rs. Books g flow b.booked rs (p ∷ more)) (sym first) (subst (GoesOn b.booked r (drop (i + 1) rules) (p ∷ more)) (sym free) (p, more, refl, path, books))));
    }

    pub AreBegun-all : (i : ℕ) (a : List (List ℕ × ℕ)) → length rules ≤ i → AreBegun i a → AreBooked g flow rules a
    AreBegun-all i a past b =
        let none : drop i rules ≡ [] = drop_all i rules past in
        (b.booked, b.is, subst (IsBooked g flow rules) (append-nil b.booked) (b.goes_on [] (subst (λ rs. Books g flow b.booked rs []) (sym none) refl)))
