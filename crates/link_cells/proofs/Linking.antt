-- The latest link of a slot or an edge, after a link more and after a link less.
use Rattle.std.proofs.Common.{◌⊎◌, true≢false, ◌≡◌, ◌≢◌, ℕ, zero, suc, ◌+◌, ◌<◌, ◌≤◌, Bool, true, false, ◌==◌, List, [], ◌∷◌, ◌++◌, map, length, get_or, slice_index, set, take, Option, None, Some, refl, sym, ap, ap₂, ◌∙◌, subst, arith, inl, inr, eq-eqb, ne_eqb, eqb-true, length-append, length-set}
use Rattle.std.specs.Prelude.{MatchOption, filter, All}
use Rattle.std.proofs.lemmas.Bool.{cases_Bool, cases_lt}
use Rattle.std.proofs.lemmas.List.{get_or_append_left, get_or_push, get_or-set_same, get_or-set_other, get_or_read, get_or-map, length-map, map-append, take_more, take_all, append-nil}
use Rattle.std.proofs.lemmas.List.Elements.{filter-append}
use Rattle.link_cells.specs.declared.incidence.Link.{Link}
use Rattle.link_cells.specs.Cells.{IsLive}
use Rattle.link_cells.specs.Links.{slot_in, edge_in, latest, latest_of, latest_on, walk_of, walk_to, links_in, IsLinked}

abbrev pub latest_by : (ℕ × ℕ → ℕ) → List (ℕ × ℕ) → ℕ → ℕ → Option ℕ
latest_by f links k n = latest (λ p. f (get_or links p (0, 0)) == k) n

pub latest-agree : (t u : ℕ → Bool) (n : ℕ) → ((p : ℕ) → p < n → t p ≡ u p) → latest t n ≡ latest u n
latest-agree t u zero same = refl
latest-agree t u (suc n) same = rw (same n (omega arith), latest-agree t u n (λ p l. same p (omega (arith, l)))) refl

pub latest_inside : (t : ℕ → Bool) (n p : ℕ) → latest t n ≡ Some p → p < n
latest_inside t zero p is = absurd (let no' : ⊥ = cc in no')
latest_inside t (suc n) p is =
    elim (cases_Bool (t n)) [
      | inl passes ↦ let now : Some n ≡ Some p = rw passes at is in let same : n ≡ p = cc in omega (arith, same)
      | inr fails ↦ let now : latest t n ≡ Some p = rw fails at is in omega (arith, latest_inside t n p now)
    ]

-- the latest that passes does pass, and none that passes is later
pub latest_passes : (t : ℕ → Bool) (n p : ℕ) → latest t n ≡ Some p → t p ≡ true
latest_passes t zero p is = absurd (let no' : ⊥ = cc in no')
latest_passes t (suc n) p is =
    elim (cases_Bool (t n)) [
      | inl passes ↦ let now : Some n ≡ Some p = rw passes at is in let same : n ≡ p = cc in subst (λ q. t q ≡ true) same passes
      | inr fails ↦ let now : latest t n ≡ Some p = rw fails at is in latest_passes t n p now
    ]

pub latest_after : (t : ℕ → Bool) (n q : ℕ) → q < n → t q ≡ true → (p : ℕ) × (latest t n ≡ Some p) × (q ≤ p)
latest_after t zero q inside passes = absurd (omega arith)
latest_after t (suc n) q inside passes =
    elim (cases_Bool (t n)) [
      | inl last ↦ (n, rw last refl, omega arith)
      | inr fails ↦
          let other : q ≢ n = λ same. true≢false (sym passes ∙ ap t same ∙ fails) in
          let found = latest_after t n q (omega (arith, inside, other)) passes in
          (found.0, rw fails found.1, found.2)
    ]

pub by-append : (f : ℕ × ℕ → ℕ) (links more : List (ℕ × ℕ)) (k n : ℕ) → n ≤ length links → latest_by f (links ++ more) k n ≡ latest_by f links k n
by-append f links more k n few = latest-agree _ _ n (λ p l. ap (λ (x : ℕ × ℕ). f x == k) (get_or_append_left links more (0, 0) p (omega (arith, l, few))))

pub by-push_same : (f : ℕ × ℕ → ℕ) (links : List (ℕ × ℕ)) (x : ℕ × ℕ) (k : ℕ) → f x ≡ k → latest_by f (links ++ x ∷ []) k (suc (length links)) ≡ Some (length links)
by-push_same f links x k same =
    let read : get_or (links ++ x ∷ []) (length links) (0, 0) ≡ x = get_or_push links x (0, 0) (length links) refl in
    let passes : (f (get_or (links ++ x ∷ []) (length links) (0, 0)) == k) ≡ true = eq-eqb _ _ (ap f read ∙ same) in
    rw passes refl

pub by-push_other : (f : ℕ × ℕ → ℕ) (links : List (ℕ × ℕ)) (x : ℕ × ℕ) (k : ℕ) → f x ≢ k → latest_by f (links ++ x ∷ []) k (suc (length links)) ≡ latest_by f links k (length links)
by-push_other f links x k other =
    let read : get_or (links ++ x ∷ []) (length links) (0, 0) ≡ x = get_or_push links x (0, 0) (length links) refl in
    let fails : (f (get_or (links ++ x ∷ []) (length links) (0, 0)) == k) ≡ false = ne_eqb _ _ (λ same. other (sym (ap f read) ∙ same)) in
    rw fails (by-append f links (x ∷ []) k (length links) (omega arith))

-- the ends of lists are the latest links
abbrev pub AreEnds : (ℕ × ℕ → ℕ) → List (ℕ × ℕ) → List (Option ℕ) → Type 0
AreEnds f links ends = (k : ℕ) → k < length ends → get_or ends k None ≡ latest_by f links k (length links)

same_or_other : (a b : ℕ) → (a ≡ b) ⊎ (a ≢ b)
same_or_other a b = elim (cases_Bool (a == b)) [ inl equal ↦ inl (eqb-true a b equal) | inr other ↦ inr (λ same. true≢false (sym (eq-eqb a b same) ∙ other)) ]

pub ends-push : (f : ℕ × ℕ → ℕ) (links : List (ℕ × ℕ)) (x : ℕ × ℕ) (ends : List (Option ℕ)) → AreEnds f links ends → AreEnds f (links ++ x ∷ []) (set ends (f x) (Some (length links)))
ends-push f links x ends are k inside =
    let within : k < length ends = omega (arith, inside, length-set ends (f x) (Some (length links))) in
    let long : suc (length links) ≡ length (links ++ x ∷ []) = omega (arith, length-append links (x ∷ [])) in
    subst (λ n. get_or (set ends (f x) (Some (length links))) k None ≡ latest_by f (links ++ x ∷ []) k n) long
    (elim (same_or_other (f x) k) [
      | inl same ↦ subst (λ j. get_or (set ends (f x) (Some (length links))) j None ≡ Some (length links)) same (get_or-set_same ends (f x) (Some (length links)) None (omega (arith, within, same))) ∙ sym (by-push_same f links x k same)
      | inr other ↦ get_or-set_other ends (f x) k (Some (length links)) None (λ e. other (sym e)) ∙ are k within ∙ sym (by-push_other f links x k other)
    ])

pub ends-pop : (f : ℕ × ℕ → ℕ) (links : List (ℕ × ℕ)) (x : ℕ × ℕ) (ends : List (Option ℕ)) (before : Option ℕ) → AreEnds f (links ++ x ∷ []) ends → before ≡ latest_by f (links ++ x ∷ []) (f x) (length links)
    → AreEnds f links (set ends (f x) before)
ends-pop f links x ends before are is k inside =
    let within : k < length ends = omega (arith, inside, length-set ends (f x) before) in
    let long : length (links ++ x ∷ []) ≡ suc (length links) = omega (arith, length-append links (x ∷ [])) in
    elim (same_or_other (f x) k) [
      | inl same ↦ subst (λ j. get_or (set ends (f x) before) j None ≡ before) same (get_or-set_same ends (f x) before None (omega (arith, within, same)))
          ∙ is ∙ by-append f links (x ∷ []) (f x) (length links) (omega arith) ∙ ap (λ j. latest_by f links j (length links)) same
      | inr other ↦ get_or-set_other ends (f x) k before None (λ e. other (sym e)) ∙ are k within ∙ ap (latest_by f (links ++ x ∷ []) k) long ∙ by-push_other f links x k other
    ]

-- ---- entries

pub links_in-push : (cells : List Link) (x : Link) → links_in (cells ++ x ∷ []) ≡ links_in cells ++ (x.slot, x.edge) ∷ []
links_in-push cells x = map-append (λ (c : Link). (c.slot, c.edge)) cells (x ∷ [])

pub links_in-length : (cells : List Link) → length (links_in cells) ≡ length cells
links_in-length cells = length-map cells (λ (c : Link). (c.slot, c.edge))

-- each entry names those before it
abbrev pub AreLinked : List Link → Type 0
AreLinked cells = (p : ℕ) (d : Link) → p < length cells → IsLinked (links_in cells) p (get_or cells p d)

pub linked-push : (cells : List Link) (x : Link) → AreLinked cells → IsLinked (links_in cells) (length cells) x → AreLinked (cells ++ x ∷ [])
linked-push cells x are here p d inside =
    elim (cases_lt p (length cells)) [
      | inl less ↦
          let old : IsLinked (links_in cells) p (get_or cells p d) = are p d less in
          let few : p ≤ length (links_in cells) = omega (arith, less, links_in-length cells) in
          subst (λ (c : Link). IsLinked (links_in (cells ++ x ∷ [])) p c) (sym (get_or_append_left cells (x ∷ []) d p less)) (more p (get_or cells p d) few old)
      | inr last ↦
          let same : p ≡ length cells = omega (arith, last, inside, length-append cells (x ∷ [])) in
          let few : p ≤ length (links_in cells) = omega (arith, same, links_in-length cells) in
          subst (λ (c : Link). IsLinked (links_in (cells ++ x ∷ [])) p c) (sym (get_or_push cells x d p (sym same))) (more p x few (subst (λ n. IsLinked (links_in cells) n x) (sym same) here))
    ]
  where
    more : (q : ℕ) (c : Link) → q ≤ length (links_in cells) → IsLinked (links_in cells) q c → IsLinked (links_in (cells ++ x ∷ [])) q c
    more q c few old = record {
      before = old.before ∙ sym (by-append (λ (l : ℕ × ℕ). l.0) (links_in cells) ((x.slot, x.edge) ∷ []) c.slot q few) ∙ ap (λ l. latest_of l c.slot q) (sym (links_in-push cells x));
      next = old.next ∙ sym (by-append (λ (l : ℕ × ℕ). l.1) (links_in cells) ((x.slot, x.edge) ∷ []) c.edge q few) ∙ ap (λ l. latest_on l c.edge q) (sym (links_in-push cells x));
    }

pub linked-pop : (cells : List Link) (x : Link) → AreLinked (cells ++ x ∷ []) → AreLinked cells
linked-pop cells x are p d inside =
    let old : IsLinked (links_in (cells ++ x ∷ [])) p (get_or (cells ++ x ∷ []) p d) = are p d (omega (arith, inside, length-append cells (x ∷ []))) in
    let now : IsLinked (links_in (cells ++ x ∷ [])) p (get_or cells p d) = subst (λ (c : Link). IsLinked (links_in (cells ++ x ∷ [])) p c) (get_or_append_left cells (x ∷ []) d p inside) old in
    let few : p ≤ length (links_in cells) = omega (arith, inside, links_in-length cells) in
    record {
      before = now.before ∙ ap (λ l. latest_of l (get_or cells p d).slot p) (links_in-push cells x) ∙ by-append (λ (l : ℕ × ℕ). l.0) (links_in cells) ((x.slot, x.edge) ∷ []) (get_or cells p d).slot p few;
      next = now.next ∙ ap (λ l. latest_on l (get_or cells p d).edge p) (links_in-push cells x) ∙ by-append (λ (l : ℕ × ℕ). l.1) (links_in cells) ((x.slot, x.edge) ∷ []) (get_or cells p d).edge p few;
    }

-- ---- walks

pub walk_of-push_same : (links : List (ℕ × ℕ)) (x : ℕ × ℕ) (k : ℕ) → x.0 ≡ k → walk_of (links ++ x ∷ []) k ≡ walk_of links k ++ x.1 ∷ []
walk_of-push_same links x k same =
    ap (map (λ (l : ℕ × ℕ). l.1)) (filter-append (λ (l : ℕ × ℕ). l.0 == k) links (x ∷ []))
    ∙ map-append (λ (l : ℕ × ℕ). l.1) (filter (λ (l : ℕ × ℕ). l.0 == k) links) (filter (λ (l : ℕ × ℕ). l.0 == k) (x ∷ []))
    ∙ ap (λ l. walk_of links k ++ l) (one (eq-eqb x.0 k same))
  where
    one : (x.0 == k) ≡ true → walk_of (x ∷ []) k ≡ x.1 ∷ []
    one passes = rw passes refl

pub walk_of-push_other : (links : List (ℕ × ℕ)) (x : ℕ × ℕ) (k : ℕ) → x.0 ≢ k → walk_of (links ++ x ∷ []) k ≡ walk_of links k
walk_of-push_other links x k other =
    ap (map (λ (l : ℕ × ℕ). l.1)) (filter-append (λ (l : ℕ × ℕ). l.0 == k) links (x ∷ []))
    ∙ map-append (λ (l : ℕ × ℕ). l.1) (filter (λ (l : ℕ × ℕ). l.0 == k) links) (filter (λ (l : ℕ × ℕ). l.0 == k) (x ∷ []))
    ∙ ap (λ l. walk_of links k ++ l) (one (ne_eqb x.0 k other)) ∙ append-nil (walk_of links k)
  where
    one : (x.0 == k) ≡ false → walk_of (x ∷ []) k ≡ []
    one fails = rw fails refl

walk_of-first_same : (x : ℕ × ℕ) (links : List (ℕ × ℕ)) (k : ℕ) → (x.0 == k) ≡ true → walk_of (x ∷ links) k ≡ x.1 ∷ walk_of links k
walk_of-first_same x links k same = rw same refl

walk_of-first_other : (x : ℕ × ℕ) (links : List (ℕ × ℕ)) (k : ℕ) → (x.0 == k) ≡ false → walk_of (x ∷ links) k ≡ walk_of links k
walk_of-first_other x links k other = rw other refl

-- each edge of the walk of a slot is linked to the slot
pub link_at : (links : List (ℕ × ℕ)) (k j : ℕ) → j < length (walk_of links k) → (p : ℕ) × (p < length links) × (slot_in links p ≡ k) × (edge_in links p ≡ slice_index (walk_of links k) j)
link_at [] k j inside = absurd (omega arith)
link_at (x ∷ links) k zero inside =
    elim (cases_Bool (x.0 == k)) [
      | inl same ↦ (0, omega arith, eqb-true x.0 k same, sym (ap (λ w. slice_index w 0) (walk_of-first_same x links k same)))
      | inr other ↦
          let is = walk_of-first_other x links k other in
          let next = link_at links k zero (omega (arith, inside, ap length is)) in
          (suc next.0, omega (arith, next.1), next.2, next.3 ∙ sym (ap (λ w. slice_index w 0) is))
    ]
link_at (x ∷ links) k (suc j) inside =
    elim (cases_Bool (x.0 == k)) [
      | inl same ↦
          let is = walk_of-first_same x links k same in
          let next = link_at links k j (omega (arith, inside, ap length is)) in
          (suc next.0, omega (arith, next.1), next.2, next.3 ∙ sym (ap (λ w. slice_index w (suc j)) is))
      | inr other ↦
          let is = walk_of-first_other x links k other in
          let next = link_at links k (suc j) (omega (arith, inside, ap length is)) in
          (suc next.0, omega (arith, next.1), next.2, next.3 ∙ sym (ap (λ w. slice_index w (suc j)) is))
    ]

-- where the walk of the first n links ends
abbrev pub EndsAt : List (ℕ × ℕ) → ℕ → ℕ → Option ℕ → Type 0
EndsAt links k n found = MatchOption found (walk_of (take n links) k ≡ []) (λ p. (p < n) × (walk_of (take n links) k ≡ walk_of (take p links) k ++ edge_in links p ∷ []))

pub ends_at : (links : List (ℕ × ℕ)) (k n : ℕ) → n ≤ length links → EndsAt links k n (latest_of links k n)
ends_at links k zero few = refl
ends_at links k (suc n) few =
    elim (same_or_other (slot_in links n) k) [
      | inl same ↦ subst (EndsAt links k (suc n)) (sym (hit (eq-eqb _ k same))) (omega arith, ap (λ l. walk_of l k) more ∙ walk_of-push_same (take n links) (get_or links n (0, 0)) k same)
      | inr other ↦ subst (EndsAt links k (suc n)) (sym (miss (ne_eqb _ k other))) (wider (latest_of links k n) (ap (λ l. walk_of l k) more ∙ walk_of-push_other (take n links) (get_or links n (0, 0)) k other) (ends_at links k n (omega (arith, few))))
    ]
  where
    more : take (suc n) links ≡ take n links ++ get_or links n (0, 0) ∷ []
    more = let next : n + 1 ≡ suc n = omega arith in subst (λ j. take j links ≡ take n links ++ get_or links n (0, 0) ∷ []) next (take_more links n (0, 0) (omega (arith, few)))

    hit : (slot_in links n == k) ≡ true → latest_of links k (suc n) ≡ Some n
    hit passes = rw passes refl

    miss : (slot_in links n == k) ≡ false → latest_of links k (suc n) ≡ latest_of links k n
    miss fails = rw fails refl

    wider : (r : Option ℕ) → walk_of (take (suc n) links) k ≡ walk_of (take n links) k → EndsAt links k n r → EndsAt links k (suc n) r
    wider None is says = is ∙ says
    wider (Some p) is says = (omega (arith, says.0), is ∙ says.1)

pub ends_all : (links : List (ℕ × ℕ)) (k : ℕ) (found : Option ℕ) → found ≡ latest_of links k (length links)
    → MatchOption found (walk_of links k ≡ []) (λ p. (p < length links) × (walk_of links k ≡ walk_of (take p links) k ++ edge_in links p ∷ []))
ends_all links k found is =
    subst (λ r. MatchOption r (walk_of links k ≡ []) (λ p. (p < length links) × (walk_of links k ≡ walk_of (take p links) k ++ edge_in links p ∷ []))) (sym is)
    (subst (λ l. MatchOption (latest_of links k (length links)) (walk_of l k ≡ []) (λ p. (p < length links) × (walk_of l k ≡ walk_of (take p links) k ++ edge_in links p ∷ []))) (take_all (length links) links (omega arith)) (ends_at links k (length links) (omega arith)))

-- the list up to the latest of the first n links is that of them all
pub to_latest : (links : List (ℕ × ℕ)) (k n : ℕ) → n ≤ length links → walk_to links (latest_of links k n) ≡ walk_of (take n links) k
to_latest links k zero few = refl
to_latest links k (suc n) few =
    elim (same_or_other (slot_in links n) k) [
      | inl same ↦ ap (walk_to links) (hit (eq-eqb _ k same)) ∙ (let next : n + 1 ≡ suc n = omega arith in ap₂ (λ j s. walk_of (take j links) s) next same)
      | inr other ↦ ap (walk_to links) (miss (ne_eqb _ k other)) ∙ to_latest links k n (omega (arith, few)) ∙ sym (ap (λ l. walk_of l k) more ∙ walk_of-push_other (take n links) (get_or links n (0, 0)) k other)
    ]
  where
    more : take (suc n) links ≡ take n links ++ get_or links n (0, 0) ∷ []
    more = let next : n + 1 ≡ suc n = omega arith in subst (λ j. take j links ≡ take n links ++ get_or links n (0, 0) ∷ []) next (take_more links n (0, 0) (omega (arith, few)))

    hit : (slot_in links n == k) ≡ true → latest_of links k (suc n) ≡ Some n
    hit passes = rw passes refl

    miss : (slot_in links n == k) ≡ false → latest_of links k (suc n) ≡ latest_of links k n
    miss fails = rw fails refl

pub to_last : (links : List (ℕ × ℕ)) (k : ℕ) (found : Option ℕ) → found ≡ latest_of links k (length links) → walk_to links found ≡ walk_of links k
to_last links k found is = ap (walk_to links) is ∙ to_latest links k (length links) (omega arith) ∙ ap (λ l. walk_of l k) (take_all (length links) links (omega arith))

-- the list up to a link is that up to the one before it, and then its edge
pub to_before : (links : List (ℕ × ℕ)) (p : ℕ) (found : Option ℕ) → p < length links → found ≡ latest_of links (slot_in links p) p → walk_to links (Some p) ≡ walk_to links found ++ edge_in links p ∷ []
to_before links p found inside is =
    ap (λ l. walk_of l (slot_in links p)) (take_more links p (0, 0) inside) ∙ walk_of-push_same (take p links) (get_or links p (0, 0)) (slot_in links p) refl
    ∙ ap (λ w. w ++ edge_in links p ∷ []) (sym (to_latest links (slot_in links p) p (omega (arith, inside))) ∙ ap (walk_to links) (sym is))

-- the latest of the first n links is one of them
pub latest_live : (links : List (ℕ × ℕ)) (k n : ℕ) (found : Option ℕ) → found ≡ latest_of links k n → IsLive n found
latest_live links k n None is = tt
latest_live links k n (Some p) is = latest_inside (λ q. slot_in links q == k) n p (sym is)

-- what holds of all entries holds of all but the last
pub all-pop : (P : Link → Type 0) (cells : List Link) (x : Link) → All P (cells ++ x ∷ []) → All P cells
all-pop P cells x all k d inside = subst P (get_or_append_left cells (x ∷ []) d k inside) (all k d (omega (arith, inside, length-append cells (x ∷ []))))

-- entries with one more, which names those before it
pub linked-more : (old new : List Link) (x : Link) → new ≡ old ++ x ∷ [] → AreLinked old → IsLinked (links_in old) (length old) x → AreLinked new
linked-more old new x is are here = subst AreLinked (sym is) (linked-push old x are here)

pub linked-less : (old new : List Link) (x : Link) → old ≡ new ++ x ∷ [] → AreLinked old → AreLinked new
linked-less old new x is are = linked-pop new x (subst AreLinked is are)

-- the ends of entries
abbrev pub AreEndsOf : (ℕ × ℕ → ℕ) → List Link → List (Option ℕ) → Type 0
AreEndsOf f cells ends = (k : ℕ) → k < length ends → get_or ends k None ≡ latest_by f (links_in cells) k (length cells)

to_links : (f : ℕ × ℕ → ℕ) (cells : List Link) (ends : List (Option ℕ)) → AreEndsOf f cells ends → AreEnds f (links_in cells) ends
to_links f cells ends are k inside = are k inside ∙ ap (latest_by f (links_in cells) k) (sym (links_in-length cells))

from_links : (f : ℕ × ℕ → ℕ) (cells : List Link) (ends : List (Option ℕ)) → AreEnds f (links_in cells) ends → AreEndsOf f cells ends
from_links f cells ends are k inside = are k inside ∙ ap (latest_by f (links_in cells) k) (links_in-length cells)

pub ends-more : (f : ℕ × ℕ → ℕ) (old new : List Link) (x : Link) (ends : List (Option ℕ)) (place : ℕ) → new ≡ old ++ x ∷ [] → place ≡ length old → AreEndsOf f old ends
    → AreEndsOf f new (set ends (f (x.slot, x.edge)) (Some place))
ends-more f old new x ends place is last are =
    let links : links_in old ++ (x.slot, x.edge) ∷ [] ≡ links_in new = sym (links_in-push old x) ∙ ap links_in (sym is) in
    let same : length (links_in old) ≡ place = links_in-length old ∙ sym last in
    from_links f new _
    (subst (λ n. AreEnds f (links_in new) (set ends (f (x.slot, x.edge)) (Some n))) same
    (subst (λ l. AreEnds f l (set ends (f (x.slot, x.edge)) (Some (length (links_in old))))) links (ends-push f (links_in old) (x.slot, x.edge) ends (to_links f old ends are))))

pub ends-less : (f : ℕ × ℕ → ℕ) (old new : List Link) (x : Link) (ends : List (Option ℕ)) (before : Option ℕ) → old ≡ new ++ x ∷ [] → AreEndsOf f old ends
    → before ≡ latest_by f (links_in old) (f (x.slot, x.edge)) (length new) → AreEndsOf f new (set ends (f (x.slot, x.edge)) before)
ends-less f old new x ends before is are named =
    let links : links_in old ≡ links_in new ++ (x.slot, x.edge) ∷ [] = ap links_in is ∙ links_in-push new x in
    from_links f new _
    (ends-pop f (links_in new) (x.slot, x.edge) ends before (subst (λ l. AreEnds f l ends) links (to_links f old ends are))
    (named ∙ ap (λ l. latest_by f l (f (x.slot, x.edge)) (length new)) links ∙ ap (latest_by f (links_in new ++ (x.slot, x.edge) ∷ []) (f (x.slot, x.edge))) (sym (links_in-length new))))

-- the last entry names those before it
pub last-linked : (old new : List Link) (x : Link) → old ≡ new ++ x ∷ [] → AreLinked old → IsLinked (links_in old) (length new) x
last-linked old new x is are =
    subst (λ (c : Link). IsLinked (links_in old) (length new) c) (ap (λ l. get_or l (length new) x) is ∙ get_or_push new x x (length new) refl)
    (are (length new) x (omega (arith, ap length is, length-append new (x ∷ []))))

-- where the walk of a slot ends, by the place that is kept
pub end_none : (cells : List Link) (last : List (Option ℕ)) (k : ℕ) (found : Option ℕ) → AreEndsOf (λ (l : ℕ × ℕ). l.0) cells last → k < length last → found ≡ get_or last k found → found ≡ None → walk_of (links_in cells) k ≡ []
end_none cells last k found are inside read none =
    let is : None ≡ latest_of (links_in cells) k (length (links_in cells)) = sym none ∙ get_or_read last k found inside read None ∙ to_links (λ (l : ℕ × ℕ). l.0) cells last are k inside in
    ends_all (links_in cells) k None is

pub end_some : (cells : List Link) (last : List (Option ℕ)) (k p : ℕ) (found : Option ℕ) → AreEndsOf (λ (l : ℕ × ℕ). l.0) cells last → k < length last → found ≡ get_or last k found → found ≡ Some p
    → (p < length cells) × (walk_of (links_in cells) k ≡ walk_of (take p (links_in cells)) k ++ edge_in (links_in cells) p ∷ [])
end_some cells last k p found are inside read some =
    let is : Some p ≡ latest_of (links_in cells) k (length (links_in cells)) = sym some ∙ get_or_read last k found inside read None ∙ to_links (λ (l : ℕ × ℕ). l.0) cells last are k inside in
    let ends = ends_all (links_in cells) k (Some p) is in
    (omega (arith, ends.0, links_in-length cells), ends.1)

-- the edge of a link is that of its entry
pub edge_read : (cells : List Link) (p : ℕ) (x : Link) → p < length cells → x ≡ get_or cells p x → edge_in (links_in cells) p ≡ x.edge
edge_read cells p x inside read = ap (λ (l : ℕ × ℕ). l.1) (get_or-map (λ (c : Link). (c.slot, c.edge)) cells p x (0, 0) inside) ∙ ap (λ (c : Link). c.edge) (sym read)
