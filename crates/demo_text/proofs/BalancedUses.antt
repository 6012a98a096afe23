-- As much enters each vertex between the source and the sink as leaves it.
use Rattle.std.proofs.Common.{◌≡◌, ℕ, ◌+◌, ◌<◌, Bool, true, false, cond, ◌||◌, List, [], ◌∷◌, refl, sym, ap, ◌∙◌, ⊎_elim, arith}
use Rattle.std.specs.Prelude.{All, decimal, sum_by}
use Rattle.std.specs.List.{list_any, IsDistinct}
use Rattle.std.proofs.lemmas.Bool.{cases_Bool, true≢false, cond-true, cond-false, false_from_ne_true}
use Rattle.std.proofs.lemmas.List.Elements.{All-head, All-tail, All-from_recursion}
use Rattle.std.proofs.lemmas.List.Sums.{sum_by-cons}
use Rattle.std.proofs.lemmas.Map.Keys.{IsDistinct-head, IsDistinct-tail}
use Rattle.demo_text.specs.declared.path.DemoPath.{DemoPath}
use Rattle.demo_text.specs.Demo.{edges_along, same_names, weight_on}
use Rattle.demo_text.proofs.GatheredUses.{same_names-Decides}
use Rattle.demo_text.proofs.EdgesAlong.{rank}

-- sums over edges
sum-same : (f g : List ℕ × List ℕ → ℕ) → ((e : List ℕ × List ℕ) → f e ≡ g e) → (es : List (List ℕ × List ℕ)) → sum_by f es ≡ sum_by g es
sum-same f g same [] = refl
sum-same f g same (e ∷ es) = omega (arith, same e, sum-same f g same es, sum_by-cons f e es, sum_by-cons g e es)

sum-add : (f g : List ℕ × List ℕ → ℕ) (es : List (List ℕ × List ℕ)) → sum_by (λ e. f e + g e) es ≡ sum_by f es + sum_by g es
sum-add f g [] = refl
sum-add f g (e ∷ es) = omega (arith, sum-add f g es, sum_by-cons (λ d. f d + g d) e es, sum_by-cons f e es, sum_by-cons g e es)

-- none of the edges is this one
sum-none : (g : List ℕ × List ℕ → ℕ) (e : List ℕ × List ℕ) (es : List (List ℕ × List ℕ)) → All (λ y. same_names y e ≡ false) es
    → sum_by (λ y. cond (same_names y e) (g y) 0) es ≡ 0
sum-none g e [] none = refl
sum-none g e (x ∷ es) none =
    omega (
      arith,
      cond-false (same_names x e) (g x) 0 (All-head (λ y. same_names y e ≡ false) x es none),
      sum-none g e es (All-tail (λ y. same_names y e ≡ false) x es none),
      sum_by-cons (λ y. cond (same_names y e) (g y) 0) x es,
    )

-- just one of the edges is this one
sum-one : (g : List ℕ × List ℕ → ℕ) (e : List ℕ × List ℕ) (es : List (List ℕ × List ℕ)) → IsDistinct same_names es → list_any (same_names e) es ≡ true
    → sum_by (λ y. cond (same_names y e) (g y) 0) es ≡ g e
sum-one g e [] once there = absurd (true≢false (sym there))
sum-one g e (x ∷ es) once there =
    ⊎_elim
    (λ t.
    let is : x ≡ e = (same_names-Decides x e).0 t in
    let others = All-from_recursion (λ y. same_names x y ≡ false) es (IsDistinct-head same_names x es once) in
    let none : All (λ y. same_names y e ≡ false) es =
    λ k d within. false_from_ne_true _ (λ s. true≢false (sym ((same_names-Decides x _).1 (is ∙ sym ((same_names-Decides _ e).0 s))) ∙ others k d within)) in
    omega (arith, cond-true (same_names x e) (g x) 0 t, sum-none g e es none, ap g is, sum_by-cons (λ y. cond (same_names y e) (g y) 0) x es))
    (λ f.
    let differs : same_names e x ≡ false =
    false_from_ne_true (same_names e x) (λ s. true≢false (sym ((same_names-Decides x e).1 (sym ((same_names-Decides e x).0 s))) ∙ f)) in
    let later : list_any (same_names e) es ≡ true = ap (λ b. b || list_any (same_names e) es) (sym differs) ∙ there in
    omega (
      arith,
      cond-false (same_names x e) (g x) 0 f,
      sum-one g e es (IsDistinct-tail same_names x es once) later,
      sum_by-cons (λ y. cond (same_names y e) (g y) 0) x es,
    ))
    (cases_Bool (same_names x e))

-- at most one of three tests holds
split : (a b c h : Bool) (w : ℕ) → (a ≡ true → b ≡ true → ⊥) → (a ≡ true → c ≡ true → ⊥) → (b ≡ true → c ≡ true → ⊥)
    → cond h (cond (a || (b || (c || false))) w 0) 0 ≡ cond a (cond h w 0) 0 + (cond b (cond h w 0) 0 + cond c (cond h w 0) 0)
split true true c h w ab ac bc = absurd (ab refl refl)
split true false true h w ab ac bc = absurd (ac refl refl)
split true false false true w ab ac bc = omega arith
split true false false false w ab ac bc = omega arith
split false true true h w ab ac bc = absurd (bc refl refl)
split false true false true w ab ac bc = omega arith
split false true false false w ab ac bc = omega arith
split false false true true w ab ac bc = omega arith
split false false true false w ab ac bc = omega arith
split false false false true w ab ac bc = omega arith
split false false false false w ab ac bc = omega arith

-- an edge is not two edges that leave vertices of different ranks
apart : (e f g : List ℕ × List ℕ) → (rank f.0 ≡ rank g.0 → ⊥) → same_names e f ≡ true → same_names e g ≡ true → ⊥
apart e f g differ first second =
    let leaves : List ℕ × List ℕ → ℕ = λ x. rank x.0 in
    differ (ap leaves (sym ((same_names-Decides e f).0 first) ∙ (same_names-Decides e g).0 second))

differ : (m n : ℕ) → m < n → m ≡ n → ⊥
differ m n less e = omega arith

-- all three edges of a path are among these
abbrev pub AreThere : List (List ℕ × List ℕ) → DemoPath → Type 0
AreThere es p = All (λ e. list_any (same_names e) es ≡ true) (edges_along p)

module _ (es : List (List ℕ × List ℕ)) (once : IsDistinct same_names es) where
  -- what a path adds to the edges that pass a test
  path-sum : (test : List ℕ × List ℕ → Bool) (w : ℕ) (x y z : List ℕ × List ℕ)
      → (rank x.0 ≡ rank y.0 → ⊥) → (rank x.0 ≡ rank z.0 → ⊥) → (rank y.0 ≡ rank z.0 → ⊥)
      → All (λ e. list_any (same_names e) es ≡ true) (x ∷ y ∷ z ∷ [])
      → sum_by (λ e. cond (test e) (cond (list_any (same_names e) (x ∷ y ∷ z ∷ [])) w 0) 0) es ≡ cond (test x) w 0 + (cond (test y) w 0 + cond (test z) w 0)
  path-sum test w x y z xy xz yz each =
      let weight : List ℕ × List ℕ → ℕ = λ e. cond (test e) w 0 in
      let at : List ℕ × List ℕ → List ℕ × List ℕ → ℕ = λ f e. cond (same_names e f) (weight e) 0 in
      let P : List ℕ × List ℕ → Type 0 = λ e. list_any (same_names e) es ≡ true in
      let tail = All-tail P x (y ∷ z ∷ []) each in
      omega (
        arith,
        sum-same (λ e. cond (test e) (cond (list_any (same_names e) (x ∷ y ∷ z ∷ [])) w 0) 0) (λ e. at x e + (at y e + at z e))
            (λ e. split (same_names e x) (same_names e y) (same_names e z) (test e) w (apart e x y xy) (apart e x z xz) (apart e y z yz)) es,
        sum-add (at x) (λ e. at y e + at z e) es,
        sum-add (at y) (at z) es,
        sum-one weight x es once (All-head P x (y ∷ z ∷ []) each),
        sum-one weight y es once (All-head P y (z ∷ []) tail),
        sum-one weight z es once (All-head P z [] (All-tail P y (z ∷ []) tail)),
      )

  cond-split : (b : Bool) (x y : ℕ) → cond b (x + y) 0 ≡ cond b x 0 + cond b y 0
  cond-split true x y = refl
  cond-split false x y = refl

  nothing : (test : List ℕ × List ℕ → Bool) (fs : List (List ℕ × List ℕ)) → sum_by (λ e. cond (test e) 0 0) fs ≡ 0
  nothing test [] = refl
  nothing test (e ∷ fs) = omega (arith, none (test e), nothing test fs, sum_by-cons (λ e. cond (test e) 0 0) e fs) where
    none : (b : Bool) → ◌≡◌ {A = ℕ} (cond b 0 0) 0
    none true = refl
    none false = refl

  -- one more path
  more : (test : List ℕ × List ℕ → Bool) (p : DemoPath) (paths : List DemoPath)
      → sum_by (λ e. cond (test e) (weight_on (p ∷ paths) e) 0) es
      ≡ sum_by (λ e. cond (test e) (cond (list_any (same_names e) (edges_along p)) p.weight 0) 0) es + sum_by (λ e. cond (test e) (weight_on paths e) 0) es
  more test p paths =
      sum-same (λ e. cond (test e) (weight_on (p ∷ paths) e) 0)
      (λ e. cond (test e) (cond (list_any (same_names e) (edges_along p)) p.weight 0) 0 + cond (test e) (weight_on paths e) 0)
      (λ e. ap (λ n. cond (test e) n 0) (sum_by-cons (λ (q : DemoPath). cond (list_any (same_names e) (edges_along q)) q.weight 0) p paths)
      ∙ cond-split (test e) (cond (list_any (same_names e) (edges_along p)) p.weight 0) (weight_on paths e)) es
      ∙ sum-add (λ e. cond (test e) (cond (list_any (same_names e) (edges_along p)) p.weight 0) 0) (λ e. cond (test e) (weight_on paths e) 0) es

  pub balanced : (test : List ℕ → Bool) → test (115 ∷ []) ≡ false → test (116 ∷ []) ≡ false → (paths : List DemoPath) → All (AreThere es) paths
      → sum_by (λ e. cond (test e.1) (weight_on paths e) 0) es ≡ sum_by (λ e. cond (test e.0) (weight_on paths e) 0) es
  balanced test source sink [] each = nothing (λ e. test e.1) es ∙ sym (nothing (λ e. test e.0) es)
  balanced test source sink (p ∷ paths) each =
      let s : List ℕ = 115 ∷ [] in
      let a : List ℕ = 97 ∷ decimal p.first in
      let b : List ℕ = 98 ∷ decimal p.second in
      let t : List ℕ = 116 ∷ [] in
      let sa = differ 0 97 (omega arith) in
      let sb = differ 0 98 (omega arith) in
      let ab = differ 97 98 (omega arith) in
      let w = p.weight in
      let here = All-head (AreThere es) p paths each in
      let entering = path-sum (λ e. test e.1) w (s, a) (a, b) (b, t) sa sb ab here in
      let leaving = path-sum (λ e. test e.0) w (s, a) (a, b) (b, t) sa sb ab here in
      omega (
        arith,
        more (λ e. test e.1) p paths,
        more (λ e. test e.0) p paths,
        entering,
        leaving,
        cond-false (test s) w 0 source,
        cond-false (test t) w 0 sink,
        balanced test source sink paths (All-tail (AreThere es) p paths each),
      )
