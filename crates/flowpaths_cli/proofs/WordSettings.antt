-- Settings that words give are built: what is not refused of the words' values is in its range.
use Rattle.std.proofs.Common.{◌≡◌, ◌≤◌, ℕ, Bool, true, false, not, ◌&&◌, ◌||◌, cond, Option, None, Some, lit≤, sym, subst, refl, true≢false}
use Rattle.std.specs.Prelude.{IsTrue, IfSome, is_some, nat_le, length, unwrap_or, option_and_then, codes}
use Rattle.std.proofs.lemmas.Bool.{cond_both, leb-true, le-leb}
use Rattle.std.proofs.lemmas.Slice.Eq.{bytes_eq-Decides}
use Rattle.std.specs.Str.{bytes_eq}
use Rattle.clap.specs.Words.{Text}
use Rattle.decomposition.specs.declared.Mode.{Mode}
use Rattle.decomposition.specs.declared.Mode.TheVariants.{Exact, Interval, Abs}
use Rattle.graph_text.specs.Reading.{are_digits, number_of}
use Rattle.report_terms.specs.NetFacts.{is_mode}
use Rattle.flowpaths_cli.specs.Numbers.{number_in, most_nodes, most_paths, most_seed}
use Rattle.flowpaths_cli.specs.Right.{AreBuilt}
use Rattle.flowpaths_cli.specs.Values.{Values, asks_model, has_bad_model, has_bad_paths, has_bad_nodes, has_bad_seed, has_stray_paths, lacks_paths, has_stray_safe, has_stray_seed, is_refused, mode_by, settings_by, default_nodes}
use Rattle.flowpaths_cli.specs.declared.settings.Settings.{Settings}

-- a number in a range
abbrev IsWithin : ℕ → ℕ → ℕ → Type 0
IsWithin least most n = (least ≤ n) × (n ≤ most)

tested : (a b c d : Bool) (least most n other : ℕ) → (c ≡ true → least ≤ n) → (d ≡ true → n ≤ most) → IsWithin least most other
    → IsWithin least most (unwrap_or (cond (a && (b && (c && d))) (Some n) None) other)
tested false b c d least most n other low high default = default
tested true false c d least most n other low high default = default
tested true true false d least most n other low high default = default
tested true true true false least most n other low high default = default
tested true true true true least most n other low high default = (low refl, high refl)

-- the number that a text spells in a range, or the default
number-within : (least most other : ℕ) (text : Option Text) → IsWithin least most other → IsWithin least most (unwrap_or (option_and_then (number_in least most) text) other)
number-within least most other None default = default
number-within least most other (Some t) default = tested _ _ _ _ least most (number_of t) other (leb-true _ _) (leb-true _ _) default

-- the number of paths of a model is in its range
mode-within : (v : Values) → IsTrue (is_mode (mode_by v))
mode-within v =
    cond_both (asks_model (codes "abs") v) _ _ (λ mode. IsTrue (is_mode mode))
    (λ _. le-leb _ most_paths (number-within 0 most_paths 0 v.paths (lit≤ tt, lit≤ tt)).1)
    (λ _. cond_both (asks_model (codes "interval") v) Interval Exact (λ mode. IsTrue (is_mode mode)) (λ _. refl) (λ _. refl))

-- where a choice of tests fails, so is each of the two
neither : (a b : Bool) → (a || b) ≡ false → (a ≡ false) × (b ≡ false)
neither true b fails = absurd (true≢false fails)
neither false b fails = (refl, fails)

-- where a test is not denied, it holds
granted : (a : Bool) → not a ≡ false → a ≡ true
granted true fails = refl
granted false fails = absurd (true≢false fails)

-- a test that is denied together with another one that holds
together : (a b : Bool) → (a && not b) ≡ false → a ≡ true → b ≡ true
together true b fails holds = granted b fails
together false b fails holds = absurd (true≢false (sym holds))

exact_named : (model : Text) (k : ℕ) → model ≡ codes "exact" → ◌≡◌ {A = Mode} (cond (bytes_eq model (codes "abs")) (Abs k) (cond (bytes_eq model (codes "interval")) Interval Exact)) Exact
exact_named model k is = rw is refl

-- where the model exact is asked for, it is the model
exact-mode : (v : Values) → asks_model (codes "exact") v ≡ true → mode_by v ≡ Exact
exact-mode v asks = exact_named (unwrap_or v.model (codes "exact")) _ ((bytes_eq-Decides _ _).0 asks)

-- a seed that a text gives is in its range, and stands with the model exact
seed-allowed : (text : Option Text) (mode : Mode) → (is_some text ≡ true → mode ≡ Exact)
    → IfSome (option_and_then (number_in 0 most_seed) text) (λ seed. (mode ≡ Exact) × (seed ≤ most_seed))
seed-allowed None mode exact = tt
seed-allowed (Some text) mode exact =
    spelled (are_digits text) (nat_le (length text) 10) (nat_le 0 (number_of text)) (nat_le (number_of text) most_seed) (leb-true (number_of text) most_seed)
  where
    spelled : (a b c d : Bool) → (d ≡ true → number_of text ≤ most_seed)
        → IfSome (cond (a && (b && (c && d))) (Some (number_of text)) None) (λ seed. (mode ≡ Exact) × (seed ≤ most_seed))
    spelled false b c d low = tt
    spelled true false c d low = tt
    spelled true true false d low = tt
    spelled true true true false low = tt
    spelled true true true true low = (exact refl, low refl)

-- what is denied together with one of two tests denies the first of them
first-granted : (a b c : Bool) → (a && (not b || c)) ≡ false → a ≡ true → b ≡ true
first-granted true true c fails holds = refl
first-granted true false c fails holds = absurd (true≢false fails)
first-granted false b c fails holds = absurd (true≢false (sym holds))

-- the tests of safe runs and of a seed, among those that are false
last_tests : (v : Values) → is_refused v ≡ false → (has_stray_safe v ≡ false) × (has_stray_seed v ≡ false)
last_tests v fails =
    let model = neither (has_bad_model v) _ fails in
    let paths = neither (has_bad_paths v) _ model.1 in
    let nodes = neither (has_bad_nodes v) _ paths.1 in
    let seed = neither (has_bad_seed v) _ nodes.1 in
    let stray_paths = neither (has_stray_paths v) _ seed.1 in
    let no_paths = neither (lacks_paths v) _ stray_paths.1 in
    let safe = neither (has_stray_safe v) _ no_paths.1 in
    let stray_seed = neither (has_stray_seed v) _ safe.1 in
    (safe.0, stray_seed.0)

-- settings by values that are not refused are built
settings-built : (v : Values) → is_refused v ≡ false → AreBuilt (settings_by v)
settings-built v fails =
    let last = last_tests v fails in
    let nodes = number-within 1 most_nodes default_nodes v.nodes (lit≤ tt, lit≤ tt) in
    record {
      least = nodes.0;
      most = nodes.1;
      mode = mode-within v;
      safe = λ safe. exact-mode v (together _ _ last.0 safe);
      demo = seed-allowed v.demo (mode_by v) (λ given. exact-mode v (first-granted (is_some v.demo) (asks_model (codes "exact") v) _ last.1 given));
    }

pub are-built : (v : Values) (s : Settings) → is_refused v ≡ false → s ≡ settings_by v → AreBuilt s
are-built v s fails is = subst AreBuilt (sym is) (settings-built v fails)
