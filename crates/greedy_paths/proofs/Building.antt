-- What is built on booked paths: it decomposes the flow, its entries are few and small, and no first answer has fewer.
use Rattle.std.proofs.Common.{◌≡◌, ◌==◌, ℕ, ◌+◌, ◌*◌, ◌-◌, ◌^◌, ◌<◌, ◌≤◌, ◌&&◌, nat_le, nat_lt, true, List, [], ◌∷◌, ◌++◌, length, length-append, slice_index, refl, sym, ap, ap₂, ◌∙◌, subst, arith, ltb-true, eqb-true, inl, inr}
use Rattle.std.specs.Prelude.{All}
use Rattle.std.specs.List.{list_all}
use Rattle.std.proofs.lemmas.Bool.{cases_lt}
use Rattle.std.proofs.lemmas.List.{get_or_past}
use Rattle.std.proofs.lemmas.List.Sums.{sum_by-append, sum_by-cons}
use Rattle.decomposition.specs.Graph.{Graph, IsNet, edge_count, is_run, is_path}
use Rattle.decomposition.specs.Answer.{IsAnswer, Covers, IsMerged, HaveSamePaths, weight_on, weight_of, total_weight}
use Rattle.decomposition.specs.Flow.{IsBalanced, Decomposes, rest_after}
use Rattle.decomposition.specs.FirstAnswer.{IsFirstAnswer, IsWidestFirst, path_width, with_unit}
use Rattle.decomposition.proofs.Balance.{IsBalanced-same, IsBalanced-cancel, weight_on-balanced}
use Rattle.decomposition.proofs.FewPaths.{positive_count-le, weight_on-append, all-append, Covers-append}
use Rattle.decomposition.proofs.FirstAnswers.{merged_least, IsWidestFirst-same}
use Rattle.decomposition.proofs.Merging.{IsAnswer-same_paths, Covers-same_paths, weight_on-IsMerged}
use Rattle.decomposition.proofs.Root.{all-place, all-parts}
use Rattle.decomposition.proofs.Rules.{widest_first_is_unique}
use Rattle.greedy_paths.specs.Booking.{AreBooked}
use Rattle.greedy_paths.specs.declared.greedy.GreedyFault.{GreedyFault}
use Rattle.greedy_paths.specs.declared.greedy.GreedyFault.TheVariants.{Unbalanced, Overbooked, Memory}
use Rattle.greedy_paths.specs.Units.{IsRest}
use Rattle.greedy_paths.specs.Built.{EndsWidestFirst, IsFirstPassed, HasNoFirst, IsRefusalOver, IsRefusalWith}
use Rattle.greedy_paths.specs.Laws.{BuiltOnBookedIsFirst}
use Rattle.greedy_paths.proofs.Decomposing.{Decomposes-widest}
use Rattle.greedy_paths.proofs.OneList.{booked_paths_are_one_list}

module _ (g : Graph) (flow : ℕ → ℕ) (booked others : List (List ℕ × ℕ)) where
  -- what booked paths leave of a balanced flow is balanced
  rest-balanced : IsNet g → IsBalanced g flow → IsAnswer g booked → ((e : ℕ) → e < edge_count g → weight_on booked e ≤ flow e) → IsBalanced g (λ e. flow e - weight_on booked e)
  rest-balanced net balanced answer fits =
      IsBalanced-cancel g (λ e. flow e - weight_on booked e) (weight_on booked)
      (IsBalanced-same g flow (λ e. (flow e - weight_on booked e) + weight_on booked e) (λ e there. omega (arith, fits e there)) balanced)
      (weight_on-balanced g net booked answer)

  -- so the booked paths and the widest-first list of the rest make up the flow
  pub Decomposes-over : IsNet g → IsBalanced g flow → IsAnswer g booked → ((e : ℕ) → e < edge_count g → weight_on booked e ≤ flow e) → IsWidestFirst g (λ e. flow e - weight_on booked e) others
      → Decomposes g flow (booked ++ others) × (length others ≤ edge_count g)
  Decomposes-over net balanced answer fits widest =
      let made = Decomposes-widest g (λ e. flow e - weight_on booked e) others net (rest-balanced net balanced answer fits) widest in (
        record {
          answer = all-append (λ entry. is_path g entry.0 && nat_le 1 entry.1) booked others answer made.0.answer;
          sums = λ e there. omega (arith, weight_on-append booked others e, made.0.sums e there, fits e there);
        },
        omega (arith, made.1, positive_count-le g (λ e. flow e - weight_on booked e)),
      )

-- booked paths, and behind them the widest-first list of what they leave
pub record IsOver (g : Graph) (flow : ℕ → ℕ) (booked paths : List (List ℕ × ℕ)) : Type 0 where
  pub others : List (List ℕ × ℕ)
  pub is : paths ≡ booked ++ others
  pub widest : IsWidestFirst g (λ e. flow e - weight_on booked e) others
  pub made : Decomposes g flow paths
  pub few : length others ≤ edge_count g

pub IsOver-from : (g : Graph) (flow : ℕ → ℕ) (booked paths : List (List ℕ × ℕ)) (rest : List ℕ) → IsNet g → IsBalanced g flow → IsAnswer g booked → IsRest g flow booked rest → EndsWidestFirst g (slice_index rest) booked paths
    → IsOver g flow booked paths
IsOver-from g flow booked paths rest net balanced answer left (others, is, first) =
    let widest = IsWidestFirst-same g (slice_index rest) (λ e. flow e - weight_on booked e) others left.each first in
    let over = Decomposes-over g flow booked others net balanced answer left.fits widest in
    record { others = others; is = is; widest = widest; made = subst (Decomposes g flow) (sym is) over.0; few = over.1 }

-- what is made of a decomposition by merging is a decomposition
pub Decomposes-merged : (g : Graph) (flow : ℕ → ℕ) (old new : List (List ℕ × ℕ)) → Decomposes g flow old → IsMerged old new → HaveSamePaths old new → Decomposes g flow new
Decomposes-merged g flow old new made merged paths = record {
  answer = IsAnswer-same_paths g old new paths positive made.answer;
  sums = λ e there. weight_on-IsMerged old new merged e ∙ made.sums e there;
} where
  positive : All (λ entry. 1 ≤ entry.1) new
  positive k d there = ltb-true 0 _ (all-place (λ (entry : List ℕ × ℕ). nat_lt 0 entry.1) new d k merged.positive there)

-- it has no more entries than what it is made of, and covers what the booked paths cover
pub merged-few : (g : Graph) (flow : ℕ → ℕ) (booked paths a : List (List ℕ × ℕ)) → IsOver g flow booked paths → IsMerged paths a → length a ≤ edge_count g + length booked
merged-few g flow booked paths a over merged =
    omega (arith, merged_least a paths merged.once merged.positive merged.same, ap length over.is, length-append booked over.others, over.few)

pub merged-covers : (g : Graph) (flow : ℕ → ℕ) (booked paths a : List (List ℕ × ℕ)) → IsOver g flow booked paths → HaveSamePaths paths a → (rules : List (List ℕ)) → Covers rules booked → Covers rules a
merged-covers g flow booked paths a over same rules covers =
    Covers-same_paths rules paths a same (subst (Covers rules) (sym over.is) (Covers-append rules booked over.others covers))

-- ---- the total weight

path_width-small : (rest : ℕ → ℕ) (most : ℕ) (p : List ℕ) → ((e : ℕ) → rest e ≤ most) → path_width rest p ≤ most
path_width-small rest most [] small = omega arith
path_width-small rest most (e ∷ []) small = small e
path_width-small rest most (e ∷ (f ∷ es)) small = omega (arith, small e)

total_widest : (g : Graph) (rest : ℕ → ℕ) (a : List (List ℕ × ℕ)) → ((e : ℕ) → rest e ≤ 1000000000000) → IsWidestFirst g rest a → total_weight a ≤ 1000000000000 * length a
total_widest g rest [] small widest = omega arith
total_widest g rest (x ∷ a) small (widest, is, more) =
    omega (
      arith,
      sum_by-cons (λ (entry : List ℕ × ℕ). entry.1) x a,
      is,
      path_width-small rest 1000000000000 x.0 small,
      total_widest g (rest_after rest x.0 x.1) a (λ e. omega (arith, small e)) more,
    )

total_units : (a : List (List ℕ × ℕ)) → list_all (λ entry. entry.1 == 1) a ≡ true → total_weight a ≡ length a
total_units [] units = refl
total_units (x ∷ a) units =
    let parts = all-parts (λ (entry : List ℕ × ℕ). entry.1 == 1) x a units in
    omega (arith, sum_by-cons (λ (entry : List ℕ × ℕ). entry.1) x a, eqb-true x.1 1 parts.0, total_units a parts.1)

flow_small : (flow : List ℕ) → All (λ w. w ≤ 1000000000000) flow → (e : ℕ) → slice_index flow e ≤ 1000000000000
flow_small flow small e =
    elim (cases_lt e (length flow)) [ inl there ↦ small e 0 there | inr past ↦ omega (arith, get_or_past flow e 0 past) ]

-- the total weight of booked paths and a widest-first list fits 64 bits
pub total-fits : (g : Graph) (flow : List ℕ) (booked paths : List (List ℕ × ℕ)) → list_all (λ entry. entry.1 == 1) booked ≡ true → length booked < 2 ^ 32 → All (λ w. w ≤ 1000000000000) flow → edge_count g ≤ 4096
    → IsOver g (slice_index flow) booked paths → total_weight paths < 2 ^ 64
total-fits g flow booked paths units few small short over =
    omega (
      arith,
      ap total_weight over.is,
      sum_by-append (λ (entry : List ℕ × ℕ). entry.1) booked over.others,
      total_units booked units,
      total_widest g (λ e. slice_index flow e - weight_on booked e) over.others (λ e. omega (arith, flow_small flow small e)) over.widest,
      over.few,
    )

-- ---- first answers

-- the booked paths of any first answer are the same
booked-same : (g : Graph) (flow h k : ℕ → ℕ) (rules : List (List ℕ)) (booked b : List (List ℕ × ℕ)) → ((e : ℕ) → flow e ≡ h e) → ((e : ℕ) → flow e ≡ k e) → list_all (is_run g) rules ≡ true → AreBooked g h rules booked
    → (first : IsFirstAnswer g k rules b) → booked ≡ with_unit first.booked
booked-same g flow h k rules booked b same also runs (paths, is, books) first =
    is ∙ ap with_unit (booked_paths_are_one_list g h k rules paths first.booked (λ e. sym (same e) ∙ also e) runs books first.books)

pub built_on_booked_is_first : BuiltOnBookedIsFirst
built_on_booked_is_first g flow h rules booked a same runs are built k b also first =
    let on : booked ≡ with_unit first.booked = booked-same g flow h k rules booked b same also runs are first in
    let rest : (e : ℕ) → flow e - weight_on booked e ≡ k e - weight_on (with_unit first.booked) e = λ e. ap₂ (λ (x y : ℕ). x - y) (also e) (ap (λ xs. weight_on xs e) on) in
    let others : built.others ≡ first.others
    = widest_first_is_unique g (λ e. k e - weight_on (with_unit first.booked) e) built.others first.others
    (IsWidestFirst-same g (λ e. flow e - weight_on booked e) (λ e. k e - weight_on (with_unit first.booked) e) built.others rest built.widest) first.widest in
    let whole : booked ++ built.others ≡ with_unit first.booked ++ first.others = ap₂ (λ (xs ys : List (List ℕ × ℕ)). xs ++ ys) on others in
    merged_least a b built.merged.once built.merged.positive (λ p. built.merged.same p ∙ (ap (λ xs. weight_of xs p) whole ∙ sym (first.merged.same p)))

-- where their units pass the flow of an edge, there is no first answer
module _ (g : Graph) (flow : ℕ → ℕ) (rules : List (List ℕ)) (booked : List (List ℕ × ℕ)) (runs : list_all (is_run g) rules ≡ true) where
  HasNoFirst-passed : (e units most : ℕ) → AreBooked g flow rules booked → IsFirstPassed g flow booked e units most → HasNoFirst g flow rules
  HasNoFirst-passed e units most are passed k b also first =
      let on : booked ≡ with_unit first.booked = booked-same g flow flow k rules booked b (λ _. refl) also runs are first in
      omega (arith, first.fits e passed.there, also e, ap (λ xs. weight_on xs e) on, passed.units_are, passed.most_is, passed.passed)

  pub IsRefusalWith-over : AreBooked g flow rules booked → (fault : GreedyFault) → IsRefusalOver g flow booked fault → IsRefusalWith g flow rules fault
  IsRefusalWith-over are (Unbalanced v) refusal = refusal
  IsRefusalWith-over are (Overbooked e units most) refusal = record {
    balanced = refusal.0;
    booked = are.0;
    books = are.2;
    first = subst (λ b. IsFirstPassed g flow b e units most) are.1 refusal.1;
    no_first = HasNoFirst-passed e units most are refusal.1;
  }
  IsRefusalWith-over are Memory refusal = tt
