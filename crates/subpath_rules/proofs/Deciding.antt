-- From what code finds to whether a walk may contain a run, and whether two runs lie on one path.
use Rattle.std.proofs.Common.{◌⊎◌, ◌≡◌, ◌↔◌, ℕ, ◌-◌, ◌<◌, refl, sym, ap, ◌∙◌, arith, inl, inr, Bool, IsTrue, List, [], ◌∷◌, length, slice_index, get_or, true≢false, subst}
use Rattle.std.specs.List.{list_all}
use Rattle.std.proofs.lemmas.Bool.{cases_Bool, iff_false, false_from_ne_true}
use Rattle.decomposition.specs.Graph.{Graph, IsNet, tail, head, is_run, IsRun, paths, RunsShareAPath}
use Rattle.decomposition.specs.Boxes.{may_contain}
use Rattle.decomposition.specs.Reach.{Reaches, IsBegun}
use Rattle.decomposition.proofs.Root.{all-place}
use Rattle.decomposition.proofs.Runs.{walk_end-last}
use Rattle.subpath_rules.specs.Follows.{Overlaps, run_start, run_end, Follows}
use Rattle.subpath_rules.proofs.RunsByReach.{may_contain_by_reach, runs_share_by_reach}

-- a run begins where its first edge does, and ends where its last edge does
pub run_start-first : (g : Graph) (es : List ℕ) → IsRun g es → run_start g es ≡ tail g (slice_index es 0)
run_start-first g [] run = absurd (true≢false (sym run))
run_start-first g (e ∷ es) run = refl

pub run_end-last : (g : Graph) (es : List ℕ) → IsRun g es → run_end g es ≡ head g (slice_index es (length es - 1))
run_end-last g [] run = absurd (true≢false (sym run))
run_end-last g (e ∷ es) run =
    let last : length es ≡ length (e ∷ es) - 1 = omega arith in
    walk_end-last g (tail g e) e es ∙ ap (λ k. head g (slice_index (e ∷ es) k)) last

-- what reaches says of the two ends
pub follows-decides : (b : Bool) (g : Graph) (walk run : List ℕ) (u v : ℕ) → run_end g walk ≡ u → run_start g run ≡ v → (Overlaps walk run → ⊥) → (IsTrue b ↔ Reaches g u v)
    → IsTrue b ↔ Follows g walk run
follows-decides b g walk run u v end start apart reaches = (
  λ t. inr (subst (λ x. Reaches g x (run_start g run)) (sym end) (subst (λ y. Reaches g u y) (sym start) (reaches.0 t))),
  λ follows. elim follows [
    | inl over ↦ absurd (apart over)
    | inr way ↦ reaches.1 (subst (λ y. Reaches g u y) start (subst (λ x. Reaches g x (run_start g run)) end way))
  ],
)

-- a rule of a list of runs is a run
pub rule-run : (g : Graph) (rules : List (List ℕ)) (i : ℕ) (run : List ℕ) → IsTrue (list_all (is_run g) rules) → i < length rules → run ≡ get_or rules i [] → IsRun g run
rule-run g rules i run runs there is = subst (λ r. IsRun g r) (sym is) (all-place (is_run g) rules [] i runs there)

pub may-decides : (b : Bool) (g : Graph) (walk run : List ℕ) → IsNet g → IsBegun g walk → IsRun g run → (walk ≡ [] → ⊥) → (IsTrue b ↔ Follows g walk run) → b ≡ may_contain (paths g) walk run
may-decides b g walk run net begun is_run some follows =
    let law = may_contain_by_reach g walk run net begun is_run in
    elim (cases_Bool b) [
      | inl yes' ↦ yes' ∙ sym (law.1 (inr (follows.0 yes')))
      | inr no' ↦
          no' ∙ sym (false_from_ne_true (may_contain (paths g) walk run) (λ may. elim (law.0 may) [
            | inl none ↦ some none
            | inr ahead ↦ iff_false follows no' ahead
          ]))
    ]

-- what is found of two runs in both orders
pub share-decides : (b : Bool) (g : Graph) (r s first second : List ℕ) → IsNet g → IsRun g r → IsRun g s → r ≡ first → s ≡ second → (IsTrue b ↔ (Follows g r s ⊎ Follows g s r)) → IsTrue b ↔ RunsShareAPath g first second
share-decides b g r s first second net r_run s_run r_is s_is found =
    let law = runs_share_by_reach g r s net r_run s_run in (
      λ t. subst (λ x. RunsShareAPath g x second) r_is (subst (λ y. RunsShareAPath g r y) s_is (law.1 (found.0 t))),
      λ share. found.1 (law.0 (subst (λ x. RunsShareAPath g x s) (sym r_is) (subst (λ y. RunsShareAPath g first y) (sym s_is) share))),
    )
