-- Rules that are taken at an edge: what each step adds, and what it means that they are no crowd.
use Rattle.std.proofs.Common.{◌≡◌, ◌⊎◌, ℕ, ◌+◌, ◌<◌, ◌&&◌, ◌==◌, Bool, List, [], ◌∷◌, ◌++◌, nat_lt, length, sym, subst, ap, ◌∙◌, inl, inr, arith, lt-ltb}
use Rattle.std.specs.Prelude.{Contains, OnOk, Result, Ok, Err}
use Rattle.std.specs.List.{list_any}
use Rattle.std.proofs.lemmas.Bool.{and_from, cases_eq, cases_lt}
use Rattle.std.proofs.lemmas.List.Elements.{All-push, Contains-append_left, Contains-push}
use Rattle.std.proofs.lemmas.List.Sums.{list_all-from_AllPass}
use Rattle.decomposition.specs.Graph.{Graph, contains_run, edge_count, RunsShareAPath}
use Rattle.decomposition.specs.Instance.{Instance, range}
use Rattle.decomposition.specs.Certificates.{rule_at, AreRunsApart, AllRunsApart, IsCrowd}
use Rattle.cert_check.proofs.Crowding.{contains_run-edge}
use Rattle.flow_solver.specs.Crowds.{GoesThrough, IsHeldBack, AreTakenApart, CarriesTaken}
use Rattle.flow_solver.proofs.Rising.{rises-push, rises-more}

-- the test whether a rule's run has an edge
pub through-test : (i : Instance) (e c : ℕ) (run : List ℕ) (b : Bool) → b ≡ list_any (λ d. d == e) run → run ≡ rule_at i c → b ≡ contains_run (rule_at i c) (e ∷ [])
through-test i e c run b tested is = tested ∙ sym (contains_run-edge run e) ∙ ap (λ r. contains_run r (e ∷ [])) is

-- two runs on one path, the other first
turned : (g : Graph) (r s : List ℕ) → RunsShareAPath g r s → RunsShareAPath g s r
turned g r s share = (share.0, share.1, share.3, share.2)

-- a rule apart from each of a list, put behind them
apart-behind : (i : Instance) (c n : ℕ) (ds : List ℕ) → AreRunsApart i c ds → (RunsShareAPath i.graph (rule_at i c) (rule_at i n) → ⊥) → AreRunsApart i c (ds ++ n ∷ [])
apart-behind i c n [] apart new = (new, tt)
apart-behind i c n (d ∷ ds) apart new = (apart.0, apart-behind i c n ds apart.1 new)

apart-push : (i : Instance) (n : ℕ) (cs : List ℕ) → AllRunsApart i cs → AreRunsApart i n cs → AllRunsApart i (cs ++ n ∷ [])
apart-push i n [] apart new = (tt, tt)
apart-push i n (c ∷ cs) apart new =
    (apart-behind i c n cs apart.0 (λ share. new.0 (turned i.graph (rule_at i c) (rule_at i n) share)), apart-push i n cs apart.1 new.1)

-- what was taken stays taken, and what held a rule back holds it back
still-full : (i : Instance) (n c : ℕ) (cs : List ℕ) → Contains cs c ⊎ IsHeldBack i cs c → Contains (cs ++ n ∷ []) c ⊎ IsHeldBack i (cs ++ n ∷ []) c
still-full i n c cs (inl taken) = inl (Contains-append_left cs (n ∷ []) c taken)
still-full i n c cs (inr held) = inr (record { other = held.other; listed = Contains-append_left cs (n ∷ []) held.other held.listed; before = held.before; shared = held.shared })

taken-push : (i : Instance) (n e : ℕ) (cs : List ℕ) → AreTakenApart n i e cs → GoesThrough i e n → AreRunsApart i n cs → AreTakenApart (n + 1) i e (cs ++ n ∷ [])
taken-push i n e cs taken through apart = record {
  rises = rises-push n cs taken.rises;
  through = All-push (GoesThrough i e) cs n taken.through through;
  apart = apart-push i n cs taken.apart apart;
  full = λ c below goes. elim (cases_eq c n) [
    | inl is ↦ inl (subst (Contains (cs ++ n ∷ [])) (sym is) (Contains-push cs n))
    | inr other ↦ still-full i n c cs (taken.full c (omega (arith, below, other)) goes)
  ];
}

-- the next rule is taken
pub taken-pushed : {E : Type 0} (r : Result Unit E) (i : Instance) (n e : ℕ) (old new : List ℕ) → OnOk r (new ≡ old ++ n ∷ []) → AreTakenApart n i e old → GoesThrough i e n → AreRunsApart i n old → OnOk r (AreTakenApart (n + 1) i e new)
taken-pushed (Ok u) i n e old new is taken through apart =
    subst (AreTakenApart (n + 1) i e) (sym is) (taken-push i n e old taken through apart)
taken-pushed (Err error) i n e old new is taken through apart = tt

-- the next rule is not taken: it does not go through the edge, or is held back
pub taken-left : (i : Instance) (n e : ℕ) (cs : List ℕ) → AreTakenApart n i e cs → (GoesThrough i e n → IsHeldBack i cs n) → AreTakenApart (n + 1) i e cs
taken-left i n e cs taken held = record {
  rises = rises-more n cs taken.rises;
  through = taken.through;
  apart = taken.apart;
  full = λ c below goes. elim (cases_eq c n) [
    | inl is ↦ inr (subst (IsHeldBack i cs) (sym is) (held (subst (GoesThrough i e) is goes)))
    | inr other ↦ taken.full c (omega (arith, below, other)) goes
  ];
}

taken-crowd : (i : Instance) (e : ℕ) (cs : List ℕ) → e < edge_count i.graph → AreTakenApart (length i.rules) i e cs → (range i e).hi < length cs → IsCrowd i e cs
taken-crowd i e cs edge taken more = record {
  edge = edge;
  through = list_all-from_AllPass (λ c. nat_lt c (length i.rules) && contains_run (rule_at i c) (e ∷ [])) cs
      (λ k d there. and_from _ _ (lt-ltb _ _ (taken.rises.below k d there)) (taken.through k d there));
  apart = taken.apart;
  more = more;
}

-- rules taken at an edge that are no crowd are as many as it carries
pub carries-taken : (i : Instance) (e : ℕ) (cs : List ℕ) → e < edge_count i.graph → AreTakenApart (length i.rules) i e cs → (IsCrowd i e cs → ⊥) → CarriesTaken i e
carries-taken i e cs edge taken no_crowd =
    elim (cases_lt (range i e).hi (length cs)) [
      | inl more ↦ absurd (no_crowd (taken-crowd i e cs edge taken more))
      | inr fits ↦ (cs, taken, fits)
    ]
