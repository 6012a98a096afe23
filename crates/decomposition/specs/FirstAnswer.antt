-- The widest-first list of a flow, booked paths, and the first answer.
use Rattle.std.specs.Prelude.{◌≡◌, ℕ, ◌-◌, ◌≤◌, ◌<◌, ◌⊎◌, min, List, [], ◌∷◌, ◌++◌, map, IsTrue, MatchBool}
use Rattle.std.specs.List.{AllByRecursion, list_any}
use Rattle.decomposition.specs.Graph.{Graph, IsPath, edge_count, tail, head, contains_run, is_list_le}
use Rattle.decomposition.specs.Answer.{weight_on, IsMerged}
use Rattle.decomposition.specs.Flow.{rest_after}

-- the width of a path: the least rest along it
abbrev pub path_width : (ℕ → ℕ) → List ℕ → ℕ
path_width rest [] = 0
path_width rest (e ∷ []) = rest e
path_width rest (e ∷ (f ∷ es)) = min (rest e) (path_width rest (f ∷ es))

-- a widest path: its width is at least 1, no path is wider, and of the paths as wide it is the first
pub record IsWidest (g : Graph) (rest : ℕ → ℕ) (p : List ℕ) : Type 0 where
  pub path : IsPath g p
  pub positive : 1 ≤ path_width rest p
  pub widest : (q : List ℕ) → IsPath g q → path_width rest q ≤ path_width rest p
  pub first : (q : List ℕ) → IsPath g q → path_width rest q ≡ path_width rest p → IsTrue (is_list_le p q)

-- the widest-first list: each entry is the widest path of what the entries before it leave, with its width, until no path is left
abbrev pub IsWidestFirst : Graph → (ℕ → ℕ) → List (List ℕ × ℕ) → Type 0
IsWidestFirst g rest [] = (p : List ℕ) → IsPath g p → path_width rest p ≡ 0
IsWidestFirst g rest (a ∷ more) =
    IsWidest g rest a.0 × (a.1 ≡ path_width rest a.0) × IsWidestFirst g (rest_after rest a.0 a.1) more

-- of the edges into its head, the first of greatest flow
abbrev pub IsGreatestInto : Graph → (ℕ → ℕ) → ℕ → Type 0
IsGreatestInto g flow e =
    (f : ℕ) → f < edge_count g → head g f ≡ head g e → (flow f < flow e) ⊎ ((flow f ≡ flow e) × (e ≤ f))

-- of the edges out of its tail, the first of greatest flow
abbrev pub IsGreatestOutOf : Graph → (ℕ → ℕ) → ℕ → Type 0
IsGreatestOutOf g flow e =
    (f : ℕ) → f < edge_count g → tail g f ≡ tail g e → (flow f < flow e) ⊎ ((flow f ≡ flow e) × (e ≤ f))

-- the booked path of a run: backwards and forwards it takes the edges of greatest flow
pub record IsBookedPath (g : Graph) (flow : ℕ → ℕ) (r p : List ℕ) : Type 0 where
  pub before : List ℕ
  pub after : List ℕ
  pub is : p ≡ before ++ (r ++ after)
  pub path : IsPath g p
  pub back : AllByRecursion (IsGreatestInto g flow) before
  pub forth : AllByRecursion (IsGreatestOutOf g flow) after

-- the paths that constraints book after the paths booked so far: one that is contained in an earlier path books nothing
abbrev pub Books : Graph → (ℕ → ℕ) → List (List ℕ) → List (List ℕ) → List (List ℕ) → Type 0
Books g flow booked [] more = more ≡ []
Books g flow booked (r ∷ rs) more =
    MatchBool (list_any (λ p. contains_run p r) booked)
    (Books g flow booked rs more)
    ((p : List ℕ) × (rest : List (List ℕ)) × (more ≡ p ∷ rest) × IsBookedPath g flow r p × Books g flow (booked ++ p ∷ []) rs rest)

-- the booked paths of a list of constraints
abbrev pub IsBooked : Graph → (ℕ → ℕ) → List (List ℕ) → List (List ℕ) → Type 0
IsBooked g flow rules booked = Books g flow [] rules booked

-- paths, each with weight 1
abbrev pub with_unit : List (List ℕ) → List (List ℕ × ℕ)
with_unit ps = map (λ p. (p, 1)) ps

-- the booked units pass the flow of no edge
abbrev pub BookingFits : Graph → (ℕ → ℕ) → List (List ℕ) → Type 0
BookingFits g flow booked = (e : ℕ) → e < edge_count g → weight_on (with_unit booked) e ≤ flow e

-- the first answer: the booked paths, each with weight 1, and the widest-first list of the rest of the flow, merged
pub record IsFirstAnswer (g : Graph) (flow : ℕ → ℕ) (rules : List (List ℕ)) (a : List (List ℕ × ℕ)) : Type 0 where
  pub booked : List (List ℕ)
  pub others : List (List ℕ × ℕ)
  pub books : IsBooked g flow rules booked
  pub fits : BookingFits g flow booked
  pub widest : IsWidestFirst g (λ e. flow e - weight_on (with_unit booked) e) others
  pub merged : IsMerged (with_unit booked ++ others) a
