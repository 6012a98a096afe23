-- Paths that are added to the booked ones are the widest of what is left, and only lower the error.
use Rattle.std.proofs.Common.{◌≡◌, ℕ, zero, suc, ◌+◌, ◌-◌, ◌*◌, ◌≤◌, ◌<◌, ◌&&◌, nat_le, nat_lt, cond, max, true, List, [], ◌∷◌, ◌++◌, length, length-append, slice_index, slice_index_or, sym, ap, subst, ◌∙◌, append_assoc, refl, inl, inr, arith, le-leb, ltb-true}
use Rattle.std.specs.Prelude.{All}
use Rattle.std.proofs.lemmas.Bool.{and_from, cases_Bool, cases_lt}
use Rattle.std.proofs.lemmas.List.{append-nil, get_or_past}
use Rattle.std.proofs.lemmas.List.Sums.{sum_by-le}
use Rattle.decomposition.specs.declared.Mode.TheVariants.{Abs}
use Rattle.decomposition.specs.Answer.{Covers, HaveSamePaths, IsInReportOrder, IsMerged, total_weight, weight_on}
use Rattle.decomposition.specs.FirstAnswer.{IsWidest, path_width}
use Rattle.decomposition.specs.Flow.{rest_after}
use Rattle.decomposition.specs.Graph.{Graph, IsPath, edge_count, has_edge, is_path}
use Rattle.decomposition.specs.Instance.{Instance, IsInstance, distance, error, range}
use Rattle.decomposition.proofs.FewPaths.{Covers-append, all-append, weight_on-append}
use Rattle.decomposition.proofs.FirstAnswers.{merged_least}
use Rattle.decomposition.proofs.Merging.{Covers-same_paths, IsAnswer-same_paths}
use Rattle.decomposition.proofs.Root.{all-cons, all-place}
use Rattle.decomposition.proofs.Sums.{sum_below-le}
use Rattle.greedy_paths.specs.Booking.{AreBooked}
use Rattle.greedy_paths.specs.Units.{AreUnits}
use Rattle.greedy_paths.proofs.Decomposing.{path-enough, path-inside, path_width-le}
use Rattle.flow_solver.specs.Booking.{upper_bound}
use Rattle.flow_solver.specs.Room.{IsLeftOf}
use Rattle.flow_solver.specs.Searched.{IsFoundFor, any_error}
use Rattle.flow_solver.specs.Widened.{IsWidened, IsWidestFirstUpTo}
use Rattle.flow_solver.proofs.Attempts.{weight_on-le}
use Rattle.flow_solver.proofs.Beginnings.{both_same}
use Rattle.flow_solver.proofs.Bounded.{bounds, entries_small}
use Rattle.flow_solver.proofs.Halving.{booked_units}
use Rattle.flow_solver.proofs.PathsOnce.{paths_once}

-- what is left may be told in other words
widest-same : (g : Graph) (f h : ℕ → ℕ) (n : ℕ) (a : List (List ℕ × ℕ)) → ((e : ℕ) → f e ≡ h e) → IsWidestFirstUpTo g f n a → IsWidestFirstUpTo g h n a
widest-same g f h n a same first = subst (λ r. IsWidestFirstUpTo g r n a) (λ i e. same e i) first

-- a widest-first list goes on with that of what it leaves
widest-goes_on : (g : Graph) (rest : ℕ → ℕ) (a more : List (List ℕ × ℕ)) (m k : ℕ) → IsWidestFirstUpTo g rest (length a) a → IsWidestFirstUpTo g (λ e. rest e - weight_on a e) m more → k ≡ length a + m
    → IsWidestFirstUpTo g rest k (a ++ more)
widest-goes_on g rest [] more m k first after is =
    let all : m ≡ k = omega (arith, is) in
    subst (λ n. IsWidestFirstUpTo g rest n more) all (widest-same g (λ e. rest e - 0) rest m more (λ e. omega arith) after)
widest-goes_on g rest (x ∷ a) more m zero first after is = absurd (omega (arith, is))
widest-goes_on g rest (x ∷ a) more m (suc k) (widest, width, first) after is =
    let left = rest_after rest x.0 x.1 in (
      widest,
      width,
      widest-goes_on g left a more m k first (widest-same g (λ e. rest e - weight_on (x ∷ a) e) (λ e. left e - weight_on a e) m more (λ e. omega arith) after) (omega (arith, is)),
    )

-- where no path is left, it is empty
widest-none : (g : Graph) (rest : ℕ → ℕ) (n : ℕ) → ((p : List ℕ) → IsPath g p → path_width rest p ≡ 0) → IsWidestFirstUpTo g rest n []
widest-none g rest zero none = refl
widest-none g rest (suc n) none = none

-- the paths so far, and what they put on each edge
pub record IsWidening (g : Graph) (weights : List ℕ) (booked a : List (List ℕ × ℕ)) (sums : List ℕ) : Type 0 where
  pub widened : IsWidened g (slice_index weights) booked (length a) a
  pub units : AreUnits g a sums

module _ (g : Graph) (weights : List ℕ) (booked a : List (List ℕ × ℕ)) (sums left : List ℕ) (one_each : length weights ≡ edge_count g) (are : IsLeftOf (length weights) weights sums left) (so_far : IsWidening g weights booked a sums) where
  -- what is left is what the others leave of what the booked paths leave
  left_is : (e : ℕ) → slice_index left e ≡ (slice_index weights e - weight_on booked e) - weight_on so_far.widened.others e
  left_is e =
      elim (cases_lt e (length weights)) [
        | inl inside ↦
            omega (
              arith,
              are.each e inside,
              so_far.units.each e (omega (arith, inside, one_each)),
              ap (λ xs. weight_on xs e) so_far.widened.begins,
              weight_on-append booked so_far.widened.others e,
            )
        | inr past ↦ omega (arith, get_or_past left e 0 (omega (arith, past, are.count)), get_or_past weights e 0 past)
      ]

  -- the others go on with the widest-first list of what is left
  widest-more : (n m : ℕ) (more : List (List ℕ × ℕ)) → IsWidestFirstUpTo g (slice_index left) m more → n ≡ length a + m
      → IsWidestFirstUpTo g (λ e. slice_index weights e - weight_on booked e) (n - length booked) (so_far.widened.others ++ more)
  widest-more n m more after is =
      let rest : ℕ → ℕ = λ e. slice_index weights e - weight_on booked e in
      let others = so_far.widened.others in
      let count : length a ≡ length booked + length others = ap length so_far.widened.begins ∙ length-append booked others in
      let first : IsWidestFirstUpTo g rest (length others) others = subst (λ l. IsWidestFirstUpTo g rest l others) (omega (arith, count)) so_far.widened.widest in
      widest-goes_on g rest others more m (n - length booked) first (widest-same g (slice_index left) (λ e. rest e - weight_on others e) m more left_is after) (omega (arith, is, count))

  -- the paths are all where no path is left
  pub IsWidened-none : (k : ℕ) → length a ≤ k → ((p : List ℕ) → IsPath g p → path_width (slice_index left) p ≡ 0) → IsWidened g (slice_index weights) booked k a
  IsWidened-none k few none = record {
    others = so_far.widened.others;
    begins = so_far.widened.begins;
    answer = so_far.widened.answer;
    most = so_far.widened.most;
    widest =
        subst (IsWidestFirstUpTo g (λ e. slice_index weights e - weight_on booked e) (k - length booked)) (append-nil so_far.widened.others)
        (widest-more k (k - length a) [] (widest-none g (slice_index left) (k - length a) none) (omega (arith, few)));
  }

module _ (g : Graph) (weights : List ℕ) (a : List (List ℕ × ℕ)) (sums left path : List ℕ) (width : ℕ) (one_each : length weights ≡ edge_count g) (are : IsLeftOf (length weights) weights sums left)
    (widest : IsWidest g (slice_index left) path) (is : width ≡ path_width (slice_index left) path) where
  -- the widest path of what is left fits under the weights
  pub width-fits_under : All (λ e. slice_index sums e + width ≤ slice_index weights e) path
  width-fits_under k d h =
      let e = slice_index_or path k d in
      omega (arith, path-enough g path (slice_index left) width is k d h, are.each e (omega (arith, path-inside g path widest.path k d h, one_each)), is, widest.positive)

  -- one path more
  module _ (booked : List (List ℕ × ℕ)) (new : List ℕ) (so_far : IsWidening g weights booked a sums) (added : (e : ℕ) → slice_index new e ≡ slice_index sums e + cond (has_edge path e) width 0) where
    more-fits : (e : ℕ) → e < edge_count g → (weight_on (a ++ (path, width) ∷ []) e ≤ max (slice_index weights e) (weight_on booked e)) × (slice_index new e ≡ weight_on (a ++ (path, width) ∷ []) e)
    more-fits e inside = elim (cases_Bool (has_edge path e)) [
      | inl hit ↦
          let on : weight_on (a ++ (path, width) ∷ []) e ≡ weight_on a e + (width + 0) = subst (λ b. weight_on (a ++ (path, width) ∷ []) e ≡ weight_on a e + (cond b width 0 + 0)) hit (weight_on-append a ((path, width) ∷ []) e) in
          let sum : slice_index new e ≡ slice_index sums e + width = subst (λ b. slice_index new e ≡ slice_index sums e + cond b width 0) hit (added e) in
          let least = path_width-le (slice_index left) path e hit in
          let rest = are.each e (omega (arith, inside, one_each)) in
          (omega (arith, on, is, least, rest, widest.positive, so_far.units.each e inside), omega (arith, on, sum, so_far.units.each e inside))
      | inr free ↦
          let on : weight_on (a ++ (path, width) ∷ []) e ≡ weight_on a e + (0 + 0) = subst (λ b. weight_on (a ++ (path, width) ∷ []) e ≡ weight_on a e + (cond b width 0 + 0)) free (weight_on-append a ((path, width) ∷ []) e) in
          let sum : slice_index new e ≡ slice_index sums e + 0 = subst (λ b. slice_index new e ≡ slice_index sums e + cond b width 0) free (added e) in
          (omega (arith, on, so_far.widened.most e inside), omega (arith, on, sum, so_far.units.each e inside))
    ]

    pub IsWidening-more : length new ≡ length sums → IsWidening g weights booked (a ++ (path, width) ∷ []) new
    IsWidening-more count =
        let good : (is_path g path && nat_le 1 width) ≡ true = and_from (is_path g path) (nat_le 1 width) widest.path (le-leb 1 width (omega (arith, is, widest.positive))) in
        record {
          widened = record {
            others = so_far.widened.others ++ (path, width) ∷ [];
            begins = ap (λ xs. xs ++ (path, width) ∷ []) so_far.widened.begins ∙ append_assoc booked so_far.widened.others ((path, width) ∷ []);
            answer = all-append (λ (entry : List ℕ × ℕ). is_path g entry.0 && nat_le 1 entry.1) a ((path, width) ∷ []) so_far.widened.answer (all-cons (λ (entry : List ℕ × ℕ). is_path g entry.0 && nat_le 1 entry.1) (path, width) [] good refl);
            most = λ e inside. (more-fits e inside).0;
            widest =
                widest-more g weights booked a sums left one_each are so_far (length (a ++ (path, width) ∷ [])) 1 ((path, width) ∷ []) (widest, is, refl)
                (length-append a ((path, width) ∷ []));
          };
          units = record { count = count ∙ so_far.units.count; each = λ e inside. (more-fits e inside).1 };
        }

module _ (k : ℕ) (i : Instance) (f : ℕ → ℕ) (booked a : List (List ℕ × ℕ)) (valid : IsInstance (Abs k) i) (same : (e : ℕ) → f e ≡ upper_bound i e) (widened : IsWidened i.graph f booked k a) where
  -- the error is no greater than that of the booked paths
  pub widened_nearer : error i a ≤ error i booked
  widened_nearer =
      sum_below-le (λ e. distance (range i e) (weight_on a e)) (λ e. distance (range i e) (weight_on booked e)) (edge_count i.graph)
      (λ e inside. omega (arith, both_same i.ranges valid.fits e, same e, widened.most e inside, ap (λ xs. weight_on xs e) widened.begins, weight_on-append booked widened.others e))

  module _ (are : AreBooked i.graph f i.rules booked) (few : length a ≤ k) (fits : length booked ≤ k) (slots : k ≤ 64) where
    -- their weights are together at most so many times the greatest weight of a text
    pub widened_total : total_weight a ≤ k * 1000000000000
    widened_total =
        let each = entries_small i.graph 1000000000000 a widened.answer
        (λ e inside. omega (arith, widened.most e inside, same e, (bounds (Abs k) i valid e (omega (arith, inside, valid.ranged))).1, booked_units i f booked are e, fits, slots)) in
        omega (arith, sum_by-le (λ (entry : List ℕ × ℕ). entry.1) 1000000000000 a each, few)

    -- with equal ones made one, they answer the decision that asks for at most k paths
    pub widened_found : (new : List (List ℕ × ℕ)) → Covers i.rules booked → HaveSamePaths a new → IsMerged a new → ((e : ℕ) → weight_on new e ≡ weight_on a e) → IsInReportOrder new → IsFoundFor i (any_error k) new
    widened_found new covers paths merged kept order =
        let short : length new ≤ length a = merged_least new a merged.once merged.positive merged.same in
        record {
          answer = IsAnswer-same_paths i.graph a new paths (λ n e there. ltb-true 0 _ (all-place (λ (entry : List ℕ × ℕ). nat_lt 0 entry.1) new e n merged.positive there)) widened.answer;
          covers = Covers-same_paths i.rules a new paths (subst (Covers i.rules) (sym widened.begins) (Covers-append i.rules booked widened.others covers));
          few = omega (arith, short, few);
          within = tt;
          order = order;
          once = paths_once new merged.once;
          light = λ e. omega (arith, kept e, weight_on-le a e, widened_total);
        }
