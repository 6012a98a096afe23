-- Walks by the edges that are listed for each vertex, back to a source and forth to a sink.
use Rattle.std.proofs.Common.{◌≡◌, ◌≢◌, ℕ, ◌<◌, List, [], ◌∷◌, ◌++◌, Option, None, Some, MatchOption, true, length, length-append, slice_index_or, refl, sym, subst, arith, inl, inr}
use Rattle.std.specs.Prelude.{reverse}
use Rattle.std.specs.List.{AllByRecursion}
use Rattle.std.proofs.lemmas.Bool.{cases_Bool}
use Rattle.std.proofs.lemmas.List.{reverse-append, length-reverse}
use Rattle.decomposition.specs.Graph.{Graph, IsNet, edge_count, tail, head, is_source, is_sink, is_walk_from, walk_end}
use Rattle.decomposition.proofs.Walks.{walk-from_step, walk-append, walk-length, edge_into, edge_out_of}
use Rattle.decomposition.proofs.Flows.{walk_end-push}
use Rattle.decomposition.proofs.Nets.{inside-from_net}
use Rattle.greedy_paths.specs.Booking.{AreEdgesAt, IsListed, ComesFromSource, GoesToSink}

-- the edge that is listed for a vertex
listed_edge : (g : Graph) (end : ℕ → ℕ) (listed : List (Option ℕ)) (v e : ℕ) → AreEdgesAt g end listed → v < g.vertices → slice_index_or listed v None ≡ Some e → (e < edge_count g) × (end e ≡ v)
listed_edge g end listed v e edges there is =
    subst (λ read. MatchOption read ((e : ℕ) → e < edge_count g → end e ≢ v) (λ e. (e < edge_count g) × (end e ≡ v))) is (edges.at v there)

none_listed : (g : Graph) (end : ℕ → ℕ) (listed : List (Option ℕ)) (v : ℕ) → AreEdgesAt g end listed → v < g.vertices → slice_index_or listed v None ≡ None → (e : ℕ) → e < edge_count g → end e ≢ v
none_listed g end listed v edges there is =
    subst (λ read. MatchOption read ((e : ℕ) → e < edge_count g → end e ≢ v) (λ e. (e < edge_count g) × (end e ≡ v))) is (edges.at v there)

module _ (g : Graph) (into : List (Option ℕ)) (v : ℕ) where
  -- a walk to v that is begun at its end, last edge first, and the edge listed for the vertex where it stands
  pub record LeadsBack (back : List ℕ) (next : Option ℕ) : Type 0 where
    pub at : ℕ
    pub vertex : at < g.vertices
    pub here : slice_index_or into at None ≡ next
    pub walk : is_walk_from g at (reverse back) ≡ true
    pub end : walk_end g at (reverse back) ≡ v
    pub listed : AllByRecursion (IsListed (head g) into) (reverse back)

  pub LeadsBack-more : IsNet g → AreEdgesAt g (head g) into → (back : List ℕ) (e : ℕ) (next : Option ℕ) → LeadsBack back (Some e) → slice_index_or into (tail g e) None ≡ next → LeadsBack (back ++ e ∷ []) next
  LeadsBack-more net edges back e next b is =
      let edge = listed_edge g (head g) into b.at e edges b.vertex b.here in
      let whole : reverse (back ++ e ∷ []) ≡ e ∷ reverse back = reverse-append back (e ∷ []) in
      record {
        at = tail g e;
        vertex = (inside-from_net g net e edge.0).0;
        here = is;
        walk = subst (λ es. is_walk_from g (tail g e) es ≡ true) (sym whole)
            (walk-from_step g (tail g e) e (reverse back) (record { inside = edge.0; leaves = refl; rest = subst (λ u. is_walk_from g u (reverse back) ≡ true) (sym edge.1) b.walk }));
        end = subst (λ es. walk_end g (tail g e) es ≡ v) (sym whole) (subst (λ u. walk_end g u (reverse back) ≡ v) (sym edge.1) b.end);
        listed = subst (AllByRecursion (IsListed (head g) into)) (sym whole) (subst (λ u. slice_index_or into u None ≡ Some e) (sym edge.1) b.here, b.listed);
      }

  pub LeadsBack-length : IsNet g → AreEdgesAt g (head g) into → (back : List ℕ) (e : ℕ) → LeadsBack back (Some e) → length back < edge_count g
  LeadsBack-length net edges back e b =
      let longer : LeadsBack (back ++ e ∷ []) (slice_index_or into (tail g e) None) = LeadsBack-more net edges back e (slice_index_or into (tail g e) None) b refl in
      omega (arith, walk-length g net longer.at (reverse (back ++ e ∷ [])) longer.walk, length-reverse (back ++ e ∷ []), length-append back (e ∷ []))

  pub LeadsBack-all : AreEdgesAt g (head g) into → (back : List ℕ) → LeadsBack back None → ComesFromSource g into v (reverse back)
  LeadsBack-all edges back b = record { start = b.at; source = source; walk = b.walk; end = b.end; listed = b.listed } where
    source : is_source g b.at ≡ true
    source = elim (cases_Bool (is_source g b.at)) [
      | inl is ↦ is
      | inr other ↦ let found = edge_into g b.at other in absurd (none_listed g (head g) into b.at edges b.vertex b.here found.0 found.1 found.2)
    ]

AllByRecursion-push : (P : ℕ → Type 0) (es : List ℕ) (e : ℕ) → AllByRecursion P es → P e → AllByRecursion P (es ++ e ∷ [])
AllByRecursion-push P [] e all is = (is, tt)
AllByRecursion-push P (d ∷ es) e all is = (all.0, AllByRecursion-push P es e all.1 is)

module _ (g : Graph) (out_of : List (Option ℕ)) (v : ℕ) where
  -- a walk from v that is begun, and the edge listed for the vertex where it stands
  pub record LeadsForth (forth : List ℕ) (next : Option ℕ) : Type 0 where
    pub vertex : walk_end g v forth < g.vertices
    pub here : slice_index_or out_of (walk_end g v forth) None ≡ next
    pub walk : is_walk_from g v forth ≡ true
    pub listed : AllByRecursion (IsListed (tail g) out_of) forth

  pub LeadsForth-more : IsNet g → AreEdgesAt g (tail g) out_of → (forth : List ℕ) (e : ℕ) (next : Option ℕ) → LeadsForth forth (Some e) → slice_index_or out_of (head g e) None ≡ next → LeadsForth (forth ++ e ∷ []) next
  LeadsForth-more net edges forth e next f is =
      let edge = listed_edge g (tail g) out_of (walk_end g v forth) e edges f.vertex f.here in
      let ends : walk_end g v (forth ++ e ∷ []) ≡ head g e = walk_end-push g v forth e in
      record {
        vertex = subst (λ u. u < g.vertices) (sym ends) (inside-from_net g net e edge.0).1;
        here = subst (λ u. slice_index_or out_of u None ≡ next) (sym ends) is;
        walk = walk-append g v forth (e ∷ []) f.walk (walk-from_step g (walk_end g v forth) e [] (record { inside = edge.0; leaves = edge.1; rest = refl }));
        listed = AllByRecursion-push (IsListed (tail g) out_of) forth e f.listed (subst (λ u. slice_index_or out_of u None ≡ Some e) (sym edge.1) f.here);
      }

  pub LeadsForth-length : IsNet g → AreEdgesAt g (tail g) out_of → (forth : List ℕ) (e : ℕ) → LeadsForth forth (Some e) → length forth < edge_count g
  LeadsForth-length net edges forth e f =
      let longer : LeadsForth (forth ++ e ∷ []) (slice_index_or out_of (head g e) None) = LeadsForth-more net edges forth e (slice_index_or out_of (head g e) None) f refl in
      omega (arith, walk-length g net v (forth ++ e ∷ []) longer.walk, length-append forth (e ∷ []))

  pub LeadsForth-all : AreEdgesAt g (tail g) out_of → (forth : List ℕ) → LeadsForth forth None → GoesToSink g out_of v forth
  LeadsForth-all edges forth f = record { walk = f.walk; sink = sink; listed = f.listed } where
    sink : is_sink g (walk_end g v forth) ≡ true
    sink = elim (cases_Bool (is_sink g (walk_end g v forth))) [
      | inl is ↦ is
      | inr other ↦
          let found = edge_out_of g (walk_end g v forth) other in
          absurd (none_listed g (tail g) out_of (walk_end g v forth) edges f.vertex f.here found.0 found.1 found.2)
    ]
