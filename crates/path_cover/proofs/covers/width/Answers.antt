use Rattle.std.proofs.Common.{◌≡◌, ◌<◌, ◌&&◌, ℕ, Bool, List, slice_index, subst, ◌∙◌, arith}
use Rattle.std.proofs.lemmas.List.{with_items_is}
use Rattle.decomposition.specs.Graph.{edge_count}
use Rattle.path_cover.specs.Cut.{leaves, AreThose}
use Rattle.path_cover.specs.Load.{load}
use Rattle.dag_net.specs.Marks.{is_set}
use Rattle.path_cover.proofs.Loads.{IsPathCover-load}
use Rattle.path_cover.proofs.Crossing.{IsAntichainOf-leaving, leaving-count}
use Rattle.path_cover.proofs.covers.width.Goals as goal
use Rattle.path_cover.proofs.covers.width.Goals.{In_ok-antichain, In_ok-cover}

-- the paths make up the lessened flow
loads : (c : In_ok-cover) → (e : ℕ) → e < edge_count c.args.net.now → load c.in_ok-cover.cover e ≡ slice_index c.lessen.new.flow e
loads c =
    let items = with_items_is c.in_ok-flow.flow c.lessen.new.flow (omega arith) in
    subst (λ flow. (e : ℕ) → e < edge_count c.args.net.now → load c.in_ok-cover.cover e ≡ slice_index flow e) (c.deref-2.ensures.value ∙ items) c.in_ok-cover.ensures.load

-- the antichain has the needed edges that leave the marked vertices
those : (c : In_ok-antichain) → AreThose (λ e. is_set c.args.needed.now e && leaves c.args.net.now (is_set c.in_ok-marked.marked.items) e) (edge_count c.args.net.now) c.in_ok-antichain.antichain
those c =
    subst (λ (marked : List Bool). AreThose (λ e. is_set c.args.needed.now e && leaves c.args.net.now (is_set marked) e) (edge_count c.args.net.now) c.in_ok-antichain.antichain)
    c.deref.ensures.value c.in_ok-antichain.ensures

pub returns-clause-cover : goal.returns-clause-cover
returns-clause-cover c =
    IsPathCover-load c.args.net.now (is_set c.args.needed.now) (slice_index c.lessen.new.flow) c.in_ok-cover.cover c.in_ok-cover.ensures.paths
    (loads (goal.at.returns-clause-cover c).In_ok-cover) c.in_ok-marked.ensures.carrying.enough

pub returns-clause-antichain : goal.returns-clause-antichain
returns-clause-antichain c =
    IsAntichainOf-leaving c.args.net.now (is_set c.args.needed.now) (slice_index c.lessen.new.flow) (is_set c.in_ok-marked.marked.items) c.in_ok-marked.ensures.closed c.in_ok-antichain.antichain
    (those (goal.at.returns-clause-antichain c).In_ok-antichain)

pub returns-clause-equal : goal.returns-clause-equal
returns-clause-equal c =
    leaving-count c.args.net.now (is_set c.args.needed.now) (slice_index c.lessen.new.flow) (is_set c.in_ok-marked.marked.items) c.in_ok-marked.ensures.closed c.in_ok-cover.cover c.in_ok-antichain.antichain
    c.in_ok-cover.ensures.paths (loads (goal.at.returns-clause-equal c).In_ok-cover) c.in_ok-marked.ensures.carrying.enough (those (goal.at.returns-clause-equal c).In_ok-antichain)
