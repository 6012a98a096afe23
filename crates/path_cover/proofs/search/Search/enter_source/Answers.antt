use Rattle.std.proofs.Common.{◌≡◌, ℕ, Bool, false, true, None, sym, subst, ◌∙◌, arith}
use Rattle.std.proofs.lemmas.Bool.{not_from_false}
use Rattle.std.proofs.lemmas.Result.{on_ok_weaker}
use Rattle.decomposition.specs.Graph.{is_sink}
use Rattle.decomposition.proofs.Flows.{tail-no_sink}
use Rattle.dag_net.specs.Marks.{is_set}
use Rattle.path_cover.specs.Search.{Enters}
use Rattle.path_cover.proofs.Searching.{IsEntered, IsEntered-from}
use Rattle.path_cover.proofs.search.Search.enter_source.Goals as goal
use Rattle.path_cover.proofs.search.Search.enter_source.Goals.{After-enter}

pub enter-requires : goal.enter-requires
enter-requires c =
    let count = (c.requires.begun (λ (e : ℕ). false) (λ (e : ℕ). 0)).count in
    omega (arith, count, c.tail-v.ensures.vertex, c.args.self.now.marked.ok.0)

entered : (c : After-enter) → Enters c.args.self.now.entries.items c.args.self.now.marked.items (record { vertex = c.tail-v.result; way = None }) c.enter.new.self.entries.items c.enter.new.self.marked.items
    → (needed : ℕ → Bool) (flow : ℕ → ℕ)
    → IsEntered c.args.net.now needed flow c.args.self.now.entries.items c.args.self.now.marked.items (record { vertex = c.tail-v.result; way = None }) c.enter.new.self.entries.items c.enter.new.self.marked.items
entered c enters needed flow =
    let g = c.args.net.now in
    let no_sink = subst (λ v. is_sink g v ≡ false) (sym c.tail-v.ensures.tail) (tail-no_sink g c.args.e c.requires.edge) in
    IsEntered-from g needed flow c.args.self.now.entries.items c.args.self.now.marked.items (record { vertex = c.tail-v.result; way = None }) c.enter.new.self.entries.items c.enter.new.self.marked.items
    (c.requires.begun needed flow) c.tail-v.ensures.vertex (sym c.is_source.ensures ∙ c.if-is_source.true, not_from_false _ no_sink) enters

pub returns-then-is_source-clause-begun : goal.returns-then-is_source-clause-begun
returns-then-is_source-clause-begun c =
    let after = (goal.at.returns-then-is_source-clause-begun c).After-enter in
    on_ok_weaker c.enter.result (λ enters needed flow. (entered after enters needed flow).search) c.enter.ensures

pub returns-then-is_source-clause-grows : goal.returns-then-is_source-clause-grows
returns-then-is_source-clause-grows c =
    let after = (goal.at.returns-then-is_source-clause-grows c).After-enter in
    on_ok_weaker c.enter.result (λ enters. (entered after enters (λ (e : ℕ). false) (λ (e : ℕ). 0)).grows) c.enter.ensures

pub returns-then-is_source-clause-source : goal.returns-then-is_source-clause-source
returns-then-is_source-clause-source c =
    let after = (goal.at.returns-then-is_source-clause-source c).After-enter in
    on_ok_weaker c.enter.result (λ enters source. subst (λ v. is_set c.enter.new.self.marked.items v ≡ true) c.tail-v.ensures.tail (entered after enters (λ (e : ℕ). false) (λ (e : ℕ). 0)).there) c.enter.ensures
