-- How many boxes the choices have still to give, and that their edges are edges of the net.
use Rattle.std.proofs.Common.{◌≡◌, ℕ, ◌+◌, ◌*◌, ◌<◌, ◌≤◌, ◌<◌, List, [], ◌∷◌, ◌++◌, length, get_or, set, take, refl, sym, ap, ◌∙◌, subst, arith, length-append, length-set}
use Rattle.std.specs.Prelude.{All, reverse, sum_by}
use Rattle.std.proofs.lemmas.List.{length-map, reverse-reverse}
use Rattle.std.proofs.lemmas.List.Sums.{sum_by-cons, sum_by_push}
use Rattle.std.proofs.lemmas.List.Elements.{All-append, All-nil, All-cons, All-head, All-tail, All-get_or}
use Rattle.decomposition.specs.Graph.{Graph}
use Rattle.decomposition.specs.Boxes.{Slot, slot_at}
use Rattle.decomposition.specs.Tokens.{with_edge}
use Rattle.decomposition.specs.Reach.{IsBegun}
use Rattle.decomposition.specs.declared.Range.{Range}
use Rattle.refute_tree.specs.declared.choice.Choice.{Choice}
use Rattle.refute_tree.specs.declared.choice.Choice.TheVariants.{Step, Lower, Upper}
use Rattle.refute_tree.specs.Choices.{later, later_of, before, to_come, waiting, coming, HasEdge, slot_of, AreWithin, links_of}
use Rattle.refute_tree.specs.declared.one_box.OneBox.{OneBox}
use Rattle.refute_tree.specs.OneBox.{box_of, place_of, IsBoxBegun, IsOneBox}
use Rattle.refute_tree.proofs.NextEdges.{later_is, next_inside}
use Rattle.refute_tree.proofs.Placing.{get_or_any, box_of-link, box_of-unlink, box_of-hi, box_of-lo}
use Rattle.refute_tree.proofs.Leading.{reverse-cons, box-length, box-begun_less, box-begun_ranged}

-- the box of ranges and the links of choices
abbrev pub led : List Range → List Choice → List Slot
led rs cs = box_of rs (reverse (links_of cs))

-- so many boxes are to come, and each edge is one of the net
pub record AreCounted (g : Graph) (b : List Slot) (cs : List Choice) : Type 0 where
  pub count : length (waiting g b cs) ≡ sum_by (coming g) cs
  pub edges : All (HasEdge g) cs

-- one choice more
one_more : (g : Graph) (b : List Slot) (c : Choice) (cs : List Choice) → length (to_come g (before b c) c) ≡ coming g c → HasEdge g c → AreCounted g (before b c) cs → AreCounted g b (c ∷ cs)
one_more g b c cs here edge rest = record {
  count = length-append (to_come g (before b c) c) (waiting g (before b c) cs) ∙ omega (arith, here, rest.count, sum_by-cons (coming g) c cs);
  edges = All-cons (HasEdge g) c cs edge rest.edges;
}

pub counted : (g : Graph) (cs : List Choice) (rs : List Range) → AreWithin (length rs) cs → IsBoxBegun g (led rs cs) → AreCounted g (led rs cs) cs
counted g [] rs within begun = record { count = refl; edges = All-nil (HasEdge g) }
counted g (Step k e ∷ cs) rs within begun =
    let inside : k < length rs = All-head (λ c. slot_of c < length rs) (Step k e) cs within in
    let rest = All-tail (λ c. slot_of c < length rs) (Step k e) cs within in
    let links = reverse (links_of cs) in
    let longer : led rs (Step k e ∷ cs) ≡ box_of rs (links ++ (k, e) ∷ []) = ap (box_of rs) (reverse-cons (k, e) (links_of cs)) in
    let was : led rs (Step k e ∷ cs) ≡ with_edge (led rs cs) k e = longer ∙ box_of-link rs links k e inside in
    let back : before (led rs (Step k e ∷ cs)) (Step k e) ≡ led rs cs = ap (λ b. before b (Step k e)) longer ∙ box_of-unlink rs links k e inside in
    let in_box : k < length (led rs cs) = omega (arith, inside, box-length rs links) in
    let less = box-begun_less g (led rs cs) k e in_box (subst (IsBoxBegun g) was begun) in
    let walk = (slot_at (led rs cs) k).walk in
    let own : IsBegun g walk = All-get_or (λ s. IsBegun g s.walk) (led rs cs) k _ in_box less.0 in
    let here : length (to_come g (led rs cs) (Step k e)) ≡ length (later_of g e) = length-map (later g walk e) (λ f. with_edge (led rs cs) k f) ∙ ap length (later_is g walk e own less.1) in
    one_more g (led rs (Step k e ∷ cs)) (Step k e) cs (ap (λ b. length (to_come g b (Step k e))) back ∙ here) (next_inside g walk e less.1)
    (subst (λ b. AreCounted g b cs) (sym back) (counted g cs rs rest less.0))
counted g (Lower k lo hi ∷ cs) rs within begun =
    let inside : k < length rs = All-head (λ c. slot_of c < length rs) (Lower k lo hi) cs within in
    let rest = All-tail (λ c. slot_of c < length rs) (Lower k lo hi) cs within in
    let r = get_or rs k (record { lo = 0; hi = 0 }) in
    let q : Range = record r { hi = hi } in
    let back : before (led rs cs) (Lower k lo hi) ≡ led (set rs k q) cs = sym (box_of-hi rs (reverse (links_of cs)) k hi r inside (get_or_any rs k _ r inside)) in
    one_more g (led rs (Lower k lo hi ∷ cs)) (Lower k lo hi) cs refl tt
    (subst (λ b. AreCounted g b cs) (sym back)
    (counted g cs (set rs k q) (subst (λ n. AreWithin n cs) (sym (length-set rs k q)) rest) (box-begun_ranged g rs (reverse (links_of cs)) k q inside begun)))
counted g (Upper k lo ∷ cs) rs within begun =
    let inside : k < length rs = All-head (λ c. slot_of c < length rs) (Upper k lo) cs within in
    let rest = All-tail (λ c. slot_of c < length rs) (Upper k lo) cs within in
    let r = get_or rs k (record { lo = 0; hi = 0 }) in
    let q : Range = record r { lo = lo } in
    let back : before (led rs cs) (Upper k lo) ≡ led (set rs k q) cs = sym (box_of-lo rs (reverse (links_of cs)) k lo r inside (get_or_any rs k _ r inside)) in
    one_more g (led rs (Upper k lo ∷ cs)) (Upper k lo) cs refl tt
    (subst (λ b. AreCounted g b cs) (sym back)
    (counted g cs (set rs k q) (subst (λ n. AreWithin n cs) (sym (length-set rs k q)) rest) (box-begun_ranged g rs (reverse (links_of cs)) k q inside begun)))

-- the first k of some choices are counted, besides one
pub record IsCountedUpTo (g : Graph) (cs : List Choice) (k count : ℕ) : Type 0 where
  pub counted : count ≡ 1 + sum_by (coming g) (take k cs)
  pub few : count ≤ 4096 * k + 1

-- ---- the other way round

sum-reversed : (f : Choice → ℕ) (cs : List Choice) → sum_by f (reverse cs) ≡ sum_by f cs
sum-reversed f [] = refl
sum-reversed f (c ∷ cs) = ap (sum_by f) (reverse-cons c cs) ∙ sum_by_push f (reverse cs) c ∙ omega (arith, sum-reversed f cs, sum_by-cons f c cs)

all-reversed : (P : Choice → Type 0) (cs : List Choice) → All P cs → All P (reverse cs)
all-reversed P [] all = All-nil P
all-reversed P (c ∷ cs) all =
    subst (All P) (sym (reverse-cons c cs)) (All-append P (reverse cs) (c ∷ []) (all-reversed P cs (All-tail P c cs all)) (All-cons P c [] (All-head P c cs all) (All-nil P)))

-- the choices of a box, in the order in which they were made
pub record IsCounted (g : Graph) (a : OneBox) : Type 0 where
  pub count : length (waiting g (place_of a).box (place_of a).choices) ≡ sum_by (coming g) a.choices.items
  pub edges : All (HasEdge g) a.choices.items

pub counted_all : (g : Graph) (a : OneBox) → IsOneBox g a → IsCounted g a
counted_all g a kept =
    let rs = a.ranges.items in
    let cs = reverse a.choices.items in
    let is : (place_of a).box ≡ led rs cs = ap (box_of rs) kept.links in
    let all = counted g cs rs kept.within (subst (IsBoxBegun g) is kept.begun) in
    record {
      count = ap (λ b. length (waiting g b cs)) is ∙ all.count ∙ sum-reversed (coming g) a.choices.items;
      edges = subst (All (HasEdge g)) (reverse-reverse a.choices.items) (all-reversed (HasEdge g) cs all.edges);
    }
