-- From what the reads of an input took to what is said of it where the inputs tell.
use Rattle.std.proofs.Common.{◌≡◌, ◌<◌, ◌≤◌, ◌^◌, ◌-◌, ℕ, List, [], ◌++◌, length, take, drop, Option, Some, None, sym, ap, subst, ◌∙◌, refl, arith, length-append}
use Rattle.std.specs.Prelude.{is_some, IfSome}
use Rattle.std.specs.Str.{bytes_eq}
use Rattle.std.proofs.lemmas.Bool.{cond-true}
use Rattle.std.proofs.lemmas.Option.{none-some}
use Rattle.std.proofs.lemmas.Slice.Eq.{bytes_eq-Decides}
use Rattle.std.proofs.Math.Seq.{take-append_seam, drop-nil}
use Rattle.flow_io.specs.Outside.{Selected, Starts, Unselected, Took, Puts, after_read, skipped}
use Rattle.program_runs.specs.Inputs.{Seen, WhereSeen, left_of, taken, bytes_without, TakesFirst, IsAtEnd}

-- the named input is the selected one, with this rest of what it holds
abbrev pub seen_at : List ℕ → List ℕ → List ℕ → Seen
seen_at file bytes rest = record { held = bytes ++ rest; last = Some (record { name = file; left = rest }) }

pub left-at : (file bytes rest : List ℕ) → left_of file (seen_at file bytes rest).last ≡ Some rest
left-at file bytes rest = cond-true (bytes_eq file file) _ _ ((bytes_eq-Decides file file).1 refl)

pub taken-at : (file bytes rest : List ℕ) → taken file (seen_at file bytes rest) ≡ bytes
taken-at file bytes rest =
    let count : length (bytes ++ rest) - length rest ≡ length bytes = omega (arith, length-append bytes rest) in
    ap (bytes_without (bytes ++ rest)) (left-at file bytes rest) ∙ ap (λ k. take k (bytes ++ rest)) count ∙ take-append_seam bytes rest

-- the bytes taken are the first ones
pub takes-first_at : (file bytes rest : List ℕ) → length bytes ≤ 2 ^ 30 → TakesFirst file (seen_at file bytes rest)
takes-first_at file bytes rest most = record {
  most = subst (λ b. length b ≤ 2 ^ 30) (sym (taken-at file bytes rest)) most;
  rest = subst (λ o. IfSome o (λ left. bytes ++ rest ≡ taken file (seen_at file bytes rest) ++ left)) (sym (left-at file bytes rest))
      (ap (λ b. b ++ rest) (sym (taken-at file bytes rest)));
}

-- what holds of every such input holds of what a run that took these bytes tells
pub where_took : (P : Seen → Type 0) (file : List ℕ) (held : Option (List ℕ)) (first last : Option (Option Selected)) (bytes : List ℕ) →
    Starts file held first → Took first last bytes → ((rest : List ℕ) → (IsAtEnd last → rest ≡ []) → P (seen_at file bytes rest)) → WhereSeen held last P
where_took P file None first last bytes starts took holds = tt
where_took P file (Some whole) first None bytes starts took holds = tt
where_took P file (Some whole) None (Some last) bytes starts took holds = absurd (none-some _ (sym took.left))
where_took P file (Some whole) (Some None) (Some last) bytes starts took holds = absurd starts
where_took P file (Some whole) (Some (Some s)) (Some last) bytes starts took holds =
    let rest : List ℕ = drop (length bytes) s.left in
    let named : s.name ≡ file = starts.is_asked in
    let all : whole ≡ bytes ++ rest = sym starts.whole ∙ took.first in
    let ends : last ≡ Some (skipped (length bytes) s) = cc (took.left) in
    let At : List ℕ → Type 0 = λ name. P (record { held = bytes ++ rest; last = Some (record { name = name; left = rest }) }) in
    let here : At file = holds rest (λ end. subst (λ l. IsAtEnd (Some l)) ends end) in
    let named_so : At s.name = subst At (sym named) here in
    let held_so : P (record { held = whole; last = Some (skipped (length bytes) s) }) =
    subst (λ h. P (record { held = h; last = Some (skipped (length bytes) s) })) (sym all) named_so in
    subst (λ l. P (record { held = whole; last = l })) (sym ends) held_so

-- the same of a run that selected nothing
pub where_none : (P : Seen → Type 0) (held : Option (List ℕ)) (last : Option (Option Selected)) → Unselected last → ((whole : List ℕ) → P (record { held = whole; last = None })) → WhereSeen held last P
where_none P None last none holds = tt
where_none P (Some whole) None none holds = tt
where_none P (Some whole) (Some last) none holds = subst (λ l. P (record { held = whole; last = l })) (sym none) (holds whole)

-- whether the selection is told stays
pub told-same : (first last : Option (Option Selected)) (bytes : List ℕ) → Took first last bytes → is_some last ≡ is_some first
told-same None last bytes took = ap is_some took.left
told-same (Some None) last bytes took = ap is_some took.left
told-same (Some (Some s)) last bytes took = ap is_some took.left

-- a read of nothing into some room finds the end
pub at-end : (told after : Option (Option Selected)) (into : List ℕ) (n : ℕ) → 0 < length into → n ≡ 0 → Puts told n into → after ≡ after_read n told → IsAtEnd after
at-end None after into n room none puts is = subst IsAtEnd (sym is) tt
at-end (Some None) after into n room none puts is = subst IsAtEnd (sym is) tt
at-end (Some (Some s)) after into n room none puts is =
    let gone : drop n s.left ≡ [] = ap (drop n) (puts.end room none) ∙ drop-nil n in
    subst IsAtEnd (sym is) gone
