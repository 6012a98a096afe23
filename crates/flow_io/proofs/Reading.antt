-- Laws on what is taken of the selected input by one read after another.
use Rattle.std.specs.Prelude.{◌≡◌, ℕ, ◌+◌, ◌≤◌, List, [], ◌++◌, length, take, drop, Option, Some, None, refl}
use Rattle.std.proofs.Common.{ap, sym, ◌∙◌, subst, arith, append_assoc, length-append}
use Rattle.std.proofs.lemmas.List.{drop-drop, take-append-drop, length-take-le}
use Rattle.flow_io.specs.Outside.{Selected, Puts, after_read, AreFirst, Took}

-- a read of no bytes leaves all
pub after_read-nothing : (told : Option (Option Selected)) → told ≡ after_read 0 told
after_read-nothing None = refl
after_read-nothing (Some None) = refl
after_read-nothing (Some (Some s)) = refl

-- two reads in a row are one
pub after_read-then : (a n : ℕ) (told : Option (Option Selected)) → after_read n (after_read a told) ≡ after_read (a + n) told
after_read-then a n None = refl
after_read-then a n (Some None) = refl
after_read-then a n (Some (Some s)) =
    ap (λ left. let next : Selected = record { name = s.name; left = left } in Some (Some next)) (drop-drop n a s.left)

AreFirst-nothing : (told : Option (Option Selected)) → AreFirst told []
AreFirst-nothing None = tt
AreFirst-nothing (Some None) = refl
AreFirst-nothing (Some (Some s)) = refl

length-more : (bytes into : List ℕ) (n : ℕ) → n ≤ length into → length (bytes ++ take n into) ≡ length bytes + n
length-more bytes into n within = omega (arith, length-append bytes (take n into), length-take-le n into within)

AreFirst-more : (told : Option (Option Selected)) (bytes into : List ℕ) (n : ℕ) → n ≤ length into → AreFirst told bytes →
    Puts (after_read (length bytes) told) n into → AreFirst told (bytes ++ take n into)
AreFirst-more None bytes into n within first puts = tt
AreFirst-more (Some None) bytes into n within first puts =
    ap (λ front. front ++ take n into) first ∙ ap (λ k. take k into) puts
AreFirst-more (Some (Some s)) bytes into n within first puts =
    let rest : List ℕ = drop (length bytes) s.left in
    let end : drop n rest ≡ drop (length (bytes ++ take n into)) s.left =
    drop-drop n (length bytes) s.left ∙ ap (λ k. drop k s.left) (sym (length-more bytes into n within)) in
    first
    ∙ ap (λ back. bytes ++ back) (sym (take-append-drop n rest))
    ∙ sym (append_assoc bytes (take n rest) (drop n rest))
    ∙ ap (λ front. (bytes ++ front) ++ drop n rest) (sym puts.bytes)
    ∙ ap (λ back. (bytes ++ take n into) ++ back) end

-- before the first read
pub Took-nothing : (told : Option (Option Selected)) → Took told told []
Took-nothing told = record { first = AreFirst-nothing told; left = after_read-nothing told }

-- one read more
pub Took-more : (told now after : Option (Option Selected)) (bytes into : List ℕ) (n : ℕ) → Took told now bytes →
    n ≤ length into → Puts now n into → after ≡ after_read n now → Took told after (bytes ++ take n into)
Took-more told now after bytes into n took within puts left =
    record {
      first = AreFirst-more told bytes into n within took.first (subst (λ x. Puts x n into) took.left puts);
      left =
          left ∙ ap (after_read n) took.left ∙ after_read-then (length bytes) n told
          ∙ ap (λ k. after_read k told) (sym (length-more bytes into n within));
    }
