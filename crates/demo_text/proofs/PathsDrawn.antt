-- One more path that is drawn, and one more block that is written.
use Rattle.std.proofs.Common.{◌≡◌, ℕ, zero, suc, ◌+◌, List, [], ◌∷◌, ◌++◌, length, refl, sym, ap, ◌∙◌, append_assoc, arith}
use Rattle.std.specs.Prelude.{codes}
use Rattle.std.proofs.lemmas.Grind.{flat_map-append}
use Rattle.demo_text.specs.declared.path.DemoPath.{DemoPath}
use Rattle.demo_text.specs.Demo.{next_state, drawn, path_after, after_path, paths_after, after_paths, block_lines, lines_from, text_of}

paths_after-more : (n x : ℕ) → paths_after (suc n) x ≡ paths_after n x ++ path_after (after_paths n x) ∷ []
paths_after-more zero x = refl
paths_after-more (suc n) x = ap (λ ps. path_after x ∷ ps) (paths_after-more n (after_path x))

after_paths-more : (n x : ℕ) → after_paths (suc n) x ≡ after_path (after_paths n x)
after_paths-more zero x = refl
after_paths-more (suc n) x = after_paths-more n (after_path x)

pub paths_more : (n x : ℕ) (paths : List DemoPath) (y : ℕ) (path : DemoPath) → paths ≡ paths_after n x → y ≡ after_paths n x → path ≡ path_after y
    → paths ++ path ∷ [] ≡ paths_after (n + 1) x
paths_more n x paths y path is state next =
    let more : suc n ≡ n + 1 = omega arith in
    ap (λ ps. ps ++ path ∷ []) is ∙ ap (λ p. paths_after n x ++ p ∷ []) (next ∙ ap path_after state) ∙ sym (paths_after-more n x) ∙ ap (λ k. paths_after k x) more

pub state_more : (n x y : ℕ) → y ≡ after_paths n x → after_path y ≡ after_paths (n + 1) x
state_more n x y state =
    let more : suc n ≡ n + 1 = omega arith in
    ap after_path state ∙ sym (after_paths-more n x) ∙ ap (λ k. after_paths k x) more

pub length-paths_after : (n x : ℕ) → length (paths_after n x) ≡ n
length-paths_after zero x = refl
length-paths_after (suc n) x = ap suc (length-paths_after n (after_path x))

-- the text begins with nothing written
pub text_begins : (n x seed : ℕ) (text : List ℕ) → text ≡ [] → x ≡ seed → text ++ text_of (lines_from n 1 x) ≡ text_of (lines_from n 1 seed)
text_begins n x seed text none same = ap (λ t. t ++ text_of (lines_from n 1 x)) none ∙ ap (λ y. text_of (lines_from n 1 y)) same

-- one more block
pub text_more : (n m block next x y count z : ℕ) (paths : List DemoPath) (old new all : List ℕ) → n ≡ suc m → next ≡ block + 1
    → y ≡ next_state x → count ≡ 2 + drawn 4 y → paths ≡ paths_after count y → z ≡ after_paths count y
    → new ≡ old ++ text_of (block_lines block paths) → old ++ text_of (lines_from n block x) ≡ all → new ++ text_of (lines_from m next z) ≡ all
text_more n m block next x y count z paths old new all one after state number drew last wrote before =
    let same_count : count ≡ 2 + drawn 4 (next_state x) = number ∙ ap (λ s. 2 + drawn 4 s) state in
    let lines : paths_after count y ≡ paths_after (2 + drawn 4 (next_state x)) (next_state x) = (λ i. paths_after (same_count i) (state i)) in
    let state_is : after_paths count y ≡ after_paths (2 + drawn 4 (next_state x)) (next_state x) = (λ i. after_paths (same_count i) (state i)) in
    let rest = lines_from m (block + 1) (after_paths (2 + drawn 4 (next_state x)) (next_state x)) in
    (λ i. wrote i ++ text_of (lines_from m (after i) (last i)))
    ∙ append_assoc old (text_of (block_lines block paths)) (text_of (lines_from m (block + 1) (after_paths count y)))
    ∙ (λ i. old ++ (text_of (block_lines block ((drew ∙ lines) i)) ++ text_of (lines_from m (block + 1) (state_is i))))
    ∙ ap (λ t. old ++ t) (sym (flat_map-append (λ line. line ++ codes "\n") (block_lines block (paths_after (2 + drawn 4 (next_state x)) (next_state x))) rest))
    ∙ ap (λ k. old ++ text_of (lines_from k block x)) (sym one)
    ∙ before
