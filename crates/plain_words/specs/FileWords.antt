-- Words of the command line that name at most an input.
use Rattle.std.specs.Prelude.{ℕ, ◌==◌, List, [], ◌∷◌, Bool, false, not, ◌||◌, if◌then◌else◌, Option, Some, None, codes, map, String, string_bytes, bytes_eq}
use Rattle.std.specs.declared.alloc.Global.{Global}

-- the words as bytes
abbrev pub texts : List (String Global) → List (List ℕ)
texts words = map string_bytes words

-- whether a word begins with `-`
abbrev pub begins_with_dash : List ℕ → Bool
begins_with_dash [] = false
begins_with_dash (b ∷ bytes) = b == 45

-- whether a word is the name of an input: it is `-`, or does not begin with `-`
abbrev pub is_file : List ℕ → Bool
is_file word = bytes_eq word (codes "-") || not (begins_with_dash word)

-- the input that words of the form `[FILE]` name: `-` where there is no word
abbrev pub file_in : List (List ℕ) → Option (List ℕ)
file_in [] = Some (codes "-")
file_in (word ∷ []) = if is_file word then Some word else None
file_in (word ∷ other ∷ words) = None
