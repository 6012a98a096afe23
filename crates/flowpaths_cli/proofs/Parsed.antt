-- What a parse by the command gives: no fault and the values where it takes the words, and else a fault, want of memory aside.
use Rattle.std.proofs.Common.{◌≡◌, ◌∙◌, List, [], true, Option, Result, Err, IsErrAnd, refl, sym, ap, subst, ⊎_elim}
use Rattle.std.specs.Borrow.{Bor}
use Rattle.std.specs.Option.{option_copied}
use Rattle.clap.specs.Matches.{found_of, first_value}
use Rattle.clap.specs.Words.{App, Text, HasKind, HasMatchesOf, IsAmong, fault_of, first_of, is_simple_and_free, kind_of, matches_of}
use Rattle.clap.specs.declared.error.Error.{Error}
use Rattle.clap.specs.declared.parser.matches.ArgMatches.{ArgMatches}
use Rattle.clap.proofs.WalkLemmas.{first_value-rows}
use Rattle.flowpaths_cli.specs.Command.{command}
use Rattle.flowpaths_cli.specs.Faults.{fault_by}
use Rattle.flowpaths_cli.specs.Words.{faults_of}
use Rattle.flowpaths_cli.specs.declared.words.WordFault.{WordFault}
use Rattle.flowpaths_cli.specs.declared.words.WordFault.TheVariants.{Words, Memory}

-- words that are taken have no fault
pub no_fault : (app : App) (words : List Text) → app ≡ command → (is_simple_and_free app ≡ true → fault_of app words ≡ []) → faults_of words ≡ []
unfolding faults_of
no_fault app words is none =
    let P : App → Type 0 = λ a. is_simple_and_free a ≡ true → fault_of a words ≡ [] in
    subst P is none refl

abbrev is_memory : WordFault → Type 0
is_memory Words = ⊥
is_memory Memory = Unit {0}

-- a fault of the words is one of theirs
pub some_fault : {X : Type 0} (app : App) (words : List Text) (e : Error) (r : Result X WordFault) → app ≡ command
    → (is_simple_and_free app ≡ true → HasKind (fault_of app words) e) → IsErrAnd r (λ fault. fault ≡ fault_by (kind_of e))
    → r ≡ Err Words → faults_of words ≡ [] → ⊥
unfolding faults_of
some_fault app words e r is has comes cause none =
    let P : App → Type 0 = λ a. is_simple_and_free a ≡ true → HasKind (fault_of a words) e in
    let of_words : Words ≡ fault_by (kind_of e) = subst (λ o. IsErrAnd o (λ fault. fault ≡ fault_by (kind_of e))) cause comes in
    ⊎_elim
    (λ memory. subst is_memory (sym (of_words ∙ ap fault_by memory)) tt)
    (λ among. subst (IsAmong (kind_of e)) none among)
    (subst P is has refl)

-- what is read of an argument is its value among the matches of the command
pub value_read : (app : App) (words : List Text) (m : ArgMatches) (id : Text) (got : Option (Bor Text)) → app ≡ command → HasMatchesOf app words m
    → option_copied got ≡ first_value (found_of m) id → option_copied got ≡ first_of id (matches_of command words)
value_read app words m id got is has read =
    let P : App → Type 0 = λ a. HasMatchesOf a words m in
    read ∙ first_value-rows (found_of m) id ∙ ap (first_of id) (subst P is has refl).0
