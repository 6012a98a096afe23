-- Laws on booked paths, each the contract of a function.
use Rattle.std.specs.Prelude.{◌≡◌, ℕ, List, IsTrue}
use Rattle.std.specs.List.{list_all}
use Rattle.decomposition.specs.Graph.{Graph, is_run}
use Rattle.decomposition.specs.FirstAnswer.{IsBooked}
use Rattle.greedy_paths.specs.Booking.{AreBooked}
use Rattle.greedy_paths.specs.Built.{IsBuiltOn, IsLeastFirst}

-- runs book one list of paths, for all flows with the same numbers
abbrev pub BookedPathsAreOneList : Type 0
BookedPathsAreOneList =
    (g : Graph) (f h : ℕ → ℕ) (rules a b : List (List ℕ)) → ((e : ℕ) → f e ≡ h e) → IsTrue (list_all (is_run g) rules) →
    IsBooked g f rules a → IsBooked g h rules b → a ≡ b

-- what is built on the booked paths of runs has no more entries than any first answer
abbrev pub BuiltOnBookedIsFirst : Type 0
BuiltOnBookedIsFirst =
    (g : Graph) (flow h : ℕ → ℕ) (rules : List (List ℕ)) (booked a : List (List ℕ × ℕ)) → ((e : ℕ) → flow e ≡ h e) → IsTrue (list_all (is_run g) rules) →
    AreBooked g h rules booked → IsBuiltOn g flow booked a → IsLeastFirst g flow rules a
