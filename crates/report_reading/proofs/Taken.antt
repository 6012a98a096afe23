-- What is known of the parts of a line that was taken.
use Rattle.std.proofs.Common.{◌≡◌, Bool, true, false, cond, refl, ap, inl, inr}
use Rattle.std.specs.Prelude.{Option, Some, None, Result, Ok, Err, ◌⊎◌}
use Rattle.std.specs.Option.{option_map, option_and_then}
use Rattle.report_reading.specs.declared.read_fault.ReadWhy.{ReadWhy}
use Rattle.report_reading.specs.LineSteps.{must, given, given_ok}

pub must-taken : {X : Type 0} (why : ReadWhy) (test : Bool) (rest : Result X ReadWhy) (x : X) → must why test rest ≡ Ok x → (test ≡ true) × (rest ≡ Ok x)
must-taken why true rest x h = (refl, h)
must-taken why false rest x h = absurd (cc)

pub given-taken : {X Y : Type 0} (why : ReadWhy) (o : Option X) (rest : X → Result Y ReadWhy) (y : Y) → given why o rest ≡ Ok y →
    (x : X) × (o ≡ Some x) × (rest x ≡ Ok y)
given-taken why None rest y h = absurd (cc)
given-taken why (Some x) rest y h = (x, refl, h)

pub given_ok-taken : {X Y : Type 0} (r : Result X ReadWhy) (rest : X → Result Y ReadWhy) (y : Y) → given_ok r rest ≡ Ok y →
    (x : X) × (r ≡ Ok x) × (rest x ≡ Ok y)
given_ok-taken (Err why) rest y h = absurd (cc)
given_ok-taken (Ok x) rest y h = (x, refl, h)

pub cond-taken : {X : Type 0} (b : Bool) (r s : Result X ReadWhy) (x : X) → cond b r s ≡ Ok x → ((b ≡ true) × (r ≡ Ok x)) ⊎ ((b ≡ false) × (s ≡ Ok x))
cond-taken true r s x h = inl (refl, h)
cond-taken false r s x h = inr (refl, h)

pub cond-some : {X : Type 0} (b : Bool) (x y : X) → cond b (Some x) None ≡ Some y → (b ≡ true) × (x ≡ y)
cond-some true x y h = (refl, cc)
cond-some false x y h = absurd (cc)

pub map-some : {X Y : Type 0} (f : X → Y) (o : Option X) (y : Y) → option_map f o ≡ Some y → (x : X) × (o ≡ Some x) × (f x ≡ y)
map-some f None y h = absurd (cc)
map-some f (Some x) y h = (x, refl, cc)

pub and_then-some : {X Y : Type 0} (f : X → Option Y) (o : Option X) (y : Y) → option_and_then f o ≡ Some y → (x : X) × (o ≡ Some x) × (f x ≡ Some y)
and_then-some f None y h = absurd (cc)
and_then-some f (Some x) y h = (x, refl, h)

-- what a test and a part make of a line
pub must-true : {X : Type 0} (why : ReadWhy) (test : Bool) (rest : Result X ReadWhy) → test ≡ true → must why test rest ≡ rest
must-true why true rest e = refl
must-true why false rest e = absurd (cc)

pub given-none : {X Y : Type 0} (why : ReadWhy) (o : Option X) (rest : X → Result Y ReadWhy) → o ≡ None → given why o rest ≡ Err why
given-none why None rest e = refl
given-none why (Some x) rest e = absurd (cc)

pub given-some : {X Y : Type 0} (why : ReadWhy) (o : Option X) (x : X) (rest : X → Result Y ReadWhy) → o ≡ Some x → given why o rest ≡ rest x
given-some why None x rest e = absurd (cc)
given-some why (Some y) x rest e = ap rest (cc)

pub must-false : {X : Type 0} (why : ReadWhy) (test : Bool) (rest : Result X ReadWhy) → test ≡ false → must why test rest ≡ Err why
must-false why true rest e = absurd (cc)
must-false why false rest e = refl
