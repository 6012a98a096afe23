-- What calls in a row put, and what one leaves that failed.
use Rattle.std.proofs.Common.{◌≡◌, ℕ, ◌+◌, ◌<◌, List, [], ◌∷◌, ◌++◌, length, take, drop, get_or, Option, sym, ◌∙◌, ap, append_assoc, append-nil, refl, subst, arith, length-append}
use Rattle.std.specs.Prelude.{Result, Ok, Err, OnOk, OnErr, IsErr, flat_map}
use Rattle.std.proofs.lemmas.List.{take-append-drop, take_more, take_at}
use Rattle.std.proofs.lemmas.List.Concat.{flat_map-append}
use Rattle.std.proofs.lemmas.Result.{on_err_weaker}
use Rattle.flow_io.proofs.Adding.{Adds-then}
use Rattle.flow_io.proofs.Causes.{Rose-before}
use Rattle.flow_io.specs.Outside.{Adds, AddsPrefix, HasCause}
use Rattle.flow_io.specs.declared.outside.Fault.{Fault}
use Rattle.path_report.specs.Sending.{PutsText}

-- the calls so far put a text, and none failed
abbrev pub HasPut : {O : Type 0} → List ℕ → (O → Option (List ℕ)) → (O → ℕ) → O → O → List ℕ → List ℕ → Type 0
HasPut text written faults old new held now = PutsText {T = Unit {0}} {E = Fault} text written faults old new held now (Ok tt)

-- a text and then another
pub PutsText-then : {O T U E F : Type 0} {written : O → Option (List ℕ)} {faults : O → ℕ} {a b c : O} {text more held mid now : List ℕ} {x : T} {r : Result U F} →
    PutsText {E = E} text written faults a b held mid (Ok x) → PutsText more written faults b c mid now r → PutsText (text ++ more) written faults a c held now r
PutsText-then {written = written} {faults = faults} {a = a} {b = b} {c = c} {text = text} {more = more} {held = held} {r = r} s t =
    record {
      sent = s.sent ++ t.sent;
      left = t.left;
      all = append_assoc s.sent t.sent t.left ∙ ap (λ x. s.sent ++ x) (t.all ∙ ap (λ h. h ++ more) (sym s.holds)) ∙ sym (append_assoc s.sent s.left more)
          ∙ ap (λ x. x ++ more) s.all ∙ append_assoc held text more;
      adds = Adds-then (written a) (written b) (written c) s.sent t.sent s.adds t.adds;
      holds = t.holds;
      cause = record {
        later = omega (arith, s.cause.later, t.cause.later);
        failed = on_err_weaker r (Rose-before (faults a) (faults b) (faults c) s.cause.later) t.cause.failed;
      };
    }

-- a text failed, and another was to follow
pub PutsText-before : {O T E : Type 0} {written : O → Option (List ℕ)} {faults : O → ℕ} {a b : O} {text held now : List ℕ} {e : E} (more : List ℕ) →
    PutsText {T = T} text written faults a b held now (Err e) → PutsText {T = T} (text ++ more) written faults a b held now (Err e)
PutsText-before {text = text} {held = held} more s =
    record {
      sent = s.sent;
      left = s.left ++ more;
      all = sym (append_assoc s.sent s.left more) ∙ ap (λ x. x ++ more) s.all ∙ append_assoc held text more;
      adds = s.adds;
      holds = tt;
      cause = s.cause;
    }

-- a fault is passed on
pub PutsText-raised : {O T U E F : Type 0} {written : O → Option (List ℕ)} {faults : O → ℕ} {a b : O} {text held mid now : List ℕ} {e : E} {r : Result U F} →
    IsErr r → PutsText {T = T} text written faults a b held mid (Err e) → PutsText text written faults a b held now r
PutsText-raised {r = Ok x} err s = cc
PutsText-raised {r = Err d} err s = record { sent = s.sent; left = s.left; all = s.all; adds = s.adds; holds = tt; cause = record { later = s.cause.later; failed = s.cause.failed } }

-- the same text, said in another way
pub PutsText-equal : {O T E : Type 0} {written : O → Option (List ℕ)} {faults : O → ℕ} {a b : O} {text other held now : List ℕ} {r : Result T E} →
    text ≡ other → PutsText text written faults a b held now r → PutsText other written faults a b held now r
PutsText-equal {written = written} {faults = faults} {a = a} {b = b} {held = held} {now = now} {r = r} e s = subst (λ t. PutsText t written faults a b held now r) e s

-- the bytes that were held were written, and the text behind them
pub PutsText-written : {O T E : Type 0} {written : O → Option (List ℕ)} {faults : O → ℕ} {a b : O} {text held now bytes : List ℕ} (r : Result T E) →
    bytes ≡ held ++ text → OnOk r (Adds (written a) (written b) bytes) → OnErr r (AddsPrefix (written a) (written b) bytes) →
    HasCause (faults a) (faults b) r → now ≡ [] → PutsText text written faults a b held now r
PutsText-written {bytes = bytes} (Ok x) is ok err cause empty =
    record { sent = bytes; left = []; all = append-nil bytes ∙ is; adds = ok; holds = sym empty; cause = cause }
PutsText-written {bytes = bytes} (Err e) is ok (n, within, adds) cause empty =
    record { sent = take n bytes; left = drop n bytes; all = take-append-drop n bytes ∙ is; adds = adds; holds = tt; cause = cause }

-- the text of the first items, and that of one more
flat_map-next : {X : Type 0} (f : X → List ℕ) (xs : List X) (i : ℕ) (d : X) → i < length xs →
    flat_map f (take i xs) ++ f (get_or xs i d) ≡ flat_map f (take (i + 1) xs)
flat_map-next f xs i d there =
    ap (λ y. flat_map f (take i xs) ++ y) (sym (append-nil _)) ∙ sym (flat_map-append f (take i xs) (get_or xs i d ∷ []))
    ∙ ap (flat_map f) (sym (take_more xs i d there))

-- the text of all items, behind that of the first
flat_map-rest : {X : Type 0} (f : X → List ℕ) (xs : List X) (i : ℕ) → flat_map f (take i xs) ++ flat_map f (drop i xs) ≡ flat_map f xs
flat_map-rest f xs i = sym (flat_map-append f (take i xs) (drop i xs)) ∙ ap (flat_map f) (take-append-drop i xs)

-- the step of a loop that puts the text of each item
pub PutsText-next : {O T U E F X : Type 0} {written : O → Option (List ℕ)} {faults : O → ℕ} {a b c : O} {held mid now : List ℕ} {x : T} {r : Result U F}
    (f : X → List ℕ) (xs : List X) (i : ℕ) (d : X) → i < length xs → PutsText {E = E} (flat_map f (take i xs)) written faults a b held mid (Ok x) →
    PutsText (f (get_or xs i d)) written faults b c mid now r → PutsText (flat_map f (take (i + 1) xs)) written faults a c held now r
PutsText-next f xs i d there s t = PutsText-equal (flat_map-next f xs i d there) (PutsText-then s t)

-- the exit from that loop where an item failed
pub PutsText-stopped : {O T U E F X : Type 0} {written : O → Option (List ℕ)} {faults : O → ℕ} {a b c : O} {held mid now : List ℕ} {x : T} {e : F}
    (f : X → List ℕ) (xs : List X) (i : ℕ) (d : X) → i < length xs → PutsText {E = E} (flat_map f (take i xs)) written faults a b held mid (Ok x) →
    PutsText {T = U} (f (get_or xs i d)) written faults b c mid now (Err e) → PutsText {T = U} (flat_map f xs) written faults a c held now (Err e)
PutsText-stopped f xs i d there s t =
    PutsText-equal (flat_map-rest f xs (i + 1)) (PutsText-before (flat_map f (drop (i + 1) xs)) (PutsText-next f xs i d there s t))

-- all of a text was written, where nothing was held before and nothing is held now
pub adds_text : {O T E : Type 0} {written : O → Option (List ℕ)} {faults : O → ℕ} {a b : O} {text held now : List ℕ} (r : Result T E) → held ≡ [] →
    PutsText text written faults a b held now r → OnOk r (now ≡ []) → OnOk r (Adds (written a) (written b) text)
adds_text {written = written} {a = a} {b = b} {text = text} (Ok x) none s empty =
    subst (Adds (written a) (written b)) (sym (append-nil s.sent) ∙ ap (λ x. s.sent ++ x) (sym (s.holds ∙ empty)) ∙ s.all ∙ ap (λ h. h ++ text) none) s.adds
adds_text (Err e) none s empty = tt

-- a prefix of a text was written, where nothing was held before
pub adds_prefix : {O T U E F : Type 0} {written : O → Option (List ℕ)} {faults : O → ℕ} {a b : O} {text held now : List ℕ} {q : Result U F} (r : Result T E) →
    held ≡ [] → PutsText text written faults a b held now q → OnErr r (AddsPrefix (written a) (written b) text)
adds_prefix (Ok x) none s = tt
adds_prefix {written = written} {a = a} {b = b} {text = text} (Err e) none s =
    let whole : s.sent ++ s.left ≡ text = s.all ∙ ap (λ h. h ++ text) none in
    let part : take (length s.sent) text ≡ s.sent = ap (take (length s.sent)) (sym whole) ∙ take_at s.sent s.left _ refl in
    (length s.sent, omega (arith, ap length whole, length-append s.sent s.left), subst (Adds (written a) (written b)) (sym part) s.adds)
