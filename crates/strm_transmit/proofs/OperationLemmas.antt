-- Two searches one after the other, as one.
use Rattle.std.proofs.Common.{◌≡◌, ℕ, ◌<◌, Bool, true, false, length, List, [], ◌∷◌, ◌++◌, Option, Some, None, Result, Ok, Err, refl, sym, ap, ◌∙◌, arith}
use Rattle.std.specs.Prelude.{◌||◌}
use Rattle.std.specs.Option.{option_or}
use Rattle.std.proofs.lemmas.Bool.Decides.{nat_tests}
use Rattle.strm_codes.specs.declared.refusals.Refusal.{Refusal}
use Rattle.strm_machine.specs.State.{State}
use Rattle.strm_machine.specs.Tests.{is_unknown_guest}
use Rattle.strm_machine.specs.Refusals.{Reason, where_, first_of}
use Rattle.strm_machine.specs.declared.streams.Side.{Side}
use Rattle.strm_machine.proofs.ReactionLemmas.{first_of-append}
use Rattle.strm_transmit.specs.Meets.{or_found}

pub record IsFound {T : Type 0} (o : Option Refusal) (value wanted : T) : Type 0 where
  pub none : o ≡ None
  pub same : value ≡ wanted

pub found_ok : {T : Type 0} (o : Option Refusal) (value wanted : T) → Ok value ≡ or_found o wanted → IsFound o value wanted
found_ok None value wanted e = record { none = refl; same = cc }
found_ok (Some r) value wanted e = cc

pub found_err : {T : Type 0} (o : Option Refusal) (r : Refusal) (wanted : T) → Err r ≡ or_found o wanted → o ≡ Some r
found_err None r wanted e = cc
found_err (Some q) r wanted e = cc

-- where the first search finds no refusal, the second one decides
second_of : (xs ys : List Reason) → first_of xs ≡ None → first_of (xs ++ ys) ≡ first_of ys
second_of xs ys e = first_of-append xs ys ∙ ap (λ o. option_or o (first_of ys)) e

-- the first search finds a refusal
pub first_refused : {S T : Type 0} (xs ys : List Reason) (r : Refusal) (x : S) (wanted : T) → Err r ≡ or_found (first_of xs) x → Err r ≡ or_found (first_of (xs ++ ys)) wanted
first_refused xs ys r x wanted e =
    ap (λ o. or_found o wanted) (sym (first_of-append xs ys ∙ ap (λ o. option_or o (first_of ys)) (found_err (first_of xs) r x e)))

-- the first search finds none, and then there is a refusal
pub then_refused : {S T : Type 0} (xs ys : List Reason) (value x : S) (r : Refusal) (wanted : T) → Ok value ≡ or_found (first_of xs) x → Some r ≡ first_of ys → Err r ≡ or_found (first_of (xs ++ ys)) wanted
then_refused xs ys value x r wanted e f =
    ap (λ o. or_found o wanted) (f ∙ sym (second_of xs ys (found_ok (first_of xs) value x e).none))

-- or the second search finds one
pub second_refused : {S T U : Type 0} (xs ys : List Reason) (r : Refusal) (v x : S) (y : T) (wanted : U) → Ok v ≡ or_found (first_of xs) x → Err r ≡ or_found (first_of ys) y → Err r ≡ or_found (first_of (xs ++ ys)) wanted
second_refused xs ys r v x y wanted e f = then_refused xs ys v x r wanted e (sym (found_err (first_of ys) r y f))

-- the first search finds none, and then nothing speaks against it
pub both_none : {T : Type 0} (xs ys : List Reason) (value wanted : T) → Ok value ≡ or_found (first_of xs) wanted → None ≡ first_of ys → Ok value ≡ or_found (first_of (xs ++ ys)) wanted
both_none xs ys value wanted e f =
    let p = found_ok (first_of xs) value wanted e in
    e ∙ ap (λ o. or_found o wanted) (p.none ∙ f ∙ sym (second_of xs ys p.none))

-- a reason before the search doesn't hold
pub behind : {T : Type 0} (b : Bool) (q : Refusal) (rest : List Reason) (r : Result T Refusal) (wanted : T) → b ≡ false → r ≡ or_found (first_of rest) wanted → r ≡ or_found (first_of (where_ b q ∷ rest)) wanted
behind true q rest r wanted e f = cc
behind false q rest r wanted e f = f

-- one reason, that holds
pub alone : {T : Type 0} (b : Bool) (q : Refusal) (wanted : T) → b ≡ true → Err q ≡ or_found (first_of (where_ b q ∷ [])) wanted
alone true q wanted e = refl
alone false q wanted e = cc

pub known : (state : State) (a : ℕ) → a < length state.guests → is_unknown_guest state a ≡ false
known state a l = grind (arith, nat_tests)

pub both_known : (state : State) (a b : ℕ) → a < length state.guests → b < length state.guests → is_unknown_guest state a || is_unknown_guest state b ≡ false
both_known state a b l k = grind (arith, nat_tests)

abbrev pair_found : {S U : Type 0} → U → S → Result (U × S) Refusal
pair_found u s = Ok (u, s)

-- no search finds a refusal
pub both_found : {S U : Type 0} (xs ys : List Reason) (v x : S) (w y : U) → Ok v ≡ or_found (first_of xs) x → Ok w ≡ or_found (first_of ys) y → ◌≡◌ {A = Result (U × S) Refusal} (Ok (w, v)) (or_found (first_of (xs ++ ys)) (y, x))
both_found xs ys v x w y e f =
    let p = found_ok (first_of xs) v x e in
    let q = found_ok (first_of ys) w y f in
    ap (λ a. pair_found a v) q.same ∙ ap (pair_found y) p.same
    ∙ ap (λ o. or_found o (y, x)) (sym (second_of xs ys p.none ∙ q.none))

-- what was found of an end by its handle: the stream and the side
abbrev FoundEnd : Type 0
FoundEnd = ℕ × Side

-- the end that a handle names was found, and then a refusal of that end
pub end_refused : {U : Type 0} (xs : List Reason) (ys : ℕ → Side → List Reason) (found wanted : FoundEnd) (r : Refusal) (value : U) → Ok found ≡ or_found (first_of xs) wanted → Some r ≡ first_of (ys found.0 found.1) → Err r ≡ or_found (first_of (xs ++ ys wanted.0 wanted.1)) value
end_refused xs ys found wanted r value e f =
    then_refused xs (ys wanted.0 wanted.1) found wanted r value e
    (f ∙ ap (λ (q : ℕ × Side). first_of (ys q.0 q.1)) (found_ok (first_of xs) found wanted e).same)

-- and no refusal of it: both are known, or the stream alone is asked for
pub end_known : (xs : List Reason) (ys : ℕ → Side → List Reason) (found wanted : FoundEnd) → Ok found ≡ or_found (first_of xs) wanted → None ≡ first_of (ys found.0 found.1) → Ok found ≡ or_found (first_of (xs ++ ys wanted.0 wanted.1)) wanted
end_known xs ys found wanted e f =
    let p = found_ok (first_of xs) found wanted e in
    both_none xs (ys wanted.0 wanted.1) found wanted e (f ∙ ap (λ (q : ℕ × Side). first_of (ys q.0 q.1)) p.same)

pub end_found : (xs : List Reason) (ys : ℕ → Side → List Reason) (found wanted : FoundEnd) → Ok found ≡ or_found (first_of xs) wanted → None ≡ first_of (ys found.0 found.1) → Ok found.0 ≡ or_found (first_of (xs ++ ys wanted.0 wanted.1)) wanted.0
end_found xs ys found wanted e f =
    let p = found_ok (first_of xs) found wanted e in
    ap (λ (q : ℕ × Side). stream_found q.0) p.same
    ∙ ap (λ o. or_found o wanted.0)
    (f ∙ ap (λ (q : ℕ × Side). first_of (ys q.0 q.1)) p.same ∙ sym (second_of xs (ys wanted.0 wanted.1) p.none))
  where
    stream_found : ℕ → Result ℕ Refusal
    stream_found n = Ok n
