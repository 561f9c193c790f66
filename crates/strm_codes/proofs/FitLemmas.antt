-- A type is entered by its number, where it has one: the numbers are an item exactly where the others are its parts.
use Rattle.std.proofs.Common.{◌≡◌, ℕ, zero, suc, ◌-◌, ◌^◌, ◌<◌, ◌≤◌, ℤ, pos, negsuc, List, [], ◌∷◌, length, drop, get_or, refl, sym, subst, ap, ◌∙◌, arith}
use Rattle.std.proofs.lemmas.Int.{ints}
use Rattle.strm_codes.specs.Scalars.{IsBelow, magnitude}
use Rattle.strm_codes.specs.declared.scalars.Scalar.{Scalar}
use Rattle.strm_codes.specs.ItemTypes.{ItemType, Plain, Variant, Parts, count}
use Rattle.strm_codes.specs.Spellings.{unit, units, taken, arity, type_with, spelled, behind}
use Rattle.strm_codes.specs.Begins.{flags_limit, discriminant_limit, left, left_fields, Begins, BeginFields, BeginsCase}
use Rattle.strm_codes.specs.Insides.{IsLeft, LeavesParts}
use Rattle.strm_codes.specs.declared.nodes.Node.{Node}
use Rattle.strm_codes.specs.declared.nodes.Node.TheVariants as node
use Rattle.strm_codes.specs.declared.insides.Inside.{Inside}
use Rattle.strm_codes.specs.declared.insides.Entered.{Entered}
use Rattle.strm_codes.proofs.SpellingLemmas.{count-units, count-taken, spelled-behind, taken_first}
use Rattle.strm_codes.proofs.BeginLemmas.{one_byte, left_case-taken, left_case-units, case-taken, below_is}

-- what is left of a type that took a number: so many types behind so many others, from an offset on
abbrev behind_one : ℕ → ℕ → Entered
behind_one skipped parts = record { inside = record { skipped = skipped; parts = parts; offset = 0 }; numbers = 1 }

abbrev behind_none : ℕ → Entered
behind_none parts = record { inside = record { skipped = 0; parts = parts; offset = 0 }; numbers = 0 }

-- ## The first number

-- it is one below a limit
pub record HasBelow (limit : ℕ) (xs : List ℤ) (d : ℕ) : Type 0 where
  pub is : xs ≡ pos d ∷ drop 1 xs
  pub small : d < limit

pub has_below : (limit : ℕ) (xs : List ℤ) → 0 < length xs → IsBelow limit (get_or xs 0 (pos 0)) → HasBelow limit xs (magnitude (get_or xs 0 (pos 0)))
has_below limit [] l b = absurd (omega (arith, l))
has_below limit (pos d ∷ xs) l b = record { is = refl; small = omega (arith, ints, b.1) }
has_below limit (negsuc d ∷ xs) l b = absurd (omega (arith, ints, b.0))

some_there : (limit d : ℕ) (xs : List ℤ) → HasBelow limit xs d → 1 ≤ length xs
some_there limit d xs h = omega (arith, ap length h.is)

-- ## A variant's case

taken-case : (n d : ℕ) (ts : List ItemType) (xs : List ℤ) → d < n → n ≤ length ts → BeginFields (taken 1 (drop d ts)) xs → BeginsCase (taken n ts) d xs
taken-case zero d ts xs h l b = absurd (omega arith)
taken-case (suc n) d [] xs h l b = absurd (omega arith)
taken-case (suc n) zero (t ∷ ts) xs h l b = b.0
taken-case (suc n) (suc d) (t ∷ ts) xs h l b = taken-case n d ts xs (omega (arith, h)) (omega (arith, l)) b

case-units : (n d : ℕ) (xs : List ℤ) → d < n → BeginsCase (units n) d xs
case-units zero d xs h = absurd (omega arith)
case-units (suc n) zero xs h = tt
case-units (suc n) (suc d) xs h = case-units n d xs (omega (arith, h))

begins_variant : (ps : Parts) (xs : List ℤ) (d : ℕ) → count ps ≤ 256 → d < 256 → xs ≡ pos d ∷ drop 1 xs → BeginsCase ps d (drop 1 xs) → Begins (Variant ps) xs
begins_variant ps xs d few small is b =
    let limit : discriminant_limit ps ≡ 256 = ap (λ w. 256 ^ w) (one_byte (count ps) few) in
    subst (Begins (Variant ps)) (sym is) (subst (λ l. IsBelow l (pos d)) (sym limit) (below_is 256 d small), b)

its_case : (ps : Parts) (xs : List ℤ) (d : ℕ) → xs ≡ pos d ∷ drop 1 xs → Begins (Variant ps) xs → BeginsCase ps d (drop 1 xs)
its_case ps xs d is b = let c : Begins (Variant ps) (pos d ∷ drop 1 xs) = subst (Begins (Variant ps)) is b in c.1

left_taken : (n d : ℕ) (ts : List ItemType) (xs : List ℤ) → n ≤ 256 → n ≤ length ts → HasBelow n xs d → IsLeft (Variant (taken n ts)) (taken 1 (drop d ts)) xs 1
left_taken n d ts xs few l h =
    let small : count (taken n ts) ≤ 256 = omega (arith, count-taken n ts l, few) in
    record {
      onward = λ b. (case-taken n d ts (drop 1 xs) l (its_case (taken n ts) xs d h.is b)).begins;
      back = λ b. begins_variant (taken n ts) xs d small (omega (arith, h.small, few)) h.is (taken-case n d ts (drop 1 xs) h.small l b);
      rest = ap (left (Variant (taken n ts))) h.is ∙ left_case-taken n d ts (drop 1 xs) h.small l;
      few = some_there n d xs h;
    }

-- ## By the words

pub leaves_nothing : (ts : List ItemType) (xs : List ℤ) → LeavesParts node.Nothing ts xs (behind_none 0)
leaves_nothing ts xs = record { entered = record { onward = λ b. tt; back = λ b. tt; rest = refl; few = omega arith }; within = omega arith }

pub leaves_tuple : (n : ℕ) (ts : List ItemType) (xs : List ℤ) → LeavesParts (node.Tuple n) ts xs (behind_none n)
leaves_tuple n ts xs = record { entered = record { onward = λ b. b; back = λ b. b; rest = refl; few = omega arith }; within = omega arith }

pub leaves_plain : (s : Scalar) (ts : List ItemType) (xs : List ℤ) → Begins (Plain s) xs → LeavesParts (node.Plain s) ts xs (behind_one 0 0)
leaves_plain s ts [] b = absurd b
leaves_plain s ts (x ∷ xs) b = record { entered = record { onward = λ c. tt; back = λ c. b; rest = refl; few = omega arith }; within = omega arith }

pub leaves_flags : (n limit : ℕ) (ts : List ItemType) (xs : List ℤ) → limit ≡ flags_limit n → 0 < length xs → IsBelow limit (get_or xs 0 (pos 0)) → LeavesParts (node.Flags n) ts xs (behind_one 0 0)
leaves_flags n limit ts [] e l b = absurd (omega (arith, l))
leaves_flags n limit ts (x ∷ xs) e l b =
    let f : IsBelow (flags_limit n) x = subst (λ k. IsBelow k x) e b in
    record { entered = record { onward = λ c. tt; back = λ c. f; rest = refl; few = omega arith }; within = omega arith }

pub leaves_enum : (n : ℕ) (ts : List ItemType) (xs : List ℤ) → n ≤ 256 → 0 < length xs → IsBelow n (get_or xs 0 (pos 0)) → LeavesParts (node.Enum n) ts xs (behind_one 0 0)
leaves_enum n ts xs few l b =
    let d = magnitude (get_or xs 0 (pos 0)) in
    let h = has_below n xs l b in
    let small : count (units n) ≤ 256 = omega (arith, count-units n, few) in
    record {
      entered = record {
        onward = λ c. tt;
        back = λ c. begins_variant (units n) xs d small (omega (arith, h.small, few)) h.is (case-units n d (drop 1 xs) h.small);
        rest = ap (left (Variant (units n))) h.is ∙ left_case-units n d (drop 1 xs);
        few = some_there n d xs h;
      };
      within = omega arith;
    }

pub leaves_option : (d : ℕ) (ts : List ItemType) (xs : List ℤ) → 1 ≤ length ts → 0 < length xs → IsBelow 2 (get_or xs 0 (pos 0)) → d ≡ magnitude (get_or xs 0 (pos 0)) → LeavesParts node.Option ts xs (behind_one 0 d)
leaves_option d ts xs some l b e =
    let h : HasBelow 2 xs d = subst (HasBelow 2 xs) (sym e) (has_below 2 xs l b) in
    value d h.small (left_taken 2 d (unit ∷ ts) xs (omega arith) (omega (arith, some)) h)
  where
    value : (d : ℕ) → d < 2 → IsLeft (Variant (taken 2 (unit ∷ ts))) (taken 1 (drop d (unit ∷ ts))) xs 1 → LeavesParts node.Option ts xs (behind_one 0 d)
    value zero h i = record { entered = record { onward = λ c. tt; back = λ c. i.back (tt, tt); rest = i.rest; few = i.few }; within = omega arith }
    value (suc zero) h i = record { entered = record { onward = i.onward; back = i.back; rest = i.rest; few = i.few }; within = omega arith }
    value (suc (suc d)) h i = absurd (omega arith)

pub leaves_result : (d : ℕ) (ts : List ItemType) (xs : List ℤ) → 2 ≤ length ts → 0 < length xs → IsBelow 2 (get_or xs 0 (pos 0)) → d ≡ magnitude (get_or xs 0 (pos 0)) → LeavesParts node.Result ts xs (behind_one d 1)
leaves_result d ts xs some l b e =
    let h : HasBelow 2 xs d = subst (HasBelow 2 xs) (sym e) (has_below 2 xs l b) in
    record { entered = left_taken 2 d ts xs (omega arith) some h; within = omega (arith, h.small) }

pub leaves_cases : (n d : ℕ) (ts : List ItemType) (xs : List ℤ) → n ≤ 256 → n ≤ length ts → 0 < length xs → IsBelow n (get_or xs 0 (pos 0)) → d ≡ magnitude (get_or xs 0 (pos 0)) → LeavesParts (node.Variant n) ts xs (behind_one d 1)
leaves_cases n d ts xs few some l b e =
    let h : HasBelow n xs d = subst (HasBelow n xs) (sym e) (has_below n xs l b) in
    record { entered = left_taken n d ts xs few some h; within = omega (arith, h.small) }

-- ## One type more, in a walk over the types that words spell

-- the parts of the first type, by the words behind those of others
module _ (n : Node) (ns values : List Node) (i : Inside) (numbers : ℕ) (xs own_left : List ℤ)
    (h : IsLeft (type_with n (spelled ns)) (taken i.parts (drop i.skipped (spelled ns))) xs numbers)
    (words : values ≡ behind i.skipped ns) (numbers_left : own_left ≡ drop numbers xs) where
  parts_are : taken i.parts (drop i.skipped (spelled ns)) ≡ taken i.parts (spelled values)
  parts_are = sym (ap (λ vs. taken i.parts (spelled vs)) words ∙ ap (taken i.parts) (spelled-behind i.skipped ns))

  pub first_onward : Begins (type_with n (spelled ns)) xs → BeginFields (taken i.parts (spelled values)) own_left
  first_onward b = rw numbers_left (subst (λ ps. BeginFields ps (drop numbers xs)) parts_are (h.onward b))

  pub first_back : BeginFields (taken i.parts (spelled values)) own_left → Begins (type_with n (spelled ns)) xs
  first_back b = h.back (subst (λ ps. BeginFields ps (drop numbers xs)) (sym parts_are) (subst (BeginFields (taken i.parts (spelled values))) numbers_left b))

  pub first_left : (rest : List ℤ) → rest ≡ left_fields (taken i.parts (spelled values)) own_left → rest ≡ left (type_with n (spelled ns)) xs
  first_left rest e = e ∙ ap (left_fields (taken i.parts (spelled values))) numbers_left ∙ ap (λ ps. left_fields ps (drop numbers xs)) (sym parts_are) ∙ sym h.rest

-- a word's type, and those of the words behind it
module _ (n : Node) (ns nodes more : List Node) (parts : ℕ) (xs next : List ℤ) where
  abbrev FirstBegins : Type 0
  FirstBegins = Begins (type_with n (spelled ns)) xs

  abbrev OthersBegin : Type 0
  OthersBegin = BeginFields (taken (parts - 1) (spelled more)) next

  abbrev AllBegin : Type 0
  AllBegin = BeginFields (taken parts (spelled nodes)) xs

  -- all types are there exactly where the first is and those behind it are
  pub begin_split : nodes ≡ n ∷ ns → 1 ≤ parts → more ≡ behind (arity n) ns → next ≡ left (type_with n (spelled ns)) xs
      → (AllBegin → FirstBegins × OthersBegin) × (FirstBegins → OthersBegin → AllBegin)
  begin_split e some are leftover =
      rw (e, taken_first n ns parts some, are, leftover) ((λ b. (b.0, b.1)), (λ b c. (b, c)))

  pub left_split : (rest : List ℤ) → nodes ≡ n ∷ ns → 1 ≤ parts → more ≡ behind (arity n) ns → next ≡ left (type_with n (spelled ns)) xs
      → rest ≡ left_fields (taken (parts - 1) (spelled more)) next → rest ≡ left_fields (taken parts (spelled nodes)) xs
  left_split rest e some are leftover h = rw (e, taken_first n ns parts some) (rw (are, leftover) at h)

pub begin_first : (n : Node) (ns nodes : List Node) (parts : ℕ) (xs : List ℤ) → nodes ≡ n ∷ ns → 1 ≤ parts → BeginFields (taken parts (spelled nodes)) xs → Begins (type_with n (spelled ns)) xs
begin_first n ns nodes parts xs e some b = (rw (e, taken_first n ns parts some) at b).0

pub none_begin : (parts : ℕ) (ts : List ItemType) (xs : List ℤ) → parts ≡ 0 → BeginFields (taken parts ts) xs
none_begin parts ts xs e = rw e tt

pub none_left : (parts : ℕ) (ts : List ItemType) (xs : List ℤ) → parts ≡ 0 → xs ≡ left_fields (taken parts ts) xs
none_left parts ts xs e = ap (λ k. left_fields (taken k ts) xs) (sym e)
