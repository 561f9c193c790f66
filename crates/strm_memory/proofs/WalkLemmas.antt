-- A type is entered: its own number, and the parts behind it.
use Rattle.std.proofs.Common.{◌≡◌, ℕ, zero, suc, ◌+◌, ◌<◌, ◌≤◌, ◌-◌, ◌%◌, ℤ, pos, List, [], ◌∷◌, ◌++◌, length, drop, Option, Some, None, refl, sym, subst, ap, ◌∙◌, append_assoc, append-nil, arith, length-append}
use Rattle.std.proofs.lemmas.List.{drop-drop}
use Rattle.std.proofs.Math.Nat.{mod_self}
use Rattle.std.specs.Option.{option_map}
use Rattle.std.specs.Prelude.{IfSome, IsNone}
use Rattle.strm_codes.specs.Scalars.{size_of}
use Rattle.strm_codes.specs.Offsets.{gap_before}
use Rattle.strm_memory.specs.Bytes.{le, bytes_at}
use Rattle.strm_memory.specs.Numbers.{lifted}
use Rattle.strm_codes.specs.ItemTypes.{ItemType, Plain, Variant, Parts, no_parts, part, count, flags_size, rounded, align_of, most_align, item_size, end_of, most_size}
use Rattle.strm_codes.specs.Spellings.{unit, units, taken}
use Rattle.strm_codes.specs.Begins.{flags_limit}
use Rattle.strm_memory.specs.Loads.{both, decode, decode_parts, decode_case}
use Rattle.strm_memory.specs.Walks.{with_front, Enters}
use Rattle.strm_codes.specs.declared.scalars.Scalar.{Scalar}
use Rattle.strm_codes.specs.declared.nodes.Node.TheVariants as node
use Rattle.strm_codes.specs.declared.insides.Inside.{Inside}
use Rattle.strm_codes.proofs.SpellingLemmas.{count-units, count-taken}
use Rattle.strm_codes.proofs.BeginLemmas.{one_byte}

pub no_gap : (a : ℕ) → gap_before 0 a ≡ 0
no_gap a = let z : 0 % a ≡ 0 = omega arith in let m : a - 0 ≡ a = omega arith in rw (z, m) (mod_self a)

both-nil : (o : Option (List ℤ)) → both o (Some []) ≡ o
both-nil None = refl
both-nil (Some xs) = ap Some (append-nil xs)

-- one field alone
pub decode-one : (t : ItemType) (bytes : List ℕ) → decode_parts 0 (part t no_parts) bytes ≡ decode t bytes
unfolding decode
decode-one t bytes = rw (no_gap (align_of t)) (both-nil (decode t bytes))

pub decode_case-taken : (n d : ℕ) (ts : List ItemType) (bytes : List ℕ) → d < n → n ≤ length ts → decode_case (taken n ts) d bytes ≡ decode_parts 0 (taken 1 (drop d ts)) bytes
unfolding decode
decode_case-taken zero d ts bytes h l = absurd (omega arith)
decode_case-taken (suc n) d [] bytes h l = absurd (omega arith)
decode_case-taken (suc n) zero (t ∷ ts) bytes h l = sym (decode-one t bytes)
decode_case-taken (suc n) (suc d) (t ∷ ts) bytes h l = decode_case-taken n d ts bytes (omega (arith, h)) (omega (arith, l))

decode_case-none : (n d : ℕ) (ts : List ItemType) (bytes : List ℕ) → n ≤ d → decode_case (taken n ts) d bytes ≡ None
unfolding decode
decode_case-none zero d ts bytes h = refl
decode_case-none (suc n) d [] bytes h = refl
decode_case-none (suc n) zero (t ∷ ts) bytes h = absurd (omega arith)
decode_case-none (suc n) (suc d) (t ∷ ts) bytes h = decode_case-none n d ts bytes (omega (arith, h))

decode_case-units : (n d : ℕ) (bytes : List ℕ) → d < n → decode_case (units n) d bytes ≡ Some []
unfolding decode
decode_case-units zero d bytes h = absurd (omega arith)
decode_case-units (suc n) zero bytes h = refl
decode_case-units (suc n) (suc d) bytes h = decode_case-units n d bytes (omega (arith, h))

decode_case-past : (n d : ℕ) (bytes : List ℕ) → n ≤ d → decode_case (units n) d bytes ≡ None
unfolding decode
decode_case-past zero d bytes h = refl
decode_case-past (suc n) zero bytes h = absurd (omega arith)
decode_case-past (suc n) (suc d) bytes h = decode_case-past n d bytes (omega (arith, h))

-- a number more in front
front_more : (old : List ℤ) (x : ℤ) (o : Option (List ℤ)) → with_front old (option_map (λ xs. x ∷ xs) o) ≡ with_front (old ++ x ∷ []) o
front_more old x None = refl
front_more old x (Some xs) = ap Some (sym (append_assoc old (x ∷ []) xs))

pub most_taken : (n d : ℕ) (ts : List ItemType) → d < n → n ≤ length ts → end_of 0 (taken 1 (drop d ts)) ≤ most_size (taken n ts)
most_taken zero d ts h l = absurd (omega arith)
most_taken (suc n) d [] h l = absurd (omega arith)
most_taken (suc n) zero (t ∷ ts) h l = omega (arith, no_gap (align_of t))
most_taken (suc n) (suc d) (t ∷ ts) h l = omega (arith, most_taken n d ts (omega (arith, h)) (omega (arith, l)))

-- any variant, by the number of its case
decode-variant : (ps : Parts) (bytes : List ℕ) (from d : ℕ) (old : List ℤ) → count ps ≤ 256 → d ≡ le (bytes_at bytes from 1)
    → with_front old (decode (Variant ps) (drop from bytes)) ≡ with_front (old ++ pos d ∷ []) (decode_case ps d (drop (from + rounded 1 (most_align ps)) bytes))
unfolding decode
decode-variant ps bytes from d old few e =
    let w = one_byte (count ps) few in
    rw (w, ← e, drop-drop (rounded 1 (most_align ps)) from bytes) (front_more old (pos d) (decode_case ps d (drop (from + rounded 1 (most_align ps)) bytes)))

-- a case of so many types
module _ (n : ℕ) (ts : List ItemType) (bytes : List ℕ) (from d : ℕ) (old : List ℤ)
    (few : n ≤ 256) (l : n ≤ length ts) (h : d < n) (e : d ≡ le (bytes_at bytes from 1)) where
  pub enters-taken : with_front old (decode (Variant (taken n ts)) (drop from bytes)) ≡ with_front (old ++ pos d ∷ []) (decode_parts 0 (taken 1 (drop d ts)) (drop (from + rounded 1 (most_align (taken n ts))) bytes))
  enters-taken =
      let c = count-taken n ts l in
      decode-variant (taken n ts) bytes from d old (omega (arith, c, few)) e
      ∙ ap (with_front (old ++ pos d ∷ [])) (decode_case-taken n d ts (drop (from + rounded 1 (most_align (taken n ts))) bytes) h l)

pub room-taken : (n d : ℕ) (ts : List ItemType) → n ≤ 256 → n ≤ length ts → d < n → rounded 1 (most_align (taken n ts)) + end_of 0 (taken 1 (drop d ts)) ≤ item_size (Variant (taken n ts))
room-taken n d ts few l h =
    let c = count-taken n ts l in
    let w = one_byte (count (taken n ts)) (omega (arith, c, few)) in
    rw w (omega (arith, most_taken n d ts h l))

-- ## One type entered

pub enters_nothing : (ts : List ItemType) (bytes : List ℕ) (from : ℕ) (old : List ℤ) → Enters node.Nothing ts bytes from old old (record { skipped = 0; parts = 0; offset = 0 })
unfolding decode
enters_nothing ts bytes from old = record { same = refl; within = omega arith; room = omega arith; few = omega arith }

plain_same : (old new : List ℤ) (o : Option ℤ) → Some new ≡ option_map (λ x. old ++ x ∷ []) o → with_front old (option_map (λ x. x ∷ []) o) ≡ with_front new (Some [])
plain_same old new None e = cc
plain_same old new (Some x) e = sym e ∙ sym (ap Some (append-nil new))

plain_few : (old new : List ℤ) (o : Option ℤ) → Some new ≡ option_map (λ x. old ++ x ∷ []) o → length new ≤ length old + 1
plain_few old new None e = cc
plain_few old new (Some x) e = let u : new ≡ old ++ x ∷ [] = cc in rw u (omega (arith, length-append old (x ∷ [])))

pub enters_plain : (s : Scalar) (ts : List ItemType) (bytes : List ℕ) (from : ℕ) (old new : List ℤ) → Some new ≡ option_map (λ x. old ++ x ∷ []) (lifted s (le (bytes_at bytes from (size_of s)))) → Enters (node.Plain s) ts bytes from old new (record { skipped = 0; parts = 0; offset = 0 })
unfolding decode
enters_plain s ts bytes from old new e =
    record {
      same = plain_same old new (lifted s (le (bytes_at bytes from (size_of s)))) e;
      within = omega arith;
      room = omega arith;
      few = plain_few old new (lifted s (le (bytes_at bytes from (size_of s)))) e;
    }

plain_none : (old : List ℤ) (o : Option ℤ) → None ≡ option_map (λ x. old ++ x ∷ []) o → option_map (λ x. x ∷ []) o ≡ None
plain_none old None e = refl
plain_none old (Some x) e = cc

pub plain_is_none : (s : Scalar) (ts : List ItemType) (bytes : List ℕ) (from : ℕ) (old : List ℤ) → None ≡ option_map (λ x. old ++ x ∷ []) (lifted s (le (bytes_at bytes from (size_of s)))) → decode (Plain s) (drop from bytes) ≡ None
unfolding decode
plain_is_none s ts bytes from old e = plain_none old (lifted s (le (bytes_at bytes from (size_of s)))) e

one_more : (old new : List ℤ) (x : ℤ) → new ≡ old ++ x ∷ [] → length new ≤ length old + 1
one_more old new x e = rw e (omega (arith, length-append old (x ∷ [])))

pub enters_flags : (n : ℕ) (ts : List ItemType) (bytes : List ℕ) (from : ℕ) (old new : List ℤ) → new ≡ old ++ pos (le (bytes_at bytes from (flags_size n)) % flags_limit n) ∷ [] → Enters (node.Flags n) ts bytes from old new (record { skipped = 0; parts = 0; offset = 0 })
unfolding decode
enters_flags n ts bytes from old new e =
    record {
      same = ap Some (sym e) ∙ sym (ap Some (append-nil new));
      within = omega arith;
      room = omega arith;
      few = one_more old new (pos (le (bytes_at bytes from (flags_size n)) % flags_limit n)) e;
    }

pub enters_enum : (n : ℕ) (ts : List ItemType) (bytes : List ℕ) (from d : ℕ) (old new : List ℤ) → n ≤ 256 → d < n → d ≡ le (bytes_at bytes from 1) → new ≡ old ++ pos d ∷ [] → Enters (node.Enum n) ts bytes from old new (record { skipped = 0; parts = 0; offset = 0 })
unfolding decode
enters_enum n ts bytes from d old new few h e p =
    record {
      same = decode-variant (units n) bytes from d old (omega (arith, count-units n, few)) e
          ∙ ap (with_front (old ++ pos d ∷ [])) (decode_case-units n d (drop (from + rounded 1 (most_align (units n))) bytes) h)
          ∙ ap (λ l. with_front l (Some [])) (sym p);
      within = omega arith;
      room = omega arith;
      few = one_more old new (pos d) p;
    }

pub enum_is_none : (n : ℕ) (bytes : List ℕ) (from : ℕ) → n ≤ 256 → n ≤ le (bytes_at bytes from 1) → decode (Variant (units n)) (drop from bytes) ≡ None
unfolding decode
enum_is_none n bytes from few h =
    let w = one_byte (count (units n)) (omega (arith, count-units n, few)) in
    rw (w, decode_case-past n (le (bytes_at bytes from 1)) (drop (rounded 1 (most_align (units n))) (drop from bytes)) h) refl

pub variant_is_none : (n : ℕ) (ts : List ItemType) (bytes : List ℕ) (from : ℕ) → n ≤ 256 → n ≤ length ts → n ≤ le (bytes_at bytes from 1) → decode (Variant (taken n ts)) (drop from bytes) ≡ None
unfolding decode
variant_is_none n ts bytes from few l h =
    let w = one_byte (count (taken n ts)) (omega (arith, count-taken n ts l, few)) in
    rw (w, decode_case-none n (le (bytes_at bytes from 1)) ts (drop (rounded 1 (most_align (taken n ts))) (drop from bytes)) h) refl

-- what is left of a variant that was entered
pub record EntersTaken (n : ℕ) (ts : List ItemType) (bytes : List ℕ) (from : ℕ) (old new : List ℤ) (i : Inside) : Type 0 where
  pub same : with_front old (decode (Variant (taken n ts)) (drop from bytes)) ≡ with_front new (decode_parts 0 (taken i.parts (drop i.skipped ts)) (drop (from + i.offset) bytes))
  pub within : i.skipped + i.parts ≤ n
  pub room : i.offset + end_of 0 (taken i.parts (drop i.skipped ts)) ≤ item_size (Variant (taken n ts))
  pub few : length new ≤ length old + 1

module _ (n : ℕ) (ts : List ItemType) (bytes : List ℕ) (from a : ℕ) (old new : List ℤ) (i : Inside)
    (few : n ≤ 256) (l : n ≤ length ts) (ea : a ≡ most_align (taken n ts)) (ei : i ≡ record { skipped = le (bytes_at bytes from 1); parts = 1; offset = rounded 1 a }) (h : i.skipped < n)
    (p : new ≡ old ++ pos i.skipped ∷ []) where
  pub enters_variant : EntersTaken n ts bytes from old new i
  enters_variant =
      let d = i.skipped in
      let is : d ≡ le (bytes_at bytes from 1) = ap (λ (j : Inside). j.skipped) ei in
      let one : i.parts ≡ 1 = ap (λ (j : Inside). j.parts) ei in
      let offset : i.offset ≡ rounded 1 (most_align (taken n ts)) = ap (λ (j : Inside). j.offset) ei ∙ ap (rounded 1) ea in
      record {
        same = rw (one, offset, p) (enters-taken n ts bytes from d old few l h is);
        within = omega (arith, one, h);
        room = rw (one, offset) (room-taken n d ts few l h);
        few = one_more old new (pos d) p;
      }

unit_loads : (rest : List ℕ) → decode_parts 0 (part unit no_parts) rest ≡ decode_parts 0 no_parts rest
unfolding decode
unit_loads rest = decode-one unit rest

-- an option's value, where it is there
module _ (ts : List ItemType) (bytes : List ℕ) (from a d : ℕ) (old new : List ℤ)
    (l : 1 ≤ length ts) (some : 1 ≤ a) (ea : a ≡ most_align (taken 1 ts)) (h : d < 2) (e : d ≡ le (bytes_at bytes from 1)) (p : new ≡ old ++ pos d ∷ []) where
  pub enters_option : Enters node.Option ts bytes from old new (record { skipped = 0; parts = d; offset = rounded 1 a })
  enters_option =
      let align : most_align (taken 2 (unit ∷ ts)) ≡ a = omega (arith, some, ea) in
      let both = enters-taken 2 (unit ∷ ts) bytes from d old (omega arith) (omega (arith, l)) h e in
      let room = room-taken 2 d (unit ∷ ts) (omega arith) (omega (arith, l)) h in
      let whole = Variant (taken 2 (unit ∷ ts)) in
      record {
        same = subst (λ k. with_front old (decode whole (drop from bytes)) ≡ with_front (old ++ pos d ∷ []) (decode_parts 0 (taken 1 (drop d (unit ∷ ts))) (drop (from + rounded 1 k) bytes))) align both
            ∙ value d h (drop (from + rounded 1 a) bytes) ∙ ap (λ l. with_front l (decode_parts 0 (taken d ts) (drop (from + rounded 1 a) bytes))) (sym p);
        within = omega (arith, h);
        room = place d h (subst (λ k. rounded 1 k + end_of 0 (taken 1 (drop d (unit ∷ ts))) ≤ item_size whole) align room);
        few = one_more old new (pos d) p;
      }
    where
      value : (d : ℕ) → d < 2 → (rest : List ℕ) → with_front (old ++ pos d ∷ []) (decode_parts 0 (taken 1 (drop d (unit ∷ ts))) rest) ≡ with_front (old ++ pos d ∷ []) (decode_parts 0 (taken d ts) rest)
      value zero h rest = ap (with_front (old ++ pos 0 ∷ [])) (unit_loads rest)
      value (suc zero) h rest = refl
      value (suc (suc d)) h rest = absurd (omega arith)

      place : (d : ℕ) → d < 2 → rounded 1 a + end_of 0 (taken 1 (drop d (unit ∷ ts))) ≤ item_size (Variant (taken 2 (unit ∷ ts))) → rounded 1 a + end_of 0 (taken d ts) ≤ item_size (Variant (taken 2 (unit ∷ ts)))
      place zero h r = omega (arith, r)
      place (suc zero) h r = r
      place (suc (suc d)) h r = absurd (omega arith)

pub enters_tuple : (n : ℕ) (ts : List ItemType) (bytes : List ℕ) (from : ℕ) (old : List ℤ) → Enters (node.Tuple n) ts bytes from old old (record { skipped = 0; parts = n; offset = 0 })
unfolding decode
enters_tuple n ts bytes from old =
    let z : from + 0 ≡ from = omega arith in
    record { same = rw z refl; within = omega arith; room = omega arith; few = omega arith }

pub not_some : {A : Type 0} (o : Option A) → ((x : A) → o ≡ Some x → ⊥) → IsNone o
not_some None f = refl
not_some (Some x) f = absurd (f x refl)

-- where the number of a case was lifted from an address on: it tells where the value lies
abbrev pub IsCaseAt : Option Inside → List ℕ → ℕ → ℕ → Type 0
IsCaseAt o bytes from a = IfSome o (λ i. i ≡ record { skipped = le (bytes_at bytes from 1); parts = 1; offset = rounded 1 a })

-- is one of so many
abbrev pub IsCaseBelow : Option Inside → ℕ → Type 0
IsCaseBelow o n = IfSome o (λ i. i.skipped < n)

-- and was put behind others
abbrev pub IsCasePut : Option Inside → List ℤ → List ℤ → Type 0
IsCasePut o old new = IfSome o (λ i. new ≡ old ++ pos i.skipped ∷ [])

pub enters_result : (o : Option Inside) (ts : List ItemType) (bytes : List ℕ) (from a : ℕ) (old new : List ℤ) → 2 ≤ length ts → a ≡ most_align (taken 2 ts)
    → IsCaseAt o bytes from a → IsCaseBelow o 2 → IsCasePut o old new
    → IfSome o (Enters node.Result ts bytes from old new)
enters_result None ts bytes from a old new l ea ei h p = tt
enters_result (Some i) ts bytes from a old new l ea ei h p =
    let e = enters_variant 2 ts bytes from a old new i (omega arith) l ea ei h p in
    record { same = e.same; within = e.within; room = e.room; few = e.few }

pub enters_cases : (n : ℕ) (o : Option Inside) (ts : List ItemType) (bytes : List ℕ) (from a : ℕ) (old new : List ℤ) → n ≤ 256 → n ≤ length ts → a ≡ most_align (taken n ts)
    → IsCaseAt o bytes from a → IsCaseBelow o n → IsCasePut o old new
    → IfSome o (Enters (node.Variant n) ts bytes from old new)
enters_cases n None ts bytes from a old new few l ea ei h p = tt
enters_cases n (Some i) ts bytes from a old new few l ea ei h p =
    let e = enters_variant n ts bytes from a old new i few l ea ei h p in
    record { same = e.same; within = e.within; room = e.room; few = e.few }
