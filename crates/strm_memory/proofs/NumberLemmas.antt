-- The items of a scalar and their bytes: each is the other's inverse.
use Rattle.std.proofs.Common.{◌≡◌, ℕ, ◌+◌, ◌*◌, ◌^◌, ◌<◌, ◌-◌, ◌%◌, ℤ, pos, negsuc, true, min, List, [], ◌∷◌, length, Some, refl, subst, ap, arith, ⊎_elim}
use Rattle.std.proofs.lemmas.Int.{ints}
use Rattle.std.proofs.lemmas.Bool.{lt-ltb, le-ltb, cases_lt}
use Rattle.std.proofs.lemmas.Option.{cond_some}
use Rattle.strm_codes.specs.Scalars.{size_of, is_scalar_value, FitsScalar, IsBelow, IsSignedBelow}
use Rattle.strm_codes.specs.declared.scalars.Scalar.{Scalar}
use Rattle.strm_codes.specs.declared.scalars.Scalar.TheVariants.{Bool as Flag, S8, U8, S16, U16, S32, U32, S64, U64, Char, F32, F64}
use Rattle.strm_memory.specs.Bytes.{le, to_le, IsBytes}
use Rattle.strm_memory.specs.Numbers.{signed_of, unsigned_of, lifted, lowered}
use Rattle.strm_memory.specs.Copies.{bytes_settled}
use Rattle.strm_memory.proofs.ByteLemmas.{to_le-le}

-- an item of a scalar fits in its bytes and comes back from them
pub record IsLifted (s : Scalar) (x : ℤ) : Type 0 where
  pub small : lowered s x < 256 ^ size_of s
  pub again : lifted s (lowered s x) ≡ Some x

below : (limit : ℕ) (x : ℤ) → IsBelow limit x → (n : ℕ) × (x ≡ pos n) × (n < limit)
below limit (pos n) (a, b) = (n, refl, omega (arith, ints))
below limit (negsuc n) (a, b) = absurd (omega (arith, ints))

signed_again : (half : ℕ) (x : ℤ) → IsSignedBelow half x → (unsigned_of (2 * half) x < 2 * half) × (signed_of half (unsigned_of (2 * half) x) ≡ x)
signed_again half (pos n) (a, b) =
    let h : n < half = omega (arith, ints) in
    (omega arith, rw (lt-ltb n half h) refl)
signed_again half (negsuc n) (a, b) =
    let h : n < half = omega (arith, ints) in
    let back : 2 * half - 1 - (2 * half - 1 - n) ≡ n = omega arith in
    (omega arith, rw (le-ltb (2 * half - 1 - n) half (omega arith), back) refl)

unsigned : (s : Scalar) (x : ℤ) → ((n : ℕ) → n < 256 ^ size_of s → lifted s n ≡ Some (pos n)) → IsBelow (256 ^ size_of s) x → IsLifted s x
unsigned s x f h =
    let n = below (256 ^ size_of s) x h in
    rw n.1 (record { small = n.2; again = f n.0 n.2 })

flag : (n : ℕ) → n < 2 → min n 1 ≡ n
flag n h = omega arith

pub IsLifted-fits : (s : Scalar) (x : ℤ) → FitsScalar s x → IsLifted s x
IsLifted-fits Flag x h = let n = below 2 x h in rw n.1 (record { small = omega (arith, n.2); again = rw (flag n.0 n.2) refl })
IsLifted-fits U8 x h = unsigned U8 x (λ n l. refl) h
IsLifted-fits U16 x h = unsigned U16 x (λ n l. refl) h
IsLifted-fits U32 x h = unsigned U32 x (λ n l. refl) h
IsLifted-fits U64 x h = unsigned U64 x (λ n l. refl) h
IsLifted-fits S8 x h = let r = signed_again (2 ^ 7) x h in record { small = r.0; again = ap Some r.1 }
IsLifted-fits S16 x h = let r = signed_again (2 ^ 15) x h in record { small = r.0; again = ap Some r.1 }
IsLifted-fits S32 x h = let r = signed_again (2 ^ 31) x h in record { small = r.0; again = ap Some r.1 }
IsLifted-fits S64 x h = let r = signed_again (2 ^ 63) x h in record { small = r.0; again = ap Some r.1 }
IsLifted-fits Char x h =
    let n = below (2 ^ 32) x h.0 in
    let t : is_scalar_value n.0 ≡ true = rw n.1 at h.1 in
    rw n.1 (record { small = n.2; again = rw t refl })
IsLifted-fits F32 x h = unsigned F32 x (λ n l. refl) h
IsLifted-fits F64 x h = unsigned F64 x (λ n l. refl) h

signed_back : (half n : ℕ) → n < 2 * half → unsigned_of (2 * half) (signed_of half n) ≡ n
signed_back half n h = ⊎_elim (λ a. rw (lt-ltb n half a) refl) (λ b. rw (le-ltb n half b) (omega arith)) (cases_lt n half)

-- lifted and lowered again, each number but a flag's is as it was
record IsBack (s : Scalar) (n : ℕ) (x : ℤ) : Type 0 where
  same : lowered s x ≡ n

back : (s : Scalar) (n : ℕ) (x y : ℤ) → y ≡ x → lowered s y ≡ n → IsBack s n x
back s n x y e p = record { same = subst (λ z. lowered s z ≡ n) e p }

-- a scalar's bytes, lifted and then lowered
pub lowered-lifted : (s : Scalar) (bytes : List ℕ) (x : ℤ) → IsBytes bytes → length bytes ≡ size_of s → le bytes < 256 ^ size_of s → lifted s (le bytes) ≡ Some x → to_le (size_of s) (lowered s x) ≡ bytes_settled s bytes
lowered-lifted s bytes x h l small e = settle s bytes x h l small e
  where
    whole : (s : Scalar) (bytes : List ℕ) (x : ℤ) → IsBytes bytes → length bytes ≡ size_of s → IsBack s (le bytes) x → to_le (size_of s) (lowered s x) ≡ bytes
    whole s bytes x h l b = rw (b.same, ← l) (to_le-le bytes h)

    settle : (s : Scalar) (bytes : List ℕ) (x : ℤ) → IsBytes bytes → length bytes ≡ size_of s → le bytes < 256 ^ size_of s → lifted s (le bytes) ≡ Some x → to_le (size_of s) (lowered s x) ≡ bytes_settled s bytes
    settle Flag [] x h l small e = cc
    settle Flag (b ∷ []) x h l small e =
        let q : pos (min (b + 256 * 0) 1) ≡ x = cc in
        let n : min (b + 256 * 0) 1 % 256 ≡ min b 1 = omega arith in
        rw (← q, n) refl
    settle Flag (b ∷ c ∷ bytes) x h l small e = absurd (omega arith)
    settle S8 bytes x h l small e = whole S8 bytes x h l (back S8 (le bytes) x (signed_of (2 ^ 7) (le bytes)) (cc) (signed_back (2 ^ 7) (le bytes) small))
    settle U8 bytes x h l small e = whole U8 bytes x h l (back U8 (le bytes) x (pos (le bytes)) (cc) refl)
    settle S16 bytes x h l small e = whole S16 bytes x h l (back S16 (le bytes) x (signed_of (2 ^ 15) (le bytes)) (cc) (signed_back (2 ^ 15) (le bytes) small))
    settle U16 bytes x h l small e = whole U16 bytes x h l (back U16 (le bytes) x (pos (le bytes)) (cc) refl)
    settle S32 bytes x h l small e = whole S32 bytes x h l (back S32 (le bytes) x (signed_of (2 ^ 31) (le bytes)) (cc) (signed_back (2 ^ 31) (le bytes) small))
    settle U32 bytes x h l small e = whole U32 bytes x h l (back U32 (le bytes) x (pos (le bytes)) (cc) refl)
    settle S64 bytes x h l small e = whole S64 bytes x h l (back S64 (le bytes) x (signed_of (2 ^ 63) (le bytes)) (cc) (signed_back (2 ^ 63) (le bytes) small))
    settle U64 bytes x h l small e = whole U64 bytes x h l (back U64 (le bytes) x (pos (le bytes)) (cc) refl)
    settle Char bytes x h l small e =
        whole Char bytes x h l (back Char (le bytes) x (pos (le bytes)) (cond_some (is_scalar_value (le bytes)) (pos (le bytes)) x e).1 refl)
    settle F32 bytes x h l small e = whole F32 bytes x h l (back F32 (le bytes) x (pos (le bytes)) (cc) refl)
    settle F64 bytes x h l small e = whole F64 bytes x h l (back F64 (le bytes) x (pos (le bytes)) (cc) refl)

-- what lift gives fits
lifted_signed : (half n : ℕ) (x : ℤ) → n < 2 * half → signed_of half n ≡ x → IsSignedBelow half x
lifted_signed half n x h e =
    subst (IsSignedBelow half) e
    (⊎_elim (λ a. rw (lt-ltb n half a) (omega (arith, ints), omega (arith, ints))) (λ b. rw (le-ltb n half b) (omega (arith, ints), omega (arith, ints))) (cases_lt n half))

lifted_below : (limit n : ℕ) (x : ℤ) → n < limit → pos n ≡ x → IsBelow limit x
lifted_below limit n x h e = subst (IsBelow limit) e (omega (arith, ints), omega (arith, ints))

pub FitsScalar-lifted : (s : Scalar) (n : ℕ) (x : ℤ) → n < 256 ^ size_of s → lifted s n ≡ Some x → FitsScalar s x
FitsScalar-lifted Flag n x h e = lifted_below 2 (min n 1) x (omega arith) cc
FitsScalar-lifted S8 n x h e = lifted_signed (2 ^ 7) n x h cc
FitsScalar-lifted U8 n x h e = lifted_below (2 ^ 8) n x h cc
FitsScalar-lifted S16 n x h e = lifted_signed (2 ^ 15) n x h cc
FitsScalar-lifted U16 n x h e = lifted_below (2 ^ 16) n x h cc
FitsScalar-lifted S32 n x h e = lifted_signed (2 ^ 31) n x h cc
FitsScalar-lifted U32 n x h e = lifted_below (2 ^ 32) n x h cc
FitsScalar-lifted S64 n x h e = lifted_signed (2 ^ 63) n x h cc
FitsScalar-lifted U64 n x h e = lifted_below (2 ^ 64) n x h cc
FitsScalar-lifted Char n x h e =
    let c = cond_some (is_scalar_value n) (pos n) x e in
    subst (FitsScalar Char) c.1 ((omega (arith, ints), omega (arith, ints)), c.0)
FitsScalar-lifted F32 n x h e = lifted_below (2 ^ 32) n x h cc
FitsScalar-lifted F64 n x h e = lifted_below (2 ^ 64) n x h cc
