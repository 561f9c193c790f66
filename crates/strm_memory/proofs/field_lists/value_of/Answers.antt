use Rattle.std.proofs.Common.{◌≡◌, ◌≤◌, ℕ, ℤ, List, ◌++◌, length, take, Option, None, arith}
use Rattle.std.proofs.lemmas.List.{take_at}
use Rattle.std.specs.Prelude.{All, IsSome}
use Rattle.strm_codes.specs.Items.{IsNumber}
use Rattle.strm_memory.proofs.FieldLemmas.{IsNumber-FitsFields, length-FitsFields}
use Rattle.strm_memory.proofs.field_lists.value_of.Goals as goal

never_none : {A : Type 0} (out rest : List ℤ) (n : ℕ) (o : Option A) → length out ≡ n → n ≤ 8 → All IsNumber out → ((length (take n (out ++ rest)) ≤ 16) × All IsNumber (take n (out ++ rest)) → IsSome o) → o ≡ None → ⊥
never_none out rest n o l m f some none =
    let s = rw (take_at out rest n l) at some in
    let t = s (omega (arith, l, m), f) in cc

pub unreachable-requires : goal.unreachable-requires
unreachable-requires g c =
    never_none c.write.new.out _ _ _ (omega (arith, length-FitsFields _ _ c.write.ensures.fits, c.count-len.ensures)) (omega (arith, c.count-len.ensures, c.requires)) (IsNumber-FitsFields _ _ c.write.ensures.fits) c.new.ensures.some.1 c.in-None.is
