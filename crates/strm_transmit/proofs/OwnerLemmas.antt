-- An operation stays one of the guest that has its end where an end becomes another: its operation ends or is
-- cancelled, or it goes to another owner while it has none.
use Rattle.std.proofs.Common.{◌≡◌, ℕ, zero, suc, Bool, true, false, List, [], ◌∷◌, set, Option, Some, None, refl, sym, ap, ◌∙◌}
use Rattle.std.specs.Prelude.{is_some}
use Rattle.std.specs.Option.{option_map}
use Rattle.strm_codes.specs.declared.codes.ReturnCode.{ReturnCode}
use Rattle.strm_machine.specs.Endings.{told_end, dropped, asked_to_finish, waits_for_host, code_of_cancel, cancelled_end, cancelled}
use Rattle.strm_machine.specs.Moves.{with_owner}
use Rattle.strm_machine.specs.Sides.{end_of, with_end}
use Rattle.strm_machine.specs.declared.streams.End.{End}
use Rattle.strm_machine.specs.declared.streams.Operation.{Operation}
use Rattle.strm_machine.specs.declared.streams.Owner.{Owner}
use Rattle.strm_machine.specs.declared.streams.Owner.TheVariants.{Held, Gone}
use Rattle.strm_machine.specs.declared.streams.Side.{Side}
use Rattle.strm_machine.specs.declared.streams.Side.TheVariants.{Writing, Reading}
use Rattle.strm_machine.specs.declared.streams.Stream.{Stream}
use Rattle.strm_transmit.specs.Guests.{IsOfOwner, AreOfOwners}

-- ## One end

-- of an end without an operation nothing is said
pub idle-owned : (end : End) → end.operation ≡ None → IsOfOwner end
idle-owned end none operation e = let wrong : None ≡ Some operation = sym none ∙ e in cc

-- one that nobody can have had an operation on
pub not_busy : (o : Option Operation) → is_some o ≡ false → o ≡ None
not_busy None e = refl
not_busy (Some operation) e = cc

-- its operation ends, or stays
pub told_by-owned : (code : Option ReturnCode) (end : End) → IsOfOwner end → IsOfOwner (told_end code end)
told_by-owned None end own = own
told_by-owned (Some code) end own = λ operation e. cc

pub cancelled_by-owned : (b : Bool) (code : ReturnCode) (end : End) → IsOfOwner end → IsOfOwner (cancelled_end b code end)
cancelled_by-owned false code end own = told_by-owned (Some code) end own
cancelled_by-owned true code end own = λ operation. asked end.operation refl operation
  where
    asked : (o : Option Operation) → end.operation ≡ o → (operation : Operation) → option_map asked_to_finish o ≡ Some operation → (handle : ℕ) × (end.owner ≡ Held operation.guest handle)
    asked None e operation f = cc
    asked (Some mine) e operation f =
        let held = own mine e in
        let same : asked_to_finish mine ≡ operation = cc in
        (held.0, held.1 ∙ ap (λ (o : Operation). Held o.guest held.0) same)

-- ## One stream

-- of both ends of a stream
abbrev pub StreamOwned : Stream → Type 0
StreamOwned stream = (side : Side) → IsOfOwner (end_of side stream)

pub with_end-owned : (side : Side) (stream : Stream) (end : End) → StreamOwned stream → IsOfOwner end → StreamOwned (with_end side stream end)
with_end-owned Writing stream end all own Writing = own
with_end-owned Writing stream end all own Reading = all Reading
with_end-owned Reading stream end all own Writing = all Writing
with_end-owned Reading stream end all own Reading = own

-- another owner, where the end has no operation
pub with_owner-owned : (side : Side) (stream : Stream) (owner : Owner) → StreamOwned stream → (end_of side stream).operation ≡ None → StreamOwned (with_owner side stream owner)
with_owner-owned side stream owner all none =
    with_end-owned side stream (record (end_of side stream) { owner = owner }) all (idle-owned (record (end_of side stream) { owner = owner }) none)

pub cancelled-owned : (side : Side) (stream : Stream) → StreamOwned stream → StreamOwned (cancelled side stream)
unfolding cancelled
cancelled-owned side stream all =
    with_end-owned side stream (cancelled_end (waits_for_host side stream) (code_of_cancel side stream) (end_of side stream)) all
    (cancelled_by-owned (waits_for_host side stream) (code_of_cancel side stream) (end_of side stream) (all side))

pub dropped-owned : (side : Side) (stream : Stream) → StreamOwned stream → (end_of side stream).operation ≡ None → StreamOwned (dropped side stream)
unfolding dropped
dropped-owned side stream all none = with_owner-owned side stream Gone all none

-- ## All streams

-- one of them is another
pub set-owned : (streams : List Stream) (s : ℕ) (x : Stream) → AreOfOwners streams → StreamOwned x → AreOfOwners (set streams s x)
set-owned [] s x all own k side = all k side
set-owned (y ∷ ys) zero x all own zero side = own side
set-owned (y ∷ ys) zero x all own (suc k) side = all (suc k) side
set-owned (y ∷ ys) (suc s) x all own zero side = all zero side
set-owned (y ∷ ys) (suc s) x all own (suc k) side = set-owned ys s x (λ j. all (suc j)) own k side
