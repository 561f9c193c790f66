-- Where memories lie, after any call.
use Rattle.std.proofs.Common.{◌≡◌, ℕ, List, ◌++◌, length, Result, Ok, Err, refl, sym, subst, ◌∙◌}
use Rattle.std.specs.Ptr.{Ptr}
use Rattle.strm_machine.specs.State.{State, memory_in, with_memory}
use Rattle.strm_machine.specs.Bases.{BasesStay, BasesStayBut}
use Rattle.strm_machine.specs.Growth.{adds_guest_at, grown, moved_to}
use Rattle.strm_machine.proofs.GrowthLemmas.{adds_guest_at-by}
use Rattle.strm_machine.specs.Acts.{act_of}
use Rattle.strm_machine.specs.Reactions.{Reaction, reaction, react, lowers_context}
use Rattle.strm_machine.specs.declared.acts.Act.{Act}
use Rattle.strm_machine.specs.declared.replies.Reply.{Reply}
use Rattle.strm_machine.specs.declared.steps.Step.{Step}
use Rattle.strm_machine.proofs.BaseLemmas.{reaction-bases, lowered-bases, base_in-with_memory, base_in-behind_but, base_in-with_base_but}
use Rattle.strm_transmit.specs.Meets.{Meets}
use Rattle.strm_transmit.specs.declared.errors.StoreError.{StoreError}
use Rattle.strm_transmit.specs.declared.errors.StoreError.TheVariants as errors
use Rattle.strm_codes.specs.declared.codes.ReturnCode.{ReturnCode}
use Rattle.strm_machine.specs.declared.replies.Reply.TheVariants as replies
use Rattle.strm_guest_store.specs.Among.{IsAmongGuests}
use Rattle.strm_guest_store.specs.Operations.{MeetsOrTells}
use Rattle.strm_guest_store.specs.declared.operations.OperateError.{OperateError}
use Rattle.strm_guest_store.specs.declared.operations.OperateError.TheVariants as operate_errors
use Rattle.strm_transmit.proofs.AgainLemmas.{meets_leaves}

-- a state that is another
same_bases : (old new : State) → new ≡ old → BasesStay old.guests new.guests
same_bases old new e = subst (λ (s : State). BasesStay old.guests s.guests) (sym e) (λ k. refl)

done_bases : (old new : State) (r : Reaction) (reply : Reply) → BasesStay old.guests r.state.guests → r ≡ record { reply = reply; state = new } → BasesStay old.guests new.guests
done_bases old new r reply h e = subst (λ (r : Reaction). BasesStay old.guests r.state.guests) e h

meets-bases : (old new : State) (result : Result Reply StoreError) (r : Reaction) → BasesStay old.guests r.state.guests → Meets old new result r → BasesStay old.guests new.guests
meets-bases old new (Ok reply) r h m = done_bases old new r reply h m
meets-bases old new (Err (errors.Refused refusal)) r h m = same_bases old new m.1
meets-bases old new (Err (errors.HostFailed end)) r h m = absurd m
meets-bases old new (Err (errors.HostBroke end)) r h m = absurd m
meets-bases old new (Err (errors.BadItem stream)) r h m = done_bases old new r _ h m.0
meets-bases old new (Err errors.StoreTrapped) r h m = same_bases old new m.1
meets-bases old new (Err errors.OutOfMemory) r h m = same_bases old new m.1

-- a call that is the machine's step
pub plain_stays : (old new : State) (result : Result Reply StoreError) (act : Act) → IsAmongGuests old → Meets old new result (reaction old act) → BasesStay old.guests new.guests
plain_stays old new result act among m = meets-bases old new result (reaction old act) (reaction-bases old act among.unhosted.sound) m

pub step-bases : (old new : State) (result : Result Reply StoreError) (step : Step) → IsAmongGuests old → Meets old new result (react old step) → BasesStay old.guests new.guests
step-bases old new result step among m = plain_stays old new result (act_of step) among m

pub lowering-bases : (old new : State) (result : Result Reply StoreError) (number guest : ℕ) → Meets old new result (lowers_context old number guest) → BasesStay old.guests new.guests
lowering-bases old new result number guest m = meets-bases old new result (lowers_context old number guest) (lowered-bases old number guest) m

-- a read or write
pub operation-bases : (old new : State) (result : Result ReturnCode OperateError) (step : Step) → IsAmongGuests old → MeetsOrTells old new result step → BasesStay old.guests new.guests
operation-bases old new (Ok code) step among m = step-bases old new (Ok (replies.Code code)) step among m
operation-bases old new (Err (operate_errors.Refused refusal)) step among m = same_bases old new m.1
operation-bases old new (Err (operate_errors.BadItem item)) step among m = same_bases old new m.1

-- ## Memories that an engine lent

-- a guest over one
adds-bases : (old : State) (bytes : List ℕ) (base : Ptr) → BasesStayBut (length old.guests) old.guests (adds_guest_at old bytes base).state.guests
adds-bases old bytes base =
    adds_guest_at-by (λ (s : State). BasesStayBut (length old.guests) old.guests s.guests) old bytes base (λ k ne. refl)
    (λ fits k ne. base_in-behind_but old.guests _ k ne)

pub added_stays : (old new : State) (result : Result Reply StoreError) (bytes : List ℕ) (base : Ptr) → Meets old new result (adds_guest_at old bytes base) → BasesStayBut (length old.guests) old.guests new.guests
added_stays old new result bytes base m =
    meets_leaves (λ (s : State). BasesStayBut (length old.guests) old.guests s.guests) old new result (adds_guest_at old bytes base) (λ k ne. refl) (adds-bases old bytes base) m

-- one that grew where it lies
pub grown_stays : (old : State) (g : ℕ) (more : List ℕ) → BasesStay old.guests (grown old g more).guests
grown_stays old g more k = base_in-with_memory old.guests g (memory_in old.guests g ++ more) k

-- and one that moved
pub moved_stays : (old : State) (g : ℕ) (more : List ℕ) (base : Ptr) → BasesStayBut g old.guests (moved_to old g more base).guests
moved_stays old g more base k ne =
    base_in-with_base_but (with_memory old.guests g (memory_in old.guests g ++ more)) g base k ne
    ∙ base_in-with_memory old.guests g (memory_in old.guests g ++ more) k
