-- A step is the call that its act names, in which a refusal is a reply.
use Rattle.std.proofs.Common.{◌≡◌, ◌≢◌, Result, Ok, Err, refl, sym, subst}
use Rattle.std.specs.Prelude.{IfErr}
use Rattle.strm_codes.specs.declared.refusals.Refusal.{Refusal}
use Rattle.strm_buffers.specs.Tells.{Tells}
use Rattle.strm_machine.specs.State.{State}
use Rattle.strm_machine.specs.Reactions.{Reaction}
use Rattle.strm_machine.specs.declared.acts.Act.{Act}
use Rattle.strm_machine.specs.declared.replies.Reply.{Reply}
use Rattle.strm_host_machine.specs.Does.{Answered, Does}
use Rattle.strm_host_machine.specs.Steps.{outcome}
use Rattle.strm_transmit.specs.Meets.{Meets, refused_too}
use Rattle.strm_transmit.specs.Hosted.{call_answered, MayBeDone, Leaves, ErrsByRecord, MeetsAlone, MeetsHosted, RunsOutOnlyTaking, RunsOutNoneHeld}
use Rattle.strm_transmit.specs.Performing.{EndsPerforming}
use Rattle.strm_transmit.specs.declared.errors.StoreError.{StoreError}
use Rattle.strm_transmit.specs.declared.errors.StoreError.TheVariants.{Refused, HostFailed, HostBroke, BadItem, StoreTrapped, OutOfMemory}
use Rattle.strm_transmit.proofs.HostStepLemmas.{Settles}

-- it is the same answer to the machine
pub refused-answered : (result : Result Reply StoreError) → call_answered (refused_too result) ≡ call_answered result
refused-answered (Ok reply) = refl
refused-answered (Err (Refused refusal)) = refl
refused-answered (Err (HostFailed end)) = refl
refused-answered (Err (HostBroke end)) = refl
refused-answered (Err (BadItem stream)) = refl
refused-answered (Err StoreTrapped) = refl
refused-answered (Err OutOfMemory) = refl

pub refused-meets : (old new : State) (result : Result Reply StoreError) (reaction : Reaction) → Meets old new result reaction → Meets old new (refused_too result) reaction
refused-meets old new (Ok reply) reaction m = m
refused-meets old new (Err (Refused refusal)) reaction m = m.0
refused-meets old new (Err (HostFailed end)) reaction m = m
refused-meets old new (Err (HostBroke end)) reaction m = m
refused-meets old new (Err (BadItem stream)) reaction m = m
refused-meets old new (Err StoreTrapped) reaction m = m
refused-meets old new (Err OutOfMemory) reaction m = m

pub refused-alone : (old new : State) (tells told : Tells) (result : Result Reply StoreError) (act : Act) → MeetsAlone old new tells told result act → MeetsAlone old new tells told (refused_too result) act
refused-alone old new tells told result act m = record { meets = refused-meets old new result _ m.meets; ends = m.ends }

pub refused-leaves : (old new : State) (tells told : Tells) (act : Act) (result : Result Reply StoreError) → IfErr result (Leaves act old new tells told) → IfErr (refused_too result) (Leaves act old new tells told)
refused-leaves old new tells told act (Ok reply) l = l
refused-leaves old new tells told act (Err (Refused refusal)) l = tt
refused-leaves old new tells told act (Err (HostFailed end)) l = l
refused-leaves old new tells told act (Err (HostBroke end)) l = l
refused-leaves old new tells told act (Err (BadItem stream)) l = l
refused-leaves old new tells told act (Err StoreTrapped) l = l
refused-leaves old new tells told act (Err OutOfMemory) l = l

refused-record : (tells told : Tells) (result : Result Reply StoreError) → IfErr result (ErrsByRecord tells told) → IfErr (refused_too result) (ErrsByRecord tells told)
refused-record tells told (Ok reply) l = l
refused-record tells told (Err (Refused refusal)) l = tt
refused-record tells told (Err (HostFailed end)) l = l
refused-record tells told (Err (HostBroke end)) l = l
refused-record tells told (Err (BadItem stream)) l = l
refused-record tells told (Err StoreTrapped) l = l
refused-record tells told (Err OutOfMemory) l = l

pub refused-out_of_memory : (old : State) (tells : Tells) (act : Act) (result : Result Reply StoreError) → (result ≡ Err OutOfMemory → MayBeDone old tells act) → refused_too result ≡ Err OutOfMemory → MayBeDone old tells act
refused-out_of_memory old tells act (Ok reply) m w = cc w
refused-out_of_memory old tells act (Err (Refused refusal)) m w = cc w
refused-out_of_memory old tells act (Err (HostFailed end)) m w = cc w
refused-out_of_memory old tells act (Err (HostBroke end)) m w = cc w
refused-out_of_memory old tells act (Err (BadItem stream)) m w = cc w
refused-out_of_memory old tells act (Err StoreTrapped) m w = cc w
refused-out_of_memory old tells act (Err OutOfMemory) m w = m refl

pub refused-settled : (result : Result Reply StoreError) → Settles result → Settles (refused_too result)
refused-settled (Ok reply) s = s
refused-settled (Err (Refused refusal)) s = refl
refused-settled (Err (HostFailed end)) s = s
refused-settled (Err (HostBroke end)) s = s
refused-settled (Err (BadItem stream)) s = s
refused-settled (Err StoreTrapped) s = s
refused-settled (Err OutOfMemory) s = s

-- and the same call of the machine among host ends
pub refused-hosted : (old new : State) (tells told : Tells) (result : Result Reply StoreError) (act : Act) → MeetsHosted old new tells told result act → MeetsHosted old new tells told (refused_too result) act
refused-hosted old new tells told result act m = record {
  does = subst (λ (a : Answered). Does old new tells told a (λ world. outcome world act)) (sym (refused-answered result)) m.does;
  fits = m.fits;
  alone = λ u. refused-alone old new tells told result act (m.alone u);
  err = refused-leaves old new tells told act result m.err;
  by_record = refused-record tells told result m.by_record;
  out_of_memory = refused-out_of_memory old tells act result m.out_of_memory;
}

-- a refusal is no error then
refused-none : (result : Result Reply StoreError) (refusal : Refusal) → refused_too result ≢ Err (Refused refusal)
refused-none (Ok reply) refusal = λ e. cc e
refused-none (Err (Refused other)) refusal = λ e. cc e
refused-none (Err (HostFailed end)) refusal = λ e. cc e
refused-none (Err (HostBroke end)) refusal = λ e. cc e
refused-none (Err (BadItem stream)) refusal = λ e. cc e
refused-none (Err StoreTrapped) refusal = λ e. cc e
refused-none (Err OutOfMemory) refusal = λ e. cc e

-- memory had run out in the call itself
refused-runs_out : (result : Result Reply StoreError) → refused_too result ≡ Err OutOfMemory → result ≡ Err OutOfMemory
refused-runs_out (Ok reply) w = cc w
refused-runs_out (Err (Refused refusal)) w = cc w
refused-runs_out (Err (HostFailed end)) w = cc w
refused-runs_out (Err (HostBroke end)) w = cc w
refused-runs_out (Err (BadItem stream)) w = cc w
refused-runs_out (Err StoreTrapped) w = cc w
refused-runs_out (Err OutOfMemory) w = refl

-- a step may end as its call does
pub refused-ends : (old : State) (tells : Tells) (act : Act) (result : Result Reply StoreError) → Settles result → RunsOutOnlyTaking old act result → RunsOutNoneHeld old tells act result → EndsPerforming old tells act (refused_too result)
refused-ends old tells act result settled memory held = record {
  settled = refused-settled result settled;
  refused = refused-none result;
  takes_no_memory = λ t p w. memory t p (refused-runs_out result w);
  held = λ h w. held h (refused-runs_out result w);
}
