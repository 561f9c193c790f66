-- What is kept of a store holds of one that was just made.
use Rattle.std.proofs.Common.{◌≡◌, ℕ, zero, suc, true, false, List, [], get_or, refl, ap, ◌∙◌, arith}
use Rattle.std.specs.Prelude.{ℤ, replicate}
use Rattle.std.proofs.lemmas.List.{get_or_past, length-replicate}
use Rattle.std.proofs.lemmas.List.Elements.{All-nil}
use Rattle.strm_handles.specs.Handles.{no_handles}
use Rattle.strm_handles.specs.Lookups.{end_rep_of}
use Rattle.strm_handles.proofs.HandleLemmas.{IsTable-no_handles}
use Rattle.strm_machine.specs.Words.{empty, no_stream, stream_at, end_of, Side, Writing, Reading, IsSound, StreamIsPlaced}
use Rattle.strm_machine.specs.Hosting.{duty_of, HostsHold}
use Rattle.strm_machine.specs.Soundness.{AreNamed}
use Rattle.strm_machine.specs.Moments.{is_end}
use Rattle.strm_machine.specs.State.{is_host, host_limit, no_producer, no_consumer}
use Rattle.strm_machine.specs.declared.limits.Limits.{Limits}
use Rattle.strm_machine.specs.declared.streams.Duty.TheVariants.{Unused}
use Rattle.strm_machine.specs.declared.streams.Owner.TheVariants.{Held}
use Rattle.strm_machine.specs.declared.streams.Duty.{Duty}
use Rattle.strm_machine.specs.declared.streams.Producer.{Producer}
use Rattle.strm_machine.specs.declared.streams.Consumer.{Consumer}
use Rattle.strm_machine.proofs.ErrorContextLemmas.{HoldsContexts-none}
use Rattle.strm_machine.proofs.HeldLemmas.{StateIsHeld}
use Rattle.strm_machine.proofs.HostLemmas.{no_host}
use Rattle.strm_machine.proofs.WaitableSetLemmas.{HoldSets-none}

pub IsSound-empty : (tag : ℕ) (limits : Limits) → IsSound (empty tag limits)
IsSound-empty tag limits = record {
  named = All-nil (AreNamed []);
  placed = All-nil (StreamIsPlaced []);
  small = λ g. omega arith;
  own = omega arith;
  sets = HoldSets-none;
  contexts = HoldsContexts-none;
}

-- no handle names an end, and none is held
no_end_named : (handle s : ℕ) (side : Side) → is_end s side (end_rep_of no_handles handle) ≡ true → ⊥
no_end_named zero s side is = cc
no_end_named (suc i) s side is = cc

no_end_held : (side : Side) (g handle : ℕ) → (end_of side no_stream).owner ≡ Held g handle → ⊥
no_end_held Writing g handle is = cc
no_end_held Reading g handle is = cc

pub StateIsHeld-empty : (tag : ℕ) (limits : Limits) → StateIsHeld (empty tag limits)
StateIsHeld-empty tag limits = record {
  tables = λ g. IsTable-no_handles;
  agree = record {
    named = λ g handle s side is. absurd (no_end_named handle s side is);
    held = λ g handle s side is. absurd (no_end_held side g handle is);
  };
}

-- no host end has a stream
pub HostsHold-empty : (tag : ℕ) (limits : Limits) → HostsHold (empty tag limits)
HostsHold-empty tag limits =
    let none : (s : ℕ) → stream_at (empty tag limits) s ≡ no_stream = λ s. get_or_past (empty tag limits).streams s no_stream (omega arith) in
    record {
      all = length-replicate {A = Producer} host_limit no_producer;
      all_kept = length-replicate {A = List (List ℤ)} host_limit [];
      all_readers = length-replicate {A = Consumer} host_limit no_consumer;
      serve = λ side n s. record {
        serves = λ e. absurd (no_host (end_of side (stream_at (empty tag limits) s)).owner n (ap (λ st. is_host (end_of side st).owner) (none s) ∙ nobody side) e);
        owns = λ e. absurd (let unused = unused_by side n in cc);
        idle = λ e. absurd (no_host (end_of side (stream_at (empty tag limits) s)).owner n (ap (λ st. is_host (end_of side st).owner) (none s) ∙ nobody side) e);
      };
      keeps = λ n u. nothing_kept host_limit n;
    }
  where
    nobody : (side : Side) → is_host (end_of side no_stream).owner ≡ false
    nobody Writing = refl
    nobody Reading = refl

    unused_all : {A : Type 0} (duty : A → Duty) (none : A) (m n : ℕ) → duty none ≡ Unused → duty (get_or (replicate m none) n none) ≡ Unused
    unused_all duty none zero n e = e
    unused_all duty none (suc m) zero e = e
    unused_all duty none (suc m) (suc n) e = unused_all duty none m n e

    unused_by : (side : Side) (n : ℕ) → duty_of side (empty tag limits) n ≡ Unused
    unused_by Writing n = unused_all (λ (p : Producer). p.duty) no_producer host_limit n refl
    unused_by Reading n = unused_all (λ (c : Consumer). c.duty) no_consumer host_limit n refl

    nothing_kept : (m n : ℕ) → get_or (replicate {A = List (List ℤ)} m []) n [] ≡ []
    nothing_kept zero n = refl
    nothing_kept (suc m) zero = refl
    nothing_kept (suc m) (suc n) = nothing_kept m n
