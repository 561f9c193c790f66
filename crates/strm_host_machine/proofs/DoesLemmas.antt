-- What one piece of code did and what the next one did make up what both do.
use Rattle.std.proofs.Common.{◌≡◌, ℕ, ◌≤◌, List, [], ◌∷◌, ◌++◌, Ok, Err, Option, Some, None, refl, sym, ap, subst, ◌∙◌, arith}
use Rattle.std.proofs.Math.Seq.{drop-length}
use Rattle.std.proofs.lemmas.List.{append-nil}
use Rattle.strm_codes.specs.Counters.{Rose}
use Rattle.strm_buffers.specs.Tells.{Tells}
use Rattle.std.proofs.Math.Nat.{le_trans}
use Rattle.std.proofs.lemmas.Bool.Decides.{nat_tests}
use Rattle.strm_machine.specs.State.{State}
use Rattle.strm_machine.specs.declared.stops.Stop.{Stop}
use Rattle.strm_machine.specs.declared.stops.Stop.TheVariants.{HostFailed}
use Rattle.strm_machine.specs.declared.streams.HostEnd.{HostEnd}
use Rattle.strm_machine.specs.declared.replies.Reply.{Reply}
use Rattle.strm_host_machine.specs.World.{World}
use Rattle.strm_host_machine.specs.Outcomes.{Outcome, Stops, then_on}
use Rattle.strm_host_machine.specs.Does.{Logs, LogBegins, AllBegin, saids, Extends, world_of, Answered, Gives, faults_of, Caused, Does}

-- a count that rose has risen since it was less
pub rose_more : (a b c : ℕ) → a ≤ b → Rose b c → Rose a c
rose_more a b c h r = grind (arith, nat_tests)

-- a cause in the second part is one of the whole
caused_from : (x y z : Tells) (result : Answered) → ((end : HostEnd) → faults_of x end ≤ faults_of y end) → Caused result y z → Caused result x z
caused_from x y z (Ok reply) h c = tt
caused_from x y z (Err None) h c = tt
caused_from x y z (Err (Some (HostFailed end))) h c = rose_more (faults_of x end) (faults_of y end) (faults_of z end) (h end) c
caused_from x y z (Err (Some _)) h c = tt

-- a part that went on, and then another
pub Does-then : (a b c : State) (x y z : Tells) (reply : Reply) (result : Answered) (m n : World → Outcome)
    → Does a b x y (Ok reply) m → Does b c y z result n → Does a c x z result (λ w. then_on (m w) n)
Does-then a b c x y z reply result m n d k = record {
  begins = λ logs e. d.begins logs (k.begins logs e);
  gives = λ logs e.
      subst (λ o. Gives result (world_of c z logs) (then_on o n)) (sym (d.gives logs (k.begins logs e))) (k.gives logs e);
  supplied = λ first s. k.supplied first (d.supplied first s);
  faults = λ end. le_trans (d.faults end) (k.faults end);
  cause = caused_from x y z result d.faults k.cause;
}

-- a part that stopped: nothing follows
stops_on : (o : Outcome) (n : World → Outcome) (result : Option Stop) (after : World) → Gives (Err result) after o → Gives (Err result) after (then_on o n)
stops_on o n None after g = tt
stops_on o n (Some stop) after g = subst (λ p. then_on p n ≡ Stops stop after.writers after.readers) (sym g) refl

pub Does-stop : (a c : State) (x z : Tells) (stop : Option Stop) (m n : World → Outcome)
    → Does a c x z (Err stop) m → Does a c x z (Err stop) (λ w. then_on (m w) n)
Does-stop a c x z stop m n d = record {
  begins = d.begins;
  gives = λ logs e. stops_on (m (world_of a x logs)) n stop (world_of c z logs) (d.gives logs e);
  supplied = d.supplied;
  faults = d.faults;
  cause = d.cause;
}

-- a part in which no host end told anything
pub Does-untold : (old new : State) (tells : Tells) (result : Answered) (machine : World → Outcome)
    → ((logs : Logs) → Gives result (world_of new tells logs) (machine (world_of old tells logs))) → Caused result tells tells → Does old new tells tells result machine
Does-untold old new tells result machine gives cause = record {
  begins = λ logs e. e;
  gives = λ logs e. gives logs;
  supplied = λ first s. s;
  faults = λ end. omega arith;
  cause = cause;
}

-- the same part of a machine that does the same
pub Does-as : (a c : State) (x z : Tells) (result : Answered) (m n : World → Outcome)
    → ((logs : Logs) → n (world_of a x logs) ≡ m (world_of a x logs)) → Does a c x z result m → Does a c x z result n
Does-as a c x z result m n same d = record {
  begins = d.begins;
  gives = λ logs e. subst (Gives result (world_of c z logs)) (sym (same logs)) (d.gives logs e);
  supplied = d.supplied;
  faults = d.faults;
  cause = d.cause;
}

module _ {A : Type 0} where
  begins_self : (said : List A) → LogBegins said said
  begins_self said = sym (ap (λ rest. said ++ rest) (drop-length said) ∙ append-nil said)

  all_begin_self : (saids : List (List A)) → AllBegin saids saids
  all_begin_self [] = tt
  all_begin_self (said ∷ more) = (begins_self said, all_begin_self more)

-- where no more is to come
pub extends_self : (tells : Tells) → Extends tells (saids tells)
extends_self tells = (all_begin_self (saids tells).writers, all_begin_self (saids tells).readers)
