-- The consumers of the tests do what every consumer owes.
use Rattle.std.proofs.Common.{◌≡◌, ℕ, ◌+◌, inl, inr, List, ◌++◌, length, take, Some, refl, sym, ap, ◌∙◌, arith}
use Rattle.std.proofs.lemmas.List.{take_all}
use Rattle.strm_codes.specs.declared.codes.StreamResult.{StreamResult}
use Rattle.strm_buffers.specs.declared.answers.Turn.{Turn}
use Rattle.strm_buffers.specs.declared.answers.Turn.TheVariants.{Pending, Ready, Failed, NoMemory}
use Rattle.strm_memory.specs.Items.{byte_items}
use Rattle.strm_buffers.specs.Offers.{Offered, left_of}
use Rattle.strm_buffers.specs.Said.{IfAnswered, IfNoMemory}
use Rattle.strm_buffers.specs.Tells.{SameOffer, RisesOnFailed}
use Rattle.strm_buffers.specs.declared.answers.Answer.TheVariants.{Completed}
use Rattle.strm_host.specs.Futures.{IfFailed}
use Rattle.strm_host.specs.FutureConsuming.{IfTurnOutOfMemory}
use Rattle.strm_host.specs.Consuming.{ConsumerPoll, offering_of, took_more}
use Rattle.strm_host.proofs.OfferingLemmas.{all_left, taken_whole}
use Rattle.strm_host_tests.specs.Consumers.{TakesAll, Copies, TurnGoesOn}

abbrev IsTaking : ConsumerPoll → ConsumerPoll → Type 0
IsTaking planned done = planned ≡ done

-- what a consumer owes that takes all and never fails, of the offer before and after, and its turn
pub record Owes (old new : Offered) (turn : Turn StreamResult) : Type 0 where
  pub same : SameOffer old new
  pub untaken : IfNoMemory turn (new.taken ≡ 0)
  pub failed : IfAnswered turn (λ answer. RisesOnFailed answer 0 0)
  pub plan : IfAnswered turn (λ answer. IsTaking (record { taken = length (offering_of old).items; answer = Completed }) (record { taken = new.taken; answer = answer }))

pub owes_all : (old new : Offered) (turn : Turn StreamResult) → old.taken ≡ 0 → TakesAll old new turn → Owes old new turn
owes_all old new turn e (inl w) = record {
  same = rw w.1 (record { payload = refl; source = refl; since = refl });
  untaken = rw (w.0, w.1) e;
  failed = rw w.0 tt;
  plan = rw w.0 tt;
}
owes_all old new turn e (inr w) = record {
  same = rw w.2 (record { payload = refl; source = refl; since = refl });
  untaken = rw w.3 tt;
  failed = rw w.3 (omega arith);
  plan = rw (w.3, w.2, taken_whole old w.0 e w.1) refl;
}

-- and one that copies them
module _ (had has : List ℕ) (old new : Offered) (turn : Turn StreamResult) (e : old.taken ≡ 0) where
  pub owes_copied : Copies had has old new turn → Owes old new turn
  owes_copied (inl w) = record {
    same = rw w.1 (record { payload = refl; source = refl; since = refl });
    untaken = rw (w.0, w.1) e;
    failed = rw w.0 tt;
    plan = rw w.0 tt;
  }
  owes_copied (inr w) =
      let all : old.taken + length (left_of old) ≡ length (offering_of old).items = omega (arith, e, ap length (all_left old e)) in
      record {
        same = rw w.1 (record { payload = refl; source = refl; since = refl });
        untaken = rw w.2 tt;
        failed = rw w.2 (omega arith);
        plan = rw (w.2, w.1, all) refl;
      }

  pub copied_kept : Copies had has old new turn → IfNoMemory turn (Some (byte_items has) ≡ Some (byte_items had))
  copied_kept (inl w) = rw (w.0, w.2) refl
  copied_kept (inr w) = rw w.2 tt

  pub copied_took : Copies had has old new turn → IfAnswered turn (λ _. Some (byte_items has) ≡ took_more (Some (byte_items had)) new.taken (offering_of old))
  copied_took (inl w) = rw w.0 tt
  copied_took (inr w) =
      let items = (offering_of old).items in
      let all : new.taken ≡ length items = ap (λ (o : Offered). o.taken) w.1 ∙ omega (arith, e, ap length (all_left old e)) in
      let is : take new.taken items ≡ left_of old = take_all new.taken items (omega (arith, all)) ∙ sym (all_left old e) in
      rw w.2 (ap Some (w.0 ∙ ap (λ l. byte_items had ++ l) (sym is)))

-- FUTURES

pub never_wants : (P : Type 0) (turn : Turn (Unit {0})) → TurnGoesOn turn → IfTurnOutOfMemory turn P
never_wants P Pending g = tt
never_wants P (Ready u) g = tt
never_wants P Failed g = tt
never_wants P NoMemory g = absurd g

pub never_fails : (P : Type 0) (turn : Turn (Unit {0})) → TurnGoesOn turn → IfFailed turn P
never_fails P Pending g = tt
never_fails P (Ready u) g = tt
never_fails P Failed g = absurd g
never_fails P NoMemory g = tt
