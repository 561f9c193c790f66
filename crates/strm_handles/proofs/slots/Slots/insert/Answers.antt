use Rattle.std.proofs.Common.{◌≡◌, ◌<◌, ◌≤◌, Err, refl, sym, arith}
use Rattle.std.proofs.lemmas.Bool.Decides.{nat_tests}
use Rattle.strm_handles.specs.Changes.{Inserts}
use Rattle.strm_handles.specs.Chain.{handles_in}
use Rattle.strm_handles.specs.Counters.{Counter}
use Rattle.strm_handles.specs.Handles.{TableOf, handle_limit, next_index}
use Rattle.strm_handles.specs.declared.errors.HandleError.TheVariants.{HandleLimit}
use Rattle.strm_handles.proofs.ChainLemmas.{length-chain, first_is_next, first_is_small}
use Rattle.strm_handles.proofs.slots.Slots.insert.Goals as goal

-- where no handle more may be made, nothing changes
limit_refuses : {E : Type 0} (t : TableOf E) (c : Counter) (e : E) → next_index t.handles < handle_limit → c.limit ≤ c.live → Inserts t t c c e (Err HandleLimit)
limit_refuses t c e below full = record {
  answer = λ _. grind (arith, nat_tests);
  last = λ is. absurd (cc);
  memory = λ is. absurd (cc);
  some = tt;
  small = tt;
  ok = tt;
  room = omega arith;
  live = tt;
  err = refl;
  kept = refl;
}

pub returns-then-is_full : goal.returns-then-is_full
returns-then-is_full g c =
    let t = c.self.inside in
    let some : 0 < t.free = omega (arith, c.if-self-eq0.false) in
    let below : next_index (handles_in t.slots.items t.free t.first) < handle_limit = omega (arith, first_is_next t.slots.items t.free t.first some, first_is_small t.slots.items t.free t.first some c.self.invariant) in
    limit_refuses c.args.self.now c.args.counter.now c.args.entry (rw (← c.self.view_is) below) (c.is_full.ensures.full.0 c.if-is_full.true)

pub refill-number-requires : goal.refill-number-requires
refill-number-requires g c =
    let t = c.self.inside in
    rw (← c.self.view_is) (omega (arith, c.if-self-eq0.false, length-chain t.slots.items t.free t.first))
