-- The last of the list is counted as its ends are.
use Rattle.std.proofs.Common.{◌≡◌, ℕ, ◌<◌, ◌≤◌, List, length, ap, sym, ◌∙◌, subst, arith}
use Rattle.std.specs.Prelude.{vec_capacity}
use Rattle.std.proofs.lemmas.List.{get_or_read}
use Rattle.strm_machine.specs.State.{no_stream}
use Rattle.strm_machine.specs.declared.streams.Stream.{Stream}
use Rattle.strm_transmit.specs.ReadyGuests.{ends_for, ready_by, put_at, AreListed, AreCounted}
use Rattle.strm_transmit.proofs.ReadyGuestLemmas.{may_put, sums-put, listed-put, counted-put}
use Rattle.strm_transmit.proofs.ready_counts.ReadyCounts.settle_last.Goals as goal

pub put-requires : goal.put-requires
put-requires c =
    let i = c.self.inside in
    let inside : c.take_last-number.result < length i.streams.items = omega (arith, c.if-number-len.true, c.len.ensures, i.streams.ok) in
    may_put i.guests i.streams.items c.take_last-number.result inside c.self.invariant.sums

pub invariant_of-self : goal.invariant_of-self
invariant_of-self c =
    let i = c.self.inside in
    let n = c.take_last-number.result in
    let streams = c.args.streams.now.items in
    let inside : n < length i.streams.items = omega (arith, c.if-number-len.true, c.len.ensures, i.streams.ok) in
    let counted = rw (← c.self.view_is) at c.requires.counted in
    let here = get_or_read streams n c.index.result.now (omega (arith, inside, counted.all)) c.index.ensures no_stream in
    let none : (g : ℕ) → length i.guests ≤ g → ends_for (ready_by c.index.result.now) g ≡ 0 = λ g past. ap (λ (x : Stream). ends_for (ready_by x) g) here ∙ (rw (← c.self.view_is) at c.requires.within) n g past in
    rw (c.put.ensures.entries, c.take_last-number.ensures.capacity)
    (record {
      sums = sums-put i.guests c.put.new.counts i.streams.items n c.index.result.now inside none c.put.ensures.counts c.self.invariant.sums;
      listed = listed-put i.streams.items c.take_last-number.new.self.items (vec_capacity i.listed) n c.index.result.now inside
          (subst (λ (xs : List ℕ). AreListed i.streams.items xs (vec_capacity i.listed)) c.take_last-number.ensures.items c.self.invariant.listed);
    })

pub returns-then-number-len-clause-counted : goal.returns-then-number-len-clause-counted
returns-then-number-len-clause-counted c =
    let i = c.self.inside in
    let n = c.take_last-number.result in
    let streams = c.args.streams.now.items in
    let inside : n < length i.streams.items = omega (arith, c.if-number-len.true, c.len.ensures, i.streams.ok) in
    let counted = rw (← c.self.view_is) at c.requires.counted in
    let here = get_or_read streams n c.index.result.now (omega (arith, inside, counted.all)) c.index.ensures no_stream in
    rw c.put.ensures.entries
    (subst (λ (x : Stream). AreCounted streams (put_at i.streams.items n x)) (sym here) (counted-put streams i.streams.items n inside counted))
