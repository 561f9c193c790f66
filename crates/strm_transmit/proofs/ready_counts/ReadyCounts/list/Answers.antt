-- A stream that is not listed yet has room in the list.
use Rattle.std.proofs.Common.{◌≡◌, ◌<◌, false, length, ap, sym, ◌∙◌, arith}
use Rattle.std.specs.Prelude.{vec_capacity}
use Rattle.std.proofs.lemmas.List.{get_or_read}
use Rattle.strm_transmit.specs.ReadyGuests.{entry_at, new_entry}
use Rattle.strm_transmit.specs.declared.ready_counts.Entry.{Entry}
use Rattle.strm_transmit.proofs.ReadyGuestLemmas.{sums-listed, fewer_listed, listed-more}
use Rattle.strm_transmit.proofs.ready_counts.ReadyCounts.list.Goals as goal

pub push_reserved-requires : goal.push_reserved-requires
push_reserved-requires c =
    let i = c.self.inside in
    let n = c.args.number in
    let inside : n < length i.streams.items = omega (arith, c.if-number-len.false, c.len.ensures, i.streams.ok) in
    let here = get_or_read i.streams.items n c.index_mut-entry.result.now inside c.index_mut-entry.ensures.value new_entry in
    let off : (entry_at i.streams.items n).is_listed ≡ false = ap (λ (e : Entry). e.is_listed) (sym here) ∙ c.if-not-entry.true in
    omega (arith, fewer_listed i.streams.items i.listed.items (vec_capacity i.listed) n inside off c.self.invariant.listed, c.self.invariant.listed.room, i.listed.ok)

pub invariant_of-self : goal.invariant_of-self
invariant_of-self c =
    let i = c.self.inside in
    let n = c.args.number in
    let inside : n < length i.streams.items = omega (arith, c.if-number-len.false, c.len.ensures, i.streams.ok) in
    let here = get_or_read i.streams.items n c.index_mut-entry.result.now inside c.index_mut-entry.ensures.value new_entry in
    let off : (entry_at i.streams.items n).is_listed ≡ false = ap (λ (e : Entry). e.is_listed) (sym here) ∙ c.if-not-entry.true in
    rw (here, c.push_reserved.ensures.items, c.push_reserved.ensures.capacity)
    (record {
      sums = sums-listed i.guests i.streams.items n inside c.self.invariant.sums;
      listed = listed-more i.streams.items i.listed.items (vec_capacity i.listed) n inside off c.self.invariant.listed;
    })
