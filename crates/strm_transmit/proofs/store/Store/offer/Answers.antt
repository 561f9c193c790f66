use Rattle.std.proofs.Common.{refl, sym, ◌∙◌}
use Rattle.std.proofs.lemmas.List.{length-set}
use Rattle.strm_machine.specs.declared.streams.Side.TheVariants.{Writing, Reading}
use Rattle.strm_transmit.proofs.StoreLemmas.{stream_at-there}
use Rattle.strm_transmit.proofs.PipeKeptLemmas.{offers_keep}
use Rattle.strm_transmit.proofs.RoundStoreLemmas.{writer_known, reader_known, writer_fits, reader_fits, serves, place, entry_there, entry_payload, entry_type, offers_in, IsStore-passed, duties_set, reader_duties_set, hosts_held}
use Rattle.strm_transmit.proofs.store.Store.offer.Goals as goal

pub bounds-self-inside-place : goal.bounds-self-inside-place
bounds-self-inside-place g c = writer_known c.self.inside c.args.self.now _ c.args.stream c.args.writer c.args.reader c.self.view_is c.self.invariant c.requires.pipe

pub bounds-self-inside-taker : goal.bounds-self-inside-taker
bounds-self-inside-taker g c = reader_known c.self.inside c.args.self.now _ c.args.stream c.args.writer c.args.reader c.self.view_is c.self.invariant c.requires.pipe

pub index_mut-kept-requires : goal.index_mut-kept-requires
index_mut-kept-requires g c = entry_there c.self.inside c.args.self.now _ c.args.stream c.args.writer c.args.reader c.self.view_is c.self.invariant c.requires.pipe

pub offer_of-offered-requires-clause-writer_there : goal.offer_of-offered-requires-clause-writer_there
offer_of-offered-requires-clause-writer_there g c = (writer_fits c.self.inside c.args.self.now _ c.args.stream c.args.writer c.args.reader c.self.view_is c.self.invariant c.requires.pipe).there

pub offer_of-offered-requires-clause-reader_there : goal.offer_of-offered-requires-clause-reader_there
offer_of-offered-requires-clause-reader_there g c = (reader_fits c.self.inside c.args.self.now _ c.args.stream c.args.writer c.args.reader c.self.view_is c.self.invariant c.requires.pipe).there

pub bounds-self-inside-taker-2 : goal.bounds-self-inside-taker-2
bounds-self-inside-taker-2 g c = reader_known c.self.inside c.args.self.now _ c.args.stream c.args.writer c.args.reader c.self.view_is c.self.invariant c.requires.pipe

pub offer_of-offered-requires-clause-writer : goal.offer_of-offered-requires-clause-writer
offer_of-offered-requires-clause-writer g c = (writer_fits c.self.inside c.args.self.now _ c.args.stream c.args.writer c.args.reader c.self.view_is c.self.invariant c.requires.pipe).payload ∙ sym (entry_payload c.self.inside c.args.self.now _ c.args.stream c.args.writer c.args.reader c.self.view_is c.self.invariant c.requires.pipe c.index_mut-kept.result.now c.index_mut-kept.ensures.value)

pub offer_of-offered-requires-clause-reader : goal.offer_of-offered-requires-clause-reader
offer_of-offered-requires-clause-reader g c = (reader_fits c.self.inside c.args.self.now _ c.args.stream c.args.writer c.args.reader c.self.view_is c.self.invariant c.requires.pipe).payload ∙ sym (entry_payload c.self.inside c.args.self.now _ c.args.stream c.args.writer c.args.reader c.self.view_is c.self.invariant c.requires.pipe c.index_mut-kept.result.now c.index_mut-kept.ensures.value)

pub invariant_of-self : goal.invariant_of-self
invariant_of-self g c =
    let i = c.self.inside in
    let there = rw (← c.self.view_is) at c.requires.pipe.made in
    let here = stream_at-there i c.args.stream c.index_mut-served.result.now there c.index_mut-served.ensures.value in
    let keeps = offers_keep _ _ _ (rw (← here) at c.offer_of-offered.ensures.offers) in
    IsStore-passed i _ c.args.writer c.args.stream c.offer_of-offered.new.kept
    (record {
      limits = refl;
      contexts = refl;
      counter = refl;
      guests = refl;
      live_sets = refl;
      bytes = refl;
      count = length-set i.producers c.args.writer _;
      duties = duties_set i.producers c.args.writer _ refl;
      count_readers = length-set i.consumers c.args.reader _;
      reader_duties = reader_duties_set i.consumers c.args.reader _ keeps.duty;
      kept = refl;
      ready = refl;
      payload = c.offer_of-offered.ensures.payload ∙ entry_type i.kept.items c.args.writer c.index_mut-kept.result.now (place c.self.inside c.args.self.now _ c.args.stream c.args.writer c.args.reader c.self.view_is c.self.invariant c.requires.pipe).there c.index_mut-kept.ensures.value;
    })
    (serves c.self.inside c.args.self.now _ c.args.stream c.args.writer c.args.reader c.self.view_is c.self.invariant c.requires.pipe) c.self.invariant _ there
    (record { kind = keeps.kind; payload = keeps.payload; writer = keeps.ends Writing; reader = keeps.ends Reading })
    refl (hosts_held _ c.args.writer c.args.reader (rw (← c.self.view_is) at c.requires.pipe.writer) (rw (← c.self.view_is) at c.requires.pipe.reader)) refl

pub returns : goal.returns
returns g c =
    offers_in c.self.inside c.args.self.now _ c.args.stream c.args.writer c.args.reader c.self.view_is c.self.invariant c.requires.pipe c.index_mut-kept.result.now c.index_mut-kept.ensures.value c.index_mut-served.result.now c.index_mut-served.ensures.value _
    (record { stream = c.offer_of-offered.new.stream; consumer = c.offer_of-offered.new.consumer; items = c.offer_of-offered.new.kept; writer = _; reader = _ })
    c.offer_of-offered.ensures.offers _ refl _ c.offer_of-offered.ensures.others
