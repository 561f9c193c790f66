use Rattle.std.proofs.Common.{refl, sym, ap, ◌∙◌}
use Rattle.strm_machine.specs.declared.streams.Stream.{Stream}
use Rattle.std.proofs.lemmas.List.{length-set}
use Rattle.strm_transmit.proofs.PipeKeptLemmas.{fetches_duty}
use Rattle.strm_transmit.proofs.RoundStoreLemmas.{writer_known, writer_fits, serves, place, entry_there, entry_payload, entry_type, fetches_in, IsStore-items, duties_set}
use Rattle.strm_transmit.proofs.store.Store.fetch.Goals as goal

pub bounds-self-inside-place : goal.bounds-self-inside-place
bounds-self-inside-place g c = writer_known c.self.inside c.args.self.now _ c.args.stream c.args.writer c.args.reader c.self.view_is c.self.invariant c.requires.pipe

pub index_mut-kept-requires : goal.index_mut-kept-requires
index_mut-kept-requires g c = entry_there c.self.inside c.args.self.now _ c.args.stream c.args.writer c.args.reader c.self.view_is c.self.invariant c.requires.pipe

pub fetch_of-fetched-requires-clause-there : goal.fetch_of-fetched-requires-clause-there
fetch_of-fetched-requires-clause-there g c = (writer_fits c.self.inside c.args.self.now _ c.args.stream c.args.writer c.args.reader c.self.view_is c.self.invariant c.requires.pipe).there

pub bounds-self-inside-place-2 : goal.bounds-self-inside-place-2
bounds-self-inside-place-2 g c = writer_known c.self.inside c.args.self.now _ c.args.stream c.args.writer c.args.reader c.self.view_is c.self.invariant c.requires.pipe

pub fetch_of-fetched-requires-clause-payload : goal.fetch_of-fetched-requires-clause-payload
fetch_of-fetched-requires-clause-payload g c = (writer_fits c.self.inside c.args.self.now _ c.args.stream c.args.writer c.args.reader c.self.view_is c.self.invariant c.requires.pipe).payload ∙ sym (entry_payload c.self.inside c.args.self.now _ c.args.stream c.args.writer c.args.reader c.self.view_is c.self.invariant c.requires.pipe c.index_mut-kept.result.now c.index_mut-kept.ensures.value)

pub invariant_of-self : goal.invariant_of-self
invariant_of-self g c =
    let i = c.self.inside in
    IsStore-items i _ c.args.writer c.args.stream c.fetch_of-fetched.new.kept
    (record {
      limits = refl;
      contexts = refl;
      counter = refl;
      guests = refl;
      live_sets = refl;
      bytes = refl;
      ready = refl;
      count = length-set i.producers c.args.writer _;
      duties = duties_set i.producers c.args.writer _ (fetches_duty _ _ _ _ c.fetch_of-fetched.ensures.fetches);
      count_readers = refl;
      reader_duties = λ m. refl;
      kept = refl;
      payload = c.fetch_of-fetched.ensures.payload ∙ entry_type i.kept.items c.args.writer c.index_mut-kept.result.now (place c.self.inside c.args.self.now _ c.args.stream c.args.writer c.args.reader c.self.view_is c.self.invariant c.requires.pipe).there c.index_mut-kept.ensures.value;
    })
    (serves c.self.inside c.args.self.now _ c.args.stream c.args.writer c.args.reader c.self.view_is c.self.invariant c.requires.pipe) c.self.invariant refl refl

pub returns : goal.returns
returns g c =
    fetches_in c.self.inside c.args.self.now _ c.args.stream c.args.writer c.args.reader c.self.view_is c.self.invariant c.requires.pipe c.index_mut-kept.result.now c.index_mut-kept.ensures.value _ (c.kind-kind.ensures ∙ ap (λ (x : Stream). x.kind) c.stream.ensures) _
    (record { producer = c.fetch_of-fetched.new.producer; items = c.fetch_of-fetched.new.kept; writer = _ })
    c.fetch_of-fetched.ensures.fetches _ refl _ c.fetch_of-fetched.ensures.others
