use Rattle.std.proofs.Common.{refl, ap, ◌∙◌, arith}
use Rattle.std.specs.Prelude.{drop}
use Rattle.strm_transmit.proofs.RoundStoreLemmas.{IsStore-items, entry_type, given_up}
use Rattle.strm_transmit.proofs.store.Store.give_up.Goals as goal

pub index_mut-kept-requires : goal.index_mut-kept-requires
index_mut-kept-requires c =
    let d = rw (← c.self.view_is) at c.requires in
    omega (arith, (c.self.invariant.kept.places c.args.writer c.args.stream d).there, c.self.inside.kept.ok)

pub invariant_of-self : goal.invariant_of-self
invariant_of-self c =
    let i = c.self.inside in
    let d = rw (← c.self.view_is) at c.requires in
    let there = (c.self.invariant.kept.places c.args.writer c.args.stream d).there in
    IsStore-items i _ c.args.writer c.args.stream c.skip.new.self
    (record {
      limits = refl;
      contexts = refl;
      counter = refl;
      guests = refl;
      live_sets = refl;
      bytes = refl;
      ready = refl;
      count = refl;
      duties = λ m. refl;
      count_readers = refl;
      reader_duties = λ m. refl;
      kept = refl;
      payload = c.skip.ensures.payload ∙ entry_type i.kept.items c.args.writer c.index_mut-kept.result.now there c.index_mut-kept.ensures.value;
    })
    d c.self.invariant refl refl

pub returns : goal.returns
returns c =
    let d = rw (← c.self.view_is) at c.requires in
    let there = (c.self.invariant.kept.places c.args.writer c.args.stream d).there in
    given_up c.self.inside c.args.self.now c.args.writer c.index_mut-kept.result.now c.skip.new.self c.self.view_is there
    (c.skip.ensures.items ∙ ap (λ k. drop k c.index_mut-kept.result.now.items) c.len-count.ensures.exact)
