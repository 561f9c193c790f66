-- A host reader that gets no stream is none any more.
use Rattle.std.proofs.Common.{◌≡◌, List, [], ◌∷◌, ◌++◌, length, sym, subst, ◌∙◌, ap, arith}
use Rattle.strm_codes.specs.declared.codes.TransmitKind.{TransmitKind}
use Rattle.strm_codes.specs.Types.{kind_of, payload_of}
use Rattle.strm_host_machine.specs.Does.{Fits}
use Rattle.strm_ready_ends.specs.ReceiveQueues.{ReceiveQueue, ungranted}
use Rattle.strm_host_store.specs.HostStates.{ready_tell}
use Rattle.strm_host_store.proofs.FitLemmas.{reader_joined_fits}
use Rattle.strm_host_store.proofs.HostingLemmas.{reader_refused, reader_refused_fits}
use Rattle.strm_host_store.proofs.host_store.HostStore.host_reader_of.Goals as goal

pub pipe-requires : goal.pipe-requires
pipe-requires c = record {
  fits = subst (λ (rs : List ReceiveQueue). Fits c.self.inside.store (ready_tell c.self.inside.ends.writers.items rs)) (sym c.in-Ok.ensures.items)
      (reader_joined_fits c.self.inside.store c.self.inside.ends.writers.items c.self.inside.ends.readers.items c.new-reader.result c.self.invariant.fits);
}

pub invariant_of-self-in-Err-pipe : goal.invariant_of-self-in-Err-pipe
invariant_of-self-in-Err-pipe c =
    let e : c.push.new.self.items ≡ c.self.inside.ends.readers.items ++ ungranted (kind_of c.args.ty) (payload_of c.args.ty) ∷ [] =
    c.in-Ok.ensures.items
    ∙ ap (λ (q : ReceiveQueue). c.self.inside.ends.readers.items ++ q ∷ [])
    (c.new-reader.ensures ∙ ap (λ (k : TransmitKind). ungranted k c.payload.result) c.kind.ensures ∙ ap (ungranted (kind_of c.args.ty)) c.payload.ensures) in
    let f : c.len-host.result ≡ length c.self.inside.ends.readers.items = omega (arith, c.len-host.ensures) in
    reader_refused_fits c.args.self.now c.self.inside.store c.pipe.new.self c.self.inside.ends.writers.items c.pipe.new.hosts.writers.items
    c.self.inside.ends.readers.items c.push.new.self.items c.pipe.new.hosts.readers.items c.truncate.new.self.items (kind_of c.args.ty) (payload_of c.args.ty)
    c.args.stream c.in-Err-pipe.error c.len-host.result
    c.self.invariant.fits e f c.truncate.ensures.items c.in-Err-pipe.ensures.meets

pub returns-in-Err-pipe : goal.returns-in-Err-pipe
returns-in-Err-pipe c =
    let e : c.push.new.self.items ≡ c.self.inside.ends.readers.items ++ ungranted (kind_of c.args.ty) (payload_of c.args.ty) ∷ [] =
    c.in-Ok.ensures.items
    ∙ ap (λ (q : ReceiveQueue). c.self.inside.ends.readers.items ++ q ∷ [])
    (c.new-reader.ensures ∙ ap (λ (k : TransmitKind). ungranted k c.payload.result) c.kind.ensures ∙ ap (ungranted (kind_of c.args.ty)) c.payload.ensures) in
    let f : c.len-host.result ≡ length c.self.inside.ends.readers.items = omega (arith, c.len-host.ensures) in
    record {
      makes = reader_refused c.args.self.now c.self.inside.store c.pipe.new.self c.self.inside.ends.writers.items c.pipe.new.hosts.writers.items
          c.self.inside.ends.readers.items c.push.new.self.items c.pipe.new.hosts.readers.items c.truncate.new.self.items (kind_of c.args.ty) (payload_of c.args.ty)
          c.args.stream c.in-Err-pipe.error c.len-host.result
          c.self.view_is e f c.truncate.ensures.items c.in-Err-pipe.ensures.meets;
    }
