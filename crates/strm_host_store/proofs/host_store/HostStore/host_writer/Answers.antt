-- A host writer that gets no stream is none any more.
use Rattle.std.proofs.Common.{◌≡◌, List, [], ◌∷◌, ◌++◌, length, sym, subst, ◌∙◌, ap, arith}
use Rattle.strm_codes.specs.declared.codes.TransmitKind.{TransmitKind}
use Rattle.strm_codes.specs.Types.{kind_of, payload_of}
use Rattle.strm_host_machine.specs.Does.{Fits}
use Rattle.strm_ready_ends.specs.SendQueues.{SendQueue, unfed}
use Rattle.strm_host_store.specs.HostStates.{ready_tell}
use Rattle.strm_host_store.proofs.FitLemmas.{joined_fits}
use Rattle.strm_host_store.proofs.HostingLemmas.{writer_refused, writer_refused_fits}
use Rattle.strm_host_store.proofs.host_store.HostStore.host_writer.Goals as goal

pub host_new-requires : goal.host_new-requires
host_new-requires c = record {
  fits = subst (λ (ws : List SendQueue). Fits c.self.inside.store (ready_tell ws c.self.inside.ends.readers.items)) (sym c.in-Ok.ensures.items)
      (joined_fits c.self.inside.store c.self.inside.ends.writers.items c.self.inside.ends.readers.items c.new-writer.result c.self.invariant.fits);
}

pub invariant_of-self-in-Err-host_new : goal.invariant_of-self-in-Err-host_new
invariant_of-self-in-Err-host_new c =
    let e : c.push.new.self.items ≡ c.self.inside.ends.writers.items ++ unfed (kind_of c.args.ty) (payload_of c.args.ty) ∷ [] =
    c.in-Ok.ensures.items
    ∙ ap (λ (q : SendQueue). c.self.inside.ends.writers.items ++ q ∷ [])
    (c.new-writer.ensures ∙ ap (λ (k : TransmitKind). unfed k c.payload.result) c.kind.ensures ∙ ap (unfed (kind_of c.args.ty)) c.payload.ensures) in
    let f : c.len-host.result ≡ length c.self.inside.ends.writers.items = omega (arith, c.len-host.ensures) in
    writer_refused_fits c.args.self.now c.self.inside.store c.host_new.new.self c.self.inside.ends.writers.items c.push.new.self.items c.truncate.new.self.items
    c.self.inside.ends.readers.items (kind_of c.args.ty) (payload_of c.args.ty) c.in-Err-host_new.error c.len-host.result
    c.self.invariant.fits e f c.truncate.ensures.items c.in-Err-host_new.ensures.meets

pub returns-in-Err-host_new : goal.returns-in-Err-host_new
returns-in-Err-host_new c =
    let e : c.push.new.self.items ≡ c.self.inside.ends.writers.items ++ unfed (kind_of c.args.ty) (payload_of c.args.ty) ∷ [] =
    c.in-Ok.ensures.items
    ∙ ap (λ (q : SendQueue). c.self.inside.ends.writers.items ++ q ∷ [])
    (c.new-writer.ensures ∙ ap (λ (k : TransmitKind). unfed k c.payload.result) c.kind.ensures ∙ ap (unfed (kind_of c.args.ty)) c.payload.ensures) in
    let f : c.len-host.result ≡ length c.self.inside.ends.writers.items = omega (arith, c.len-host.ensures) in
    record {
      makes = writer_refused c.args.self.now c.self.inside.store c.host_new.new.self c.self.inside.ends.writers.items c.push.new.self.items c.truncate.new.self.items
          c.self.inside.ends.readers.items (kind_of c.args.ty) (payload_of c.args.ty) c.in-Err-host_new.error c.len-host.result
          c.self.view_is e f c.truncate.ensures.items c.in-Err-host_new.ensures.meets;
    }
