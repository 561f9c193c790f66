use Rattle.std.proofs.Common.{inl, refl, ap, ◌∙◌, map, arith}
use denote.Param.Object.{read_made}
use Rattle.strm_buffers.specs.Tells.{WriterTells, ReaderTells}
use Rattle.strm_tape_ends.specs.Replays.{replay_tells}
use Rattle.strm_tape_ends.specs.ReaderPlans.{replay_reader_tells}
use Rattle.tape.specs.HostEnds.{following, following_reader}
use Rattle.tape.proofs.FollowLemmas.{follows_next, follow_all}
use Rattle.tape.proofs.OutcomeLemmas.{plays_out_of_memory}
use Rattle.tape.proofs.played_among_ends.Object-1 as boxed_writer
use Rattle.tape.proofs.played_among_ends.Object-2 as boxed_reader
use Rattle.tape.proofs.played_among_ends.OwnLists as owns
use Rattle.tape.proofs.played_among_ends.Goals as goal

pub loop-n-init : goal.loop-n-init
loop-n-init g c = ap (map (λ b. (owns.own-1.entry b.vtable).1.writer_tells b.value)) c.new-writers.ensures.items

pub loop-n-preserved : goal.loop-n-preserved
loop-n-preserved g c =
    let made = read_made {G = boxed_writer.Members} owns.own-1 (owns.own-1.entry (inl tt)) (inl tt) refl WriterTells (λ j. j.1.writer_tells) in
    follows_next (λ b. (owns.own-1.entry b.vtable).1.writer_tells b.value) following c.loop-n.writers.items c.push.new.self.items c.into_dyn_box.result c.args.tape.now.writers c.loop-n.n
    (omega (arith, c.loop-n-test.true, c.writers-n-end.ensures)) c.loop-n.invariant c.in_ok-push.ensures.items
    (λ t e. made _ _ _ c.into_dyn_box.ensures.1 ∙ ap replay_tells c.in_ok-new.ensures.ok ∙ c.in-Ok.ensures.tells t e)

pub loop-r-init : goal.loop-r-init
loop-r-init g c = ap (map (λ b. (owns.own-2.entry b.vtable).1.reader_tells b.value)) c.new-readers.ensures.items

pub loop-r-preserved : goal.loop-r-preserved
loop-r-preserved g c =
    let made = read_made {G = boxed_reader.Members} owns.own-2 (owns.own-2.entry (inl tt)) (inl tt) refl ReaderTells (λ j. j.1.reader_tells) in
    follows_next (λ b. (owns.own-2.entry b.vtable).1.reader_tells b.value) following_reader c.loop-r.readers.items c.push-in-loop-r.new.self.items c.into_dyn_box-in_ok-new-2.result c.args.tape.now.readers c.loop-r.r
    (omega (arith, c.loop-r-test.true, c.readers-r-end.ensures)) c.loop-r.invariant c.in_ok-push-2.ensures.items
    (λ t e. made _ _ _ c.into_dyn_box-in_ok-new-2.ensures.1 ∙ ap replay_reader_tells c.in_ok-new-2.ensures.ok ∙ c.in-Ok-new.ensures.tells t e)

pub played-requires-clause-writers : goal.played-requires-clause-writers
played-requires-clause-writers g c =
    follow_all (λ b. (owns.own-1.entry b.vtable).1.writer_tells b.value) following c.loop-n.writers.items c.args.tape.now.writers c.loop-n.n (omega (arith, c.loop-n-test.false, c.writers-n-end.ensures)) c.loop-n.invariant

pub played-requires-clause-readers : goal.played-requires-clause-readers
played-requires-clause-readers g c =
    follow_all (λ b. (owns.own-2.entry b.vtable).1.reader_tells b.value) following_reader c.loop-r.readers.items c.args.tape.now.readers c.loop-r.r (omega (arith, c.loop-r-test.false, c.readers-r-end.ensures)) c.loop-r.invariant

pub returns-in_default-clause-plays : goal.returns-in_default-clause-plays
returns-in_default-clause-plays g c = plays_out_of_memory c.args.shown c.args.tape.now _ _ _ c.from.ensures

pub returns-in_default-new-clause-plays : goal.returns-in_default-new-clause-plays
returns-in_default-new-clause-plays g c = plays_out_of_memory c.args.shown c.args.tape.now _ _ _ c.from-in_default-new.ensures
