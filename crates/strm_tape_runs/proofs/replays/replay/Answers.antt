use Rattle.std.proofs.Common.{◌≡◌, Result, inr, ap, refl, subst, sym, ◌∙◌}
use Rattle.strm_session.specs.declared.runs.RunStop.{RunStop}
use Rattle.strm_session.specs.declared.runs.Transcript.{Transcript}
use Rattle.strm_tape_runs.specs.Differing.{FirstDiffer}
use Rattle.strm_tape_runs.specs.Marks.{mark_of, reader_mark_of}
use Rattle.strm_tape_runs.specs.Playing.{IsRunOfSteps, IsPlayOf}
use Rattle.strm_tape_runs.specs.Taking.{writer_type, reader_type, tape_of_run}
use Rattle.strm_tape_runs.proofs.RunLemmas.{hosts_stay, reach_writers, reach_readers, types_marked, tape_is, run_plays, told_difference}
use Rattle.strm_tape_runs.proofs.replays.replay.Goals as goal

pub returns-in-Err-clause-hosts : goal.returns-in-Err-clause-hosts
returns-in-Err-clause-hosts g c = hosts_stay _

pub first_difference-requires-clause-writers : goal.first_difference-requires-clause-writers
first_difference-requires-clause-writers g c =
    reach_writers c.in-Ok.marks.writers.items (g.H.HostEnds.tells c.args.hosts.now) (g.H.HostEnds.tells c.run-end.new.hosts) c.in-Ok.ensures.writers c.run-end.ensures.hosts

pub first_difference-requires-clause-readers : goal.first_difference-requires-clause-readers
first_difference-requires-clause-readers g c =
    reach_readers c.in-Ok.marks.readers.items (g.H.HostEnds.tells c.args.hosts.now) (g.H.HostEnds.tells c.run-end.new.hosts) c.in-Ok.ensures.readers c.run-end.ensures.hosts

pub first_difference-requires-clause-types : goal.first_difference-requires-clause-types
first_difference-requires-clause-types g c =
    types_marked mark_of writer_type (λ t. refl) c.in-Ok.marks.writers.items (g.H.HostEnds.tells c.args.hosts.now).writers _ c.in-Ok.ensures.writers c.requires.ends.writers

pub first_difference-requires-clause-reader_types : goal.first_difference-requires-clause-reader_types
first_difference-requires-clause-reader_types g c =
    types_marked reader_mark_of reader_type (λ t. refl) c.in-Ok.marks.readers.items (g.H.HostEnds.tells c.args.hosts.now).readers _ c.in-Ok.ensures.readers c.requires.ends.readers

pub returns-in-Ok-None-clause-plays : goal.returns-in-Ok-None-clause-plays
returns-in-Ok-None-clause-plays g c =
    let old = g.H.HostEnds.tells c.args.hosts.now in
    let new = g.H.HostEnds.tells c.run-end.new.hosts in
    let end = c.run-end.result in
    let run : IsRunOfSteps old new c.steps.result.now end = record { ok = c.run-end.ensures.ok; received = c.run-end.ensures.received; stop = c.run-end.ensures.stop; at = c.run-end.ensures.at; goes_on = c.run-end.ensures.hosts; alone = c.run-end.ensures.alone; decided = c.run-end.ensures.decided } in
    let memory = c.wanted_memory.ensures c.if-wanted_memory.false in
    let same : tape_of_run c.args.tape.now.steps old new ≡ c.args.tape.now =
    sym (tape_is c.args.tape.now.steps c.in-Ok.marks old new c.in-Ok.ensures.writers c.in-Ok.ensures.readers) ∙ c.in-Ok-None.ensures.same c.in-Ok-None.field-0-is in
    record {
      ran = subst (λ steps. IsRunOfSteps old new steps end) c.steps.ensures run;
      memory = memory;
      tape_is = sym same;
      plays = subst (λ tape. IsPlayOf tape end) (ap (λ steps. tape_of_run steps old new) c.steps.ensures ∙ same)
          (run_plays c.runs_are_alike.ensures c.steps.result.now old new end c.requires.ends.held run memory);
    }

pub returns-in-Ok-Some-clause-differs : goal.returns-in-Ok-Some-clause-differs
returns-in-Ok-Some-clause-differs g c = λ reader end at e.
    let d = c.in-Ok-Some.field-0-0 in
    let differs = rw c.in-Ok-Some.field-0-is at c.in-Ok-Some.ensures.differ in
    told_difference {T = Result Transcript RunStop} (FirstDiffer (tape_of_run c.args.tape.now.steps (g.H.HostEnds.tells c.args.hosts.now) (g.H.HostEnds.tells c.run-end.new.hosts)) c.args.tape.now)
    d.reader d.end d.at reader end at e
    (subst (λ added. FirstDiffer added c.args.tape.now d.reader d.end d.at) (tape_is c.args.tape.now.steps c.in-Ok.marks (g.H.HostEnds.tells c.args.hosts.now) (g.H.HostEnds.tells c.run-end.new.hosts) c.in-Ok.ensures.writers c.in-Ok.ensures.readers) differs)

pub returns-in-Ok-Some-clause-adds : goal.returns-in-Ok-Some-clause-adds
returns-in-Ok-Some-clause-adds g c = λ reader end at e.
    let run : IsRunOfSteps (g.H.HostEnds.tells c.args.hosts.now) (g.H.HostEnds.tells c.run-end.new.hosts) c.steps.result.now c.run-end.result = record { ok = c.run-end.ensures.ok; received = c.run-end.ensures.received; stop = c.run-end.ensures.stop; at = c.run-end.ensures.at; goes_on = c.run-end.ensures.hosts; alone = c.run-end.ensures.alone; decided = c.run-end.ensures.decided } in
    (c.run-end.result, subst (λ steps. IsRunOfSteps (g.H.HostEnds.tells c.args.hosts.now) (g.H.HostEnds.tells c.run-end.new.hosts) steps c.run-end.result) c.steps.ensures run, c.wanted_memory.ensures c.if-wanted_memory.false)

pub returns-then-wanted_memory-clause-out_of_memory : goal.returns-then-wanted_memory-clause-out_of_memory
returns-then-wanted_memory-clause-out_of_memory g c = λ e.
    let run : IsRunOfSteps (g.H.HostEnds.tells c.args.hosts.now) (g.H.HostEnds.tells c.run-end.new.hosts) c.steps.result.now c.run-end.result = record { ok = c.run-end.ensures.ok; received = c.run-end.ensures.received; stop = c.run-end.ensures.stop; at = c.run-end.ensures.at; goes_on = c.run-end.ensures.hosts; alone = c.run-end.ensures.alone; decided = c.run-end.ensures.decided } in
    inr (c.run-end.result, subst (λ steps. IsRunOfSteps (g.H.HostEnds.tells c.args.hosts.now) (g.H.HostEnds.tells c.run-end.new.hosts) steps c.run-end.result) c.steps.ensures run)

pub returns-clause-out_of_memory : goal.returns-clause-out_of_memory
returns-clause-out_of_memory g c = λ e.
    let run : IsRunOfSteps (g.H.HostEnds.tells c.args.hosts.now) (g.H.HostEnds.tells c.run-end.new.hosts) c.steps.result.now c.run-end.result = record { ok = c.run-end.ensures.ok; received = c.run-end.ensures.received; stop = c.run-end.ensures.stop; at = c.run-end.ensures.at; goes_on = c.run-end.ensures.hosts; alone = c.run-end.ensures.alone; decided = c.run-end.ensures.decided } in
    inr (c.run-end.result, subst (λ steps. IsRunOfSteps (g.H.HostEnds.tells c.args.hosts.now) (g.H.HostEnds.tells c.run-end.new.hosts) steps c.run-end.result) c.steps.ensures run)
