use Rattle.std.proofs.Common.{◌≡◌, inr, ap, subst, sym, ◌∙◌}
use Rattle.strm_session.specs.Runs.{start_among}
use Rattle.strm_tape_runs.specs.Marks.{tape_behind}
use Rattle.strm_tape_runs.specs.Playing.{IsRunOfSteps, IsPlayOf}
use Rattle.strm_tape_runs.specs.Taking.{tape_of_run}
use Rattle.strm_tape_runs.proofs.RunLemmas.{hosts_stay, tape_is, run_plays}
use Rattle.strm_tape_runs.proofs.FairRuns.{program_limits, run_tapable, run_readers_tapable}
use Rattle.strm_tape_runs.proofs.runs.run_on_tape.Goals as goal

pub returns-in_err-copy-clause-hosts : goal.returns-in_err-copy-clause-hosts
returns-in_err-copy-clause-hosts g c = hosts_stay _

pub returns-in_err-marks-clause-hosts : goal.returns-in_err-marks-clause-hosts
returns-in_err-marks-clause-hosts g c = hosts_stay _

pub tape_behind-requires-clause-writers : goal.tape_behind-requires-clause-writers
tape_behind-requires-clause-writers g c =
    let run : IsRunOfSteps (g.H.HostEnds.tells c.args.hosts.now) (g.H.HostEnds.tells c.run-end.new.hosts) c.args.steps.now c.run-end.result = record { ok = c.run-end.ensures.ok; received = c.run-end.ensures.received; stop = c.run-end.ensures.stop; at = c.run-end.ensures.at; goes_on = c.run-end.ensures.hosts; alone = c.run-end.ensures.alone; decided = c.run-end.ensures.decided } in
    run_tapable (g.H.HostEnds.tells c.args.hosts.now) (g.H.HostEnds.tells c.run-end.new.hosts)
    (λ run count s. c.totals_are_counts.ensures 0 program_limits (g.H.HostEnds.tells c.args.hosts.now) (g.H.HostEnds.tells c.run-end.new.hosts) run count s) (λ run count. c.states_are_sound.ensures.hosts 0 program_limits (g.H.HostEnds.tells c.args.hosts.now) (g.H.HostEnds.tells c.run-end.new.hosts) run count) (c.moments_lead_to_the_end.ensures (start_among (g.H.HostEnds.tells c.args.hosts.now) (g.H.HostEnds.tells c.run-end.new.hosts))) (c.writers_are_fed_exactly.ensures.runs (start_among (g.H.HostEnds.tells c.args.hosts.now) (g.H.HostEnds.tells c.run-end.new.hosts))) (c.writers_are_fed_exactly.ensures.stops (start_among (g.H.HostEnds.tells c.args.hosts.now) (g.H.HostEnds.tells c.run-end.new.hosts)))
    c.args.steps.now c.run-end.result c.in_ok-marks.marks.writers.items c.requires.few c.in_ok-marks.ensures.writers run (c.wanted_memory.ensures c.if-wanted_memory.false)

pub tape_behind-requires-clause-readers : goal.tape_behind-requires-clause-readers
tape_behind-requires-clause-readers g c =
    let run : IsRunOfSteps (g.H.HostEnds.tells c.args.hosts.now) (g.H.HostEnds.tells c.run-end.new.hosts) c.args.steps.now c.run-end.result = record { ok = c.run-end.ensures.ok; received = c.run-end.ensures.received; stop = c.run-end.ensures.stop; at = c.run-end.ensures.at; goes_on = c.run-end.ensures.hosts; alone = c.run-end.ensures.alone; decided = c.run-end.ensures.decided } in
    run_readers_tapable (g.H.HostEnds.tells c.args.hosts.now) (g.H.HostEnds.tells c.run-end.new.hosts)
    (λ run count s. c.totals_are_counts.ensures 0 program_limits (g.H.HostEnds.tells c.args.hosts.now) (g.H.HostEnds.tells c.run-end.new.hosts) run count s) (λ run count. c.states_are_sound.ensures.hosts 0 program_limits (g.H.HostEnds.tells c.args.hosts.now) (g.H.HostEnds.tells c.run-end.new.hosts) run count) (c.moments_lead_to_the_end.ensures (start_among (g.H.HostEnds.tells c.args.hosts.now) (g.H.HostEnds.tells c.run-end.new.hosts))) (c.writers_are_fed_exactly.ensures.runs (start_among (g.H.HostEnds.tells c.args.hosts.now) (g.H.HostEnds.tells c.run-end.new.hosts))) (c.writers_are_fed_exactly.ensures.stops (start_among (g.H.HostEnds.tells c.args.hosts.now) (g.H.HostEnds.tells c.run-end.new.hosts)))
    c.args.steps.now c.run-end.result c.in_ok-marks.marks.readers.items c.requires.few c.in_ok-marks.ensures.readers run (c.wanted_memory.ensures c.if-wanted_memory.false)

pub returns-clause-taped : goal.returns-clause-taped
returns-clause-taped g c =
    let old = g.H.HostEnds.tells c.args.hosts.now in
    let new = g.H.HostEnds.tells c.run-end.new.hosts in
    let end = c.run-end.result in
    let run : IsRunOfSteps old new c.args.steps.now end = record { ok = c.run-end.ensures.ok; received = c.run-end.ensures.received; stop = c.run-end.ensures.stop; at = c.run-end.ensures.at; goes_on = c.run-end.ensures.hosts; alone = c.run-end.ensures.alone; decided = c.run-end.ensures.decided } in
    let memory = c.wanted_memory.ensures c.if-wanted_memory.false in
    let tape : c.in_ok-tape.tape ≡ tape_of_run c.args.steps.now old new =
    c.in_ok-tape.ensures
    ∙ ap (λ steps. tape_behind steps c.in_ok-marks.marks new) c.in_ok-copy.ensures
    ∙ tape_is c.args.steps.now c.in_ok-marks.marks old new c.in_ok-marks.ensures.writers c.in_ok-marks.ensures.readers in
    record {
      ran = run;
      memory = memory;
      tape_is = tape;
      plays = subst (λ tape. IsPlayOf tape end) (sym tape)
          (run_plays c.runs_are_alike.ensures c.args.steps.now old new end c.requires.held run memory);
    }

pub returns-then-wanted_memory-clause-out_of_memory : goal.returns-then-wanted_memory-clause-out_of_memory
returns-then-wanted_memory-clause-out_of_memory g c = λ e.
    let run : IsRunOfSteps (g.H.HostEnds.tells c.args.hosts.now) (g.H.HostEnds.tells c.run-end.new.hosts) c.args.steps.now c.run-end.result = record { ok = c.run-end.ensures.ok; received = c.run-end.ensures.received; stop = c.run-end.ensures.stop; at = c.run-end.ensures.at; goes_on = c.run-end.ensures.hosts; alone = c.run-end.ensures.alone; decided = c.run-end.ensures.decided } in
    inr (c.run-end.result, run)

pub returns-in_err-tape-clause-out_of_memory : goal.returns-in_err-tape-clause-out_of_memory
returns-in_err-tape-clause-out_of_memory g c = λ e.
    let run : IsRunOfSteps (g.H.HostEnds.tells c.args.hosts.now) (g.H.HostEnds.tells c.run-end.new.hosts) c.args.steps.now c.run-end.result = record { ok = c.run-end.ensures.ok; received = c.run-end.ensures.received; stop = c.run-end.ensures.stop; at = c.run-end.ensures.at; goes_on = c.run-end.ensures.hosts; alone = c.run-end.ensures.alone; decided = c.run-end.ensures.decided } in
    inr (c.run-end.result, run)
