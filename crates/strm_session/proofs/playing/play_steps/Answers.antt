use Rattle.std.proofs.Common.{◌∷◌, [], ◌++◌, arith}
use Rattle.strm_session.proofs.PlayingLemmas.{playing_none, playing_more, played_stop, played_all}
use Rattle.strm_session.proofs.playing.play_steps.Goals as goal

pub loop-init : goal.loop-init
loop-init g c = ([], c.requires.none, rw c.requires.begins (playing_none _ _))

pub loop-preserved : goal.loop-preserved
loop-preserved g c =
    let i = c.loop.invariant in
    let reply = c.in_ok-_reply._reply in
    let now = c.in_ok-_reply.ensures in (
      i.0 ++ reply ∷ [],
      now.kept i.0 i.1,
      playing_more _ _ _ _ _ _ c.loop.counter c.put_next.new.step i.0 c.loop.store c.step_once.new.store i.2 c.put_next.ensures
          (c.laws_hold_among.ensures.laws _ _) (c.laws_hold_among.ensures.leads _ _) (λ tells. c.laws_hold_among.ensures.gone _ tells _) c.requires.few reply c.sound.ensures now.does.ok c.step_once.ensures.does.fits now.does.goes_on
          (λ untouched. let alone = now.alone untouched in record { goes_on = alone.plays i.0; state_is = alone.state; same = alone.hosts }),
    )

pub returns-in_err-_reply : goal.returns-in_err-_reply
returns-in_err-_reply g c =
    let i = c.loop.invariant in
    let now = c.in_err-_reply.ensures in (
      i.0,
      now.err i.0 i.1,
      played_stop _ _ _ _ _ _ c.loop.counter c.put_next.new.step i.0 c.loop.store c.step_once.new.store i.2 c.put_next.ensures
          (c.laws_hold_among.ensures.laws _ _) (c.laws_hold_among.ensures.leads _ _) (λ tells. c.laws_hold_among.ensures.gone _ tells _) c.requires.few c.in_err-_reply.field-0.0 c.sound.ensures now.does.stop now.does.unmet now.does.out_of_memory
          (λ untouched. let alone = now.alone untouched in (alone.stop i.0, alone.hosts))
          c.from_residual.result c.from_residual.ensures.1,
    )

pub returns : goal.returns
returns g c =
    let i = c.loop.invariant in
    (i.0, i.1, played_all _ _ _ _ c.loop.counter i.0 c.loop.store _ i.2 (omega (arith, c.loop.auto.counter-end, c.loop-test.false, c.len-end.ensures)))
