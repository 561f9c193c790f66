use Rattle.strm_session.proofs.PlayingLemmas.{run_stopped, run_ended}
use Rattle.strm_session.proofs.playing.play_all.Goals as goal

pub returns-in-Ok : goal.returns-in-Ok
returns-in-Ok g c =
    let played = c.in-Ok.ensures in
    let laws = c.laws_hold.ensures in
    let among = c.laws_hold_among.ensures in (
      played.0,
      played.1,
      run_ended laws.laws laws.aside laws.put among.laws among.leads among.writers among.readers among.fed among.granted _ _ _ c.requires.few played.0 c.play_steps.new.store _ played.2 c.sound.ensures c.finished.result c.finished.ensures.ok c.finished.ensures.stop,
    )

pub returns-in-Err : goal.returns-in-Err
returns-in-Err g c =
    let played = c.in-Err.ensures in
    let laws = c.laws_hold.ensures in
    let among = c.laws_hold_among.ensures in (
      played.0,
      played.1,
      run_stopped laws.laws laws.aside laws.put among.laws among.leads among.writers among.readers among.fed among.granted _ _ _ c.requires.few played.0 c.play_steps.new.store c.in-Err.cause played.2,
    )
