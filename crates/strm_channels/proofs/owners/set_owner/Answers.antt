use mir.Val.{bool_byte}
use Rattle.std.proofs.Common.{ap, ◌∙◌, arith}
use Rattle.strm_channels.proofs.OwnerLemmas.{live_fits}
use Rattle.strm_channels.proofs.owners.set_owner.Goals as goal

pub overflow_add-live_streams : goal.overflow_add-live_streams
overflow_add-live_streams c =
    let most = live_fits c.args.streams.now.items c.args.stream c.index_mut-given.result.now c.set_owner.new.self c.args.live_streams.now c.from.result c.from-2.result
    c.requires.there c.index_mut-given.ensures.value c.requires.counted
    (c.from.ensures ∙ ap bool_byte c.is_live-was_live.ensures) (c.from-2.ensures ∙ ap bool_byte c.is_live.ensures) in
    omega (arith, most, c.requires.few)
