use Rattle.std.proofs.Common.{◌≡◌, get_or, set, sym, ap, ◌∙◌, subst}
use Rattle.std.proofs.lemmas.List.{get_or_default}
use Rattle.strm_machine.specs.State.{is_live, no_stream}
use Rattle.strm_machine.specs.Moves.{with_owner}
use Rattle.strm_machine.specs.declared.streams.Stream.{Stream}
use Rattle.strm_transmit.specs.Places.{Places, ArePlaces}
use Rattle.strm_transmit.proofs.PlaceLemmas.{some_live, some_room, ArePlaces-settled}
use Rattle.strm_transmit.proofs.places.set_owner.Goals as goal

pub settle-requires-clause-live : goal.settle-requires-clause-live
settle-requires-clause-live c =
    λ was. some_live c.args.places.now c.args.streams.now.items c.args.stream c.requires.there
    (ap is_live (get_or_default c.args.streams.now.items c.args.stream no_stream c.index_mut-given.result.now c.requires.there ∙ sym c.index_mut-given.ensures.value)
    ∙ sym c.is_live-was_live.ensures ∙ was)
    c.requires.places

pub settle-requires-clause-room : goal.settle-requires-clause-room
settle-requires-clause-room c =
    λ was. some_room c.args.places.now c.args.streams.now.items (settle-requires-clause-live c was) c.requires.places

pub returns-clause-places : goal.returns-clause-places
returns-clause-places c =
    let streams = c.args.streams.now.items in
    let s = c.args.stream in
    let after = c.set_owner.new.self in
    let here : get_or streams s no_stream ≡ c.index_mut-given.result.now = get_or_default streams s no_stream c.index_mut-given.result.now c.requires.there ∙ sym c.index_mut-given.ensures.value in
    let same : is_live after ≡ is_live (with_owner c.args.side (get_or streams s no_stream) c.args.owner) = ap is_live c.set_owner.ensures ∙ ap (λ (x : Stream). is_live (with_owner c.args.side x c.args.owner)) (sym here) in
    subst (λ (p : Places). ArePlaces p (set streams s after)) (sym c.settle.ensures)
    (ArePlaces-settled streams s after c.requires.there c.args.places.now c.is_live-was_live.result c.is_live.result
    (c.is_live-was_live.ensures ∙ ap is_live (sym here)) c.is_live.ensures (λ e. same ∙ c.requires.gone e) c.requires.places)
