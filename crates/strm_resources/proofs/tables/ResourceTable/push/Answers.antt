use Rattle.std.proofs.Common.{◌≡◌, None, length, vec_capacity, ap, ◌∙◌, arith}
use Rattle.strm_resources.specs.Nodes.{new_node, next_node, filled}
use Rattle.strm_resources.proofs.TableLemmas.{alike_length, alike-filled, put-filled, room-filled, next_fits}
use Rattle.strm_resources.proofs.tables.ResourceTable.push.Goals as goal

pub insert-number-requires : goal.insert-number-requires
insert-number-requires g c =
    let room = rw (← c.self.view_is) at c.in_ok-reserve.ensures.ok in
    record {
      room = omega (arith, room);
      small = rw (← c.in_ok-reserve.ensures.entries, ← c.self.view_is) at c.in_ok-reserve.ensures.small;
    }

pub put-requires : goal.put-requires
put-requires g c =
    let t = c.self.inside in
    let long = alike_length t.values.items t.links.nodes c.self.invariant in
    let room = rw (← c.self.view_is) at c.in_ok-reserve.ensures.ok in
    let next : c.insert-number.result ≡ next_node t.links.freed (length t.values.items) = rw long c.insert-number.ensures.number in
    let fits = next_fits t.links.freed c.insert-number.result (length t.values.items) (vec_capacity t.values) next (λ some. rw long (c.insert-number.ensures.inside some)) (omega (arith, room, t.values.ok.0)) in
    record {
      bound = omega (arith, fits.0, t.values.ok.0);
      room = λ last. omega (arith, fits.1 (omega (arith, last, t.values.ok.0)), t.values.ok.0);
    }

pub invariant_of-self : goal.invariant_of-self
invariant_of-self g c =
    let t = c.self.inside in
    let long = alike_length t.values.items t.links.nodes c.self.invariant in
    let next : c.insert-number.result ≡ next_node t.links.freed (length t.values.items) = rw long c.insert-number.ensures.number in
    let put : c.put.new.values.items ≡ filled t.links.freed t.values.items c.args.value =
    rw c.put.ensures.items (put-filled t.links.freed t.values.items c.insert-number.result c.args.value next (λ some. rw long (c.insert-number.ensures.inside some))) in
    rw (put, c.insert-number.ensures.nodes) (alike-filled t.values.items t.links.nodes c.self.invariant t.links.freed c.args.value (new_node None))

pub returns-clause-ok : goal.returns-clause-ok
returns-clause-ok g c =
    let t = c.self.inside in
    let long = alike_length t.values.items t.links.nodes c.self.invariant in
    let next : c.insert-number.result ≡ next_node t.links.freed (length t.values.items) = rw long c.insert-number.ensures.number in
    let put : c.put.new.values.items ≡ filled t.links.freed t.values.items c.args.value =
    rw c.put.ensures.items (put-filled t.links.freed t.values.items c.insert-number.result c.args.value next (λ some. rw long (c.insert-number.ensures.inside some))) in
    let held = ap (λ v. v.entries) c.self.view_is ∙ c.in_ok-reserve.ensures.entries in
    rw (← held, put, c.insert-number.ensures.nodes, c.insert-number.ensures.freed)

pub returns-clause-room : goal.returns-clause-room
returns-clause-room g c =
    let t = c.self.inside in
    let long = alike_length t.values.items t.links.nodes c.self.invariant in
    let next : c.insert-number.result ≡ next_node t.links.freed (length t.values.items) = rw long c.insert-number.ensures.number in
    let fits = room-filled t.links.freed c.insert-number.result (length t.values.items) (vec_capacity t.values) next (λ some. rw long (c.insert-number.ensures.inside some)) in
    let before = rw (← c.self.view_is) at c.in_ok-reserve.ensures.room in
    rw (c.put.ensures.len, c.put.ensures.capacity, c.insert-number.ensures.freed) (omega (arith, t.values.ok, c.insert-number.ensures.room))
