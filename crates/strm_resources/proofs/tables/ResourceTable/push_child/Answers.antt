use Rattle.std.proofs.Common.{◌≡◌, true, is_some, length, sym, vec_capacity, ap, ◌∙◌, arith}
use Rattle.strm_resources.specs.Nodes.{node_at, next_node, filled}
use Rattle.strm_resources.proofs.TableLemmas.{alike_length, alike-new_child, put-filled, room-filled, next_fits}
use Rattle.strm_resources.proofs.tables.ResourceTable.push_child.Goals as goal

pub insert_child-requires : goal.insert_child-requires
insert_child-requires g c =
    let present : is_some (node_at c.args.self.now.entries.nodes c.rep-parent.result) ≡ true = sym c.contains.ensures.node ∙ c.if-not-contains.false in
    let room = rw (← c.self.view_is) at c.in_ok-reserve.ensures.ok in
    record {
      room = omega (arith, room);
      small = rw (← c.in_ok-reserve.ensures.entries, ← c.self.view_is) at c.in_ok-reserve.ensures.small;
      parent = rw (← c.in_ok-reserve.ensures.entries, ← c.self.view_is) at present;
    }

pub put-requires : goal.put-requires
put-requires g c =
    let t = c.self.inside in
    let long = alike_length t.values.items t.links.nodes c.self.invariant in
    let room = rw (← c.self.view_is) at c.in_ok-reserve.ensures.ok in
    let next : c.in_ok-number.number ≡ next_node t.links.freed (length t.values.items) = rw long c.in_ok-number.ensures.number in
    let fits = next_fits t.links.freed c.in_ok-number.number (length t.values.items) (vec_capacity t.values) next (λ some. rw long (c.in_ok-number.ensures.inside some)) (omega (arith, room, t.values.ok.0)) in
    record {
      bound = omega (arith, fits.0, t.values.ok.0);
      room = λ last. omega (arith, fits.1 (omega (arith, last, t.values.ok.0)), t.values.ok.0);
    }

pub invariant_of-self-2 : goal.invariant_of-self-2
invariant_of-self-2 g c =
    let t = c.self.inside in
    let long = alike_length t.values.items t.links.nodes c.self.invariant in
    let next : c.in_ok-number.number ≡ next_node t.links.freed (length t.values.items) = rw long c.in_ok-number.ensures.number in
    let put : c.put.new.values.items ≡ filled t.links.freed t.values.items c.args.value =
    rw c.put.ensures.items (put-filled t.links.freed t.values.items c.in_ok-number.number c.args.value next (λ some. rw long (c.in_ok-number.ensures.inside some))) in
    rw (put, c.in_ok-number.ensures.nodes) (alike-new_child t.values.items t.links.nodes c.self.invariant t.links.freed c.args.value c.rep-parent.result)

pub returns-clause-ok : goal.returns-clause-ok
returns-clause-ok g c =
    let t = c.self.inside in
    let long = alike_length t.values.items t.links.nodes c.self.invariant in
    let next : c.in_ok-number.number ≡ next_node t.links.freed (length t.values.items) = rw long c.in_ok-number.ensures.number in
    let put : c.put.new.values.items ≡ filled t.links.freed t.values.items c.args.value =
    rw c.put.ensures.items (put-filled t.links.freed t.values.items c.in_ok-number.number c.args.value next (λ some. rw long (c.in_ok-number.ensures.inside some))) in
    let held = ap (λ v. v.entries) c.self.view_is ∙ c.in_ok-reserve.ensures.entries in
    rw (← held, put, c.in_ok-number.ensures.nodes, c.in_ok-number.ensures.freed, c.rep-parent.ensures)

pub returns-clause-room : goal.returns-clause-room
returns-clause-room g c =
    let t = c.self.inside in
    let long = alike_length t.values.items t.links.nodes c.self.invariant in
    let next : c.in_ok-number.number ≡ next_node t.links.freed (length t.values.items) = rw long c.in_ok-number.ensures.number in
    let fits = room-filled t.links.freed c.in_ok-number.number (length t.values.items) (vec_capacity t.values) next (λ some. rw long (c.in_ok-number.ensures.inside some)) in
    let before = rw (← c.self.view_is) at c.in_ok-reserve.ensures.room in
    rw (c.put.ensures.len, c.put.ensures.capacity, c.in_ok-number.ensures.freed) (omega (arith, t.values.ok, c.in_ok-number.ensures.room))
