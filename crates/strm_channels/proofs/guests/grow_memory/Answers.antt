use Rattle.std.proofs.Common.{◌++◌, length, sym, ap, subst, ◌∙◌, arith}
use Rattle.std.specs.Prelude.{IfSome}
use Rattle.std.specs.Vec.{vec_ptr}
use denote.RawPtr.{◌+ₚ◌}
use Rattle.std.proofs.Common.{◌≡◌}
use Rattle.strm_memory.specs.Linear.{LinearMemory, is_lent_base, with_contents}
use Rattle.strm_channels.specs.Guests.{guests_of, with_linear}
use Rattle.strm_channels.proofs.GuestLemmas.{guests_of-with_linear, linear_in-seen, memory_in-seen}
use Rattle.strm_channels.proofs.guests.grow_memory.Goals as goal

pub grown-requires-clause-lent : goal.grown-requires-clause-lent
grown-requires-clause-lent c =
    ap (λ (m : LinearMemory). is_lent_base m.base) (sym (linear_in-seen c.args.guests.now.items c.args.guest c.index_mut.result.now c.requires.there c.index_mut.ensures.value))
    ∙ c.requires.lent

pub grown-requires-clause-behind : goal.grown-requires-clause-behind
grown-requires-clause-behind c =
    subst (λ (m : LinearMemory). IfSome m.base (λ base. vec_ptr c.args.more ≡ base.at +ₚ length m.bytes))
    (linear_in-seen c.args.guests.now.items c.args.guest c.index_mut.result.now c.requires.there c.index_mut.ensures.value) c.requires.behind

pub grown-requires-clause-small : goal.grown-requires-clause-small
grown-requires-clause-small c =
    omega (arith, c.requires.small, ap length (memory_in-seen c.args.guests.now.items c.args.guest c.index_mut.result.now c.requires.there c.index_mut.ensures.value))

pub returns-clause-grown : goal.returns-clause-grown
returns-clause-grown c =
    let guests = c.args.guests.now.items in
    let x = c.index_mut.result.now in
    let lay = linear_in-seen guests c.args.guest x c.requires.there c.index_mut.ensures.value in
    guests_of-with_linear guests c.args.guest x c.grown.new.self c.requires.there c.index_mut.ensures.value
    ∙ ap (with_linear (guests_of guests) c.args.guest) (c.grown.ensures ∙ ap (λ (m : LinearMemory). with_contents m (m.bytes ++ c.args.more.items)) (sym lay))
