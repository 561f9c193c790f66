use Rattle.std.proofs.Common.{sym, ap, ◌∙◌}
use Rattle.strm_memory.specs.Linear.{LinearMemory}
use Rattle.strm_buffers.specs.Windows.{Lent}
use Rattle.strm_buffers.proofs.MarkLemmas.{direct_none}
use Rattle.strm_buffers.proofs.WindowLemmas.{lying_nowhere, lies_there}
use Rattle.strm_buffers.proofs.windows.Window.direct.Goals as goal

pub invariant_of-self-in-None : goal.invariant_of-self-in-None
invariant_of-self-in-None c =
    let made = c.in_ok-append_zeros-in-None.ensures.ok in
    ((direct_none c.self.inside.payload _ _ _ _ _ _ _ _ _ _ c.in-None.is c.self.invariant.0 (ap lying_nowhere c.self.view_is) c.requires.bytes c.requires.few (ap (λ (m : LinearMemory). m.bytes) made)).is_window, λ none. ap (λ (m : LinearMemory). m.base) made)

pub returns-in_ok-append_zeros-in-None-clause-ok : goal.returns-in_ok-append_zeros-in-None-clause-ok
returns-in_ok-append_zeros-in-None-clause-ok c =
    let made = c.in_ok-append_zeros-in-None.ensures.ok in
    let stays = ap (λ (m : LinearMemory). m.base) made ∙ sym (c.self.invariant.1 c.in-None.is) in
    lies_there _ _ _ ((direct_none c.self.inside.payload _ _ _ _ _ _ _ _ _ _ c.in-None.is c.self.invariant.0 (ap lying_nowhere c.self.view_is) c.requires.bytes c.requires.few (ap (λ (m : LinearMemory). m.bytes) made)).is) (stays ∙ ap (λ (w : Lent). w.base) c.self.view_is)
