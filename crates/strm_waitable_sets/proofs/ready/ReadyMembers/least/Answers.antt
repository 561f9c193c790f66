use Rattle.std.proofs.Common.{◌≡◌, ◌-◌, length, get_or, ap, sym, ◌∙◌, arith}
use Rattle.std.proofs.lemmas.List.{get_or_read}
use Rattle.strm_waitable_sets.specs.Ready.{is_in}
use Rattle.strm_waitable_sets.proofs.ReadyLemmas.{is_in-last, last_is_least}
use Rattle.strm_waitable_sets.proofs.ready.ReadyMembers.least.Goals as goal

pub returns-clause-ready : goal.returns-clause-ready
returns-clause-ready c =
    let handles = c.self.inside.handles in
    let len : c.len-len.result ≡ length handles.items = omega (arith, c.len-len.ensures, handles.ok) in
    let at = get_or_read handles.items (c.len-len.result - 1) c.index.result.now (omega (arith, len, c.if-len-eq0.false)) c.index.ensures 0 in
    ap (λ r. is_in r c.index.result.now) (sym c.self.view_is)
    ∙ ap (is_in handles.items) (at ∙ ap (λ n. get_or handles.items (n - 1) 0) len)
    ∙ is_in-last handles.items (omega (arith, len, c.if-len-eq0.false))

pub returns-clause-least : goal.returns-clause-least
returns-clause-least c =
    let handles = c.self.inside.handles in
    let len : c.len-len.result ≡ length handles.items = omega (arith, c.len-len.ensures, handles.ok) in
    let at = get_or_read handles.items (c.len-len.result - 1) c.index.result.now (omega (arith, len, c.if-len-eq0.false)) c.index.ensures 0 in
    let last : c.index.result.now ≡ get_or handles.items (length handles.items - 1) 0 = at ∙ ap (λ n. get_or handles.items (n - 1) 0) len in
    λ other less. ap (λ r. is_in r other) (sym c.self.view_is) ∙ last_is_least handles.items c.self.invariant other (omega (arith, less, last))
