use Rattle.std.proofs.Common.{◌≡◌, true, false, [], length, sym, ap, ◌∙◌}
use Rattle.std.proofs.lemmas.List.{nil_from_length, length-map}
use Rattle.strm_ready_ends.specs.SendQueues.{SendQueue, said_of}
use Rattle.strm_ready_ends.proofs.ready_writers.ReadyWriter.poll_empty.Goals as goal

never : false ≡ true → ⊥
never e = cc

pub returns-in_err-reserve-clause-takes_no_memory : goal.returns-in_err-reserve-clause-takes_no_memory
returns-in_err-reserve-clause-takes_no_memory c = λ e.
    let s = c.self.inside in
    let none : s.polls.items ≡ [] = nil_from_length s.polls.items (sym (length-map s.polls.items (said_of s.held.payload)) ∙ ap length (ap (λ (q : SendQueue). q.said) c.self.view_is ∙ e)) in
    absurd (never (c.in_err-reserve.ensures.takes_no_memory none))
