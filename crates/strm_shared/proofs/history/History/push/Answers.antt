use Rattle.std.proofs.Common.{◌++◌, ◌∙◌, ◌∷◌, [], ap}
use Rattle.std.proofs.lemmas.List.{append_assoc}
use Rattle.strm_shared.specs.Histories.{Log, entry}
use Rattle.strm_machine.specs.ShortSteps.{chunks_of_step}
use Rattle.strm_machine.proofs.ShortStepLemmas.{step_then}
use Rattle.strm_shared.specs.Rows.{chunks_of_reply, entries}
use Rattle.strm_shared.proofs.RowLemmas.{placed_push, entries_push}
use Rattle.strm_shared.proofs.history.History.push.Goals as goal

pub invariant_of-self : goal.invariant_of-self
invariant_of-self c =
    let s = c.keep_step-step.ensures in
    let r = c.keep_reply-reply.ensures in
    let more = chunks_of_step c.args.step.now ++ chunks_of_reply c.args.reply.now in
    let cs = c.self.inside.chunks.items in
    let all = r.items ∙ (ap (λ l. l ++ chunks_of_reply c.args.reply.now) s.items ∙ append_assoc cs _ _) in
    let step = step_then _ _ _ _ _ r.items s.placed s.whole in
    placed_push cs more _ _ _ _ c.self.invariant all c.push.ensures.items (step.1, r.placed)

pub returns-clause-items : goal.returns-clause-items
returns-clause-items c =
    let s = c.keep_step-step.ensures in
    let r = c.keep_reply-reply.ensures in
    let more = chunks_of_step c.args.step.now ++ chunks_of_reply c.args.reply.now in
    let cs = c.self.inside.chunks.items in
    let all = r.items ∙ (ap (λ l. l ++ chunks_of_reply c.args.reply.now) s.items ∙ append_assoc cs _ _) in
    let step = step_then _ _ _ _ _ r.items s.placed s.whole in
    let mine = entry c.args.seat c.args.step.now c.args.reply.now in
    ap (entries c.keep_reply-reply.new.chunks.items) c.push.ensures.items
    ∙ (entries_push cs more _ _ _ _ _ c.self.invariant all step.0 r.whole
    ∙ ap (λ (l : Log). l.items ++ mine ∷ []) c.self.view_is)
