use Rattle.std.proofs.Common.{◌≡◌, ◌++◌, sym, subst}
use Rattle.std.specs.Prelude.{OnOk}
use Rattle.strm_chain.proofs.StageLemmas.{copy_done}
use Rattle.strm_chain.proofs.stages.Work.go_on.Goals as goal

pub returns-in-Copy-clause-out : goal.returns-in-Copy-clause-out
returns-in-Copy-clause-out c =
    subst (λ xs. OnOk c.extend.result (c.extend.new.self ≡ c.args.out.now ++ xs)) (sym (copy_done c.args.self.now c.args.bytes.now c.in-Copy.is)) c.extend.ensures
