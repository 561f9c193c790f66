use Rattle.std.proofs.Common.{◌≡◌, ◌+◌, ◌-◌, ◌≤◌, length, drop, ap, arith}
use Rattle.std.proofs.lemmas.List.{drop_all}
use Rattle.strm_input_output.proofs.PortLemmas.{given_front}
use Rattle.strm_input_output.proofs.in_memory.BytesSourceSource.read.Goals as goal

pub returns-clause-bytes : goal.returns-clause-bytes
returns-clause-bytes c =
    let s = c.self.inside in
    let n = c.min-count.result in
    let same : drop s.at s.bytes.items ≡ c.args.self.now.left = ap (λ v. v.left) c.self.view_is in
    let within : s.at + n ≤ length s.bytes.items = omega (arith, s.bytes.ok.0) in (
      given_front c.args.self.now.left s.bytes.items _ c.args.out.now s.at n (s.at + n - s.at) same (rw c.deref-2.ensures.value at c.copy_from_slice.ensures.after) (omega arith) within,
      λ e f. drop_all (s.at + n) s.bytes.items (omega (arith, s.bytes.ok.0, c.requires)),
    )
