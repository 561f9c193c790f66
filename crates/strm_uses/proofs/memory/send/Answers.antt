-- Where there are no bytes to send, none are put.
use Rattle.std.proofs.Common.{◌≡◌, ℕ, ◌+◌, List, [], take, sym, ap, subst, arith}
use Rattle.std.proofs.lemmas.List.{append-nil, take-append-drop}
use Rattle.strm_memory.specs.Bytes.{put_at, bytes_at}
use Rattle.strm_memory.specs.Linear.{with_contents}
use Rattle.strm_uses.proofs.memory.send.Goals as goal

none_put : (m : List ℕ) (at : ℕ) → m ≡ put_at m at []
none_put m at =
    let zero : at + 0 ≡ at = omega arith in
    rw (zero, append-nil (take at m)) (sym (take-append-drop at m))

pub returns-then-equals_u32-clause-arrived : goal.returns-then-equals_u32-clause-arrived
returns-then-equals_u32-clause-arrived c =
    let none : bytes_at c.args.writer.now.bytes c.args.from c.args.count ≡ [] =
    ap (bytes_at c.args.writer.now.bytes c.args.from) (c.equals_u32.ensures.0 c.if-equals_u32.true) in
    ap (with_contents c.args.reader.now)
    (subst (λ (bs : List ℕ). c.args.reader.now.bytes ≡ put_at c.args.reader.now.bytes c.args.to bs) (sym none) (none_put c.args.reader.now.bytes c.args.to))
