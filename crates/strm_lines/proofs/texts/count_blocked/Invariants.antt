use Rattle.std.proofs.Common.{◌≡◌, ◌≤◌, take}
use Rattle.std.specs.List.{count_by}
use Rattle.strm_machine.specs.Moments.{is_blocked}
use Rattle.strm_lines.proofs.texts.count_blocked.Given as goal

abbrev pub invariant-loop-reply : goal.invariant-loop-reply
invariant-loop-reply l = record {
  exact : l.count ≡ count_by is_blocked (take l.reply-index l.replies);
  most : l.count ≤ l.reply-index;
}
