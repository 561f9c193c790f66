use Rattle.std.proofs.Common.{◌++◌, codes, sym, ap}
use Rattle.strm_lines.proofs.ReadingLemmas.{behind_sound}
use Rattle.strm_lines.proofs.words.signed_behind.Goals as goal

pub returns-in-Some : goal.returns-in-Some
returns-in-Some c = ap (λ xs. codes "s" ++ xs) (behind_sound (codes "32 ") c.args.line.now _ (sym c.in-Some.ensures))

pub returns-in-Some-behind : goal.returns-in-Some-behind
returns-in-Some-behind c = ap (λ xs. codes "s" ++ xs) (behind_sound (codes "64 ") c.args.line.now _ (sym c.in-Some-behind.ensures))

pub returns-in-Some-behind-2 : goal.returns-in-Some-behind-2
returns-in-Some-behind-2 c = ap (λ xs. codes "s" ++ xs) (behind_sound (codes "16 ") c.args.line.now _ (sym c.in-Some-behind-2.ensures))

pub returns-in_ok-rest : goal.returns-in_ok-rest
returns-in_ok-rest c = ap (λ xs. codes "s" ++ xs) (behind_sound (codes "8 ") c.args.line.now _ (sym c.in_ok-rest.ensures))
