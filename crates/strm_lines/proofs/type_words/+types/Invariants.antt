use Rattle.std.proofs.Common.{◌+◌, ◌*◌}
use Rattle.strm_lines.proofs.type_words.+types.Given as goal

abbrev pub decreases-read_type : goal.decreases-read_type
decreases-read_type l = 256 * l.depth

abbrev pub decreases-read_parts : goal.decreases-read_parts
decreases-read_parts l = 256 * l.depth + l.most + 1
