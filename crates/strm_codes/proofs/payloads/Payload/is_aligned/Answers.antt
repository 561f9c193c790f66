use Rattle.std.proofs.Common.{rules}
use Rattle.strm_codes.specs.Layout.{item_type}
use Rattle.strm_codes.proofs.LayoutLemmas.{align_mask}
use Rattle.strm_codes.proofs.payloads.Payload.is_aligned.Goals as goal

pub returns : goal.returns
returns c = rw (c.align.ensures.exact, align_mask c.args.address (item_type c.args.self.now)) (search rules)
