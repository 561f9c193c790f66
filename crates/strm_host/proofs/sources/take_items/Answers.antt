use Rattle.std.proofs.Common.{◌≡◌, ◌+◌, ◌-◌, min, length, refl, ap, sym, arith, ◌∙◌, true, false, length-drop}
use Rattle.strm_codes.specs.Layout.{item_type}
use Rattle.strm_buffers.specs.Offers.{Offered, items_lent, good_lent, left_of}
use Rattle.strm_buffers.proofs.OfferLemmas.{good_most}
use Rattle.strm_host.proofs.SourceLemmas.{asked, ended}
use Rattle.strm_host.proofs.sources.take_items.Goals as goal
