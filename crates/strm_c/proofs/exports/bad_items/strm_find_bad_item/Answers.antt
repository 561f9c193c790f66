-- Where the store finds no item, there is none.
use Rattle.std.proofs.Common.{refl}
use Rattle.strm_c.proofs.exports.bad_items.strm_find_bad_item.Goals as goal

pub returns-in-None-clause-tells : goal.returns-in-None-clause-tells
returns-in-None-clause-tells c =
    rw (← c.in-Some.ensures.value, ← c.in-Some-type_at.ensures, ← c.side_at.ensures)
    (record {
      found = λ e. cc;
      status_is = λ e. refl;
      none = λ e. c.in-None.ensures.none refl;
      kept = λ e. refl;
    })
