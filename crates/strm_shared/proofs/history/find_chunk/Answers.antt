use Rattle.std.proofs.Common.{rules, ◌≡◌, [], slice_get, None, sym, ap, ◌∙◌, option_copied}
use Rattle.std.specs.Option.{unwrap_or}
use Rattle.std.proofs.lemmas.Option.{unwrap_or-slice_get}
use Rattle.strm_shared.proofs.history.find_chunk.Goals as goal

pub returns-in-None : goal.returns-in-None
returns-in-None c =
    let chunks = c.args.chunks.now.items in
    let empty : c.unwrap.result ≡ [] = search rules in
    let past : slice_get chunks c.args.place ≡ None = sym c.get.ensures ∙ ap option_copied c.in-None.is in
    empty ∙ (sym (ap (λ o. unwrap_or o []) past) ∙ unwrap_or-slice_get chunks c.args.place [])
