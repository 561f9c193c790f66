use Rattle.std.proofs.Common.{◌≡◌, ◌++◌, refl, ap, ◌∙◌, arith}
use Rattle.strm_program_ends.proofs.feeds.Feeds.copy.Goals as goal

pub of_bytes-requires : goal.of_bytes-requires
of_bytes-requires c =
    let new : c.extend_from_slice.new.self.items ≡ c.bytes_of.result.now = c.in-Ok.ensures.items ∙ ap (λ l. l ++ c.bytes_of.result.now) c.new-bytes.ensures.items in
    rw (c.payload.ensures, new) (record { all = omega (arith, c.bytes_of.ensures.all); lie = c.bytes_of.ensures.lie; few = c.requires.few })

pub returns-in-Ok : goal.returns-in-Ok
returns-in-Ok c =
    let new : c.extend_from_slice.new.self.items ≡ c.bytes_of.result.now = c.in-Ok.ensures.items ∙ ap (λ l. l ++ c.bytes_of.result.now) c.new-bytes.ensures.items in
    c.of_bytes.ensures ∙ rw (c.payload.ensures, new, c.bytes_of.ensures.items) refl
