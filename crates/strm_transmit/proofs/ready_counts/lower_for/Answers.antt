use Rattle.std.proofs.Common.{ℕ, Option, refl, ap, ◌∙◌}
use Rattle.std.proofs.lemmas.Bool.{eq-eqb}
use Rattle.strm_codes.specs.OptionalNumbers.{is_number}
use Rattle.strm_transmit.proofs.ReadyGuestLemmas.{counts_less}
use Rattle.strm_transmit.proofs.ready_counts.lower_for.Goals as goal

pub lower-requires : goal.lower-requires
lower-requires c =
    record { any = λ l. c.requires c.in-Some.guest l (ap (λ (o : Option ℕ). is_number o c.in-Some.guest) c.in-Some.is ∙ eq-eqb c.in-Some.guest c.in-Some.guest refl) }

pub returns : goal.returns
returns c =
    let less = counts_less c.args.counts.now _ c.args.was c.in-Some.guest c.in-Some.is c.lower.ensures c.requires in
    record { all = less.all; counts = less.counts }
