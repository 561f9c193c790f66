use Rattle.std.proofs.Common.{◌≡◌, ℕ, true}
use Rattle.strm_machine.specs.Sides.{end_of, opposite}
use Rattle.strm_machine.specs.declared.streams.Owner.TheVariants.{Held}
use Rattle.strm_machine.specs.declared.streams.Side.{Side}
use Rattle.strm_machine.specs.declared.streams.Side.TheVariants.{Writing, Reading}
use Rattle.strm_machine.specs.declared.streams.Stream.{Stream}
use Rattle.strm_channels.specs.Guests.{guests_of}
use Rattle.strm_transmit.specs.Telling.{SaysOf, member_of, has_report}
use Rattle.strm_transmit.proofs.ToldLemmas.{never}
use Rattle.strm_transmit.proofs.telling.retell_ends.Goals as goal

-- a guest has the end on a side under this handle
abbrev Owns : Stream → Side → ℕ → ℕ → Type 0
Owns stream side g handle = (end_of side stream).owner ≡ Held g handle

pub returns : goal.returns
returns c = record {
  told = told;
  others = λ g number handle b says none.
      c.retell_end-2.ensures.others g number handle b
      (c.retell_end.ensures.others g number handle b says (λ owner member. absurd (never (none Writing owner member))))
      (λ owner member. absurd (never (none Reading owner member)));
}
  where
    told : (side : Side) (g number handle : ℕ) → Owns c.args.stream.now side g handle
        → (Owns c.args.stream.now (opposite side) g handle → ⊥)
        → member_of (guests_of c.args.guests.now.items) g number handle ≡ true
        → SaysOf c.retell_end-2.new.ready.items g number handle (has_report side c.args.stream.now)
    told Writing g number handle owner apart member =
        c.retell_end-2.ensures.others g number handle _ (c.retell_end.ensures.told g number handle owner member)
        (λ across _. absurd (apart across))
    told Reading g number handle owner apart member = c.retell_end-2.ensures.told g number handle owner member
