use Rattle.std.proofs.Common.{[], ◌∷◌, ◌++◌, ap, sym, subst, ◌∙◌}
use Rattle.std.proofs.lemmas.Bool.{true≢false}
use Rattle.strm_channels.specs.Guests.{guests_of}
use Rattle.strm_transmit.specs.Telling.{Ready, Retells}
use Rattle.strm_transmit.specs.ReadyGuests.{Known, new_entry}
use Rattle.strm_transmit.specs.declared.readiness.Readiness.TheInside.{Inside}
use Rattle.strm_transmit.proofs.readiness.Readiness.add_kept.Goals as goal
use Rattle.strm_transmit.proofs.readiness.Readiness.add_kept.Goals.{then-self, else-self}

pub returns : goal.returns
returns c =
    elim c.if-self.branch [
      | then-self w ↦ record {
        sets = subst (λ (k : Ready). Retells (guests_of c.args.guests.now.items) c.args.stream.now k c.retell.new.ready.items)
            (ap (λ (i : Inside). i.sets.items) w.self-inside-is ∙ ap (λ (k : Known). k.sets) c.self.view_is) c.retell.ensures;
        counting = ap (λ (i : Inside). i.is_counting) w.self-inside-is ∙ ap (λ (k : Known). k.is_counting) c.self.view_is;
        guests_counted = ap (λ (i : Inside). i.counts.guests) w.self-inside-is ∙ w.add.ensures.guests ∙ ap (λ (k : Known). k.counts.guests) c.self.view_is;
        listed = λ t. ap (λ (i : Inside). i.counts.streams) w.self-inside-is ∙ w.add.ensures.streams
            ∙ ap (λ (k : Known). k.counts.streams ++ new_entry ∷ []) c.self.view_is;
      }
      | else-self w ↦ record {
        sets = subst (λ (k : Ready). Retells (guests_of c.args.guests.now.items) c.args.stream.now k c.retell.new.ready.items)
            (ap (λ (i : Inside). i.sets.items) w.self-inside-is ∙ ap (λ (k : Known). k.sets) c.self.view_is) c.retell.ensures;
        counting = ap (λ (i : Inside). i.is_counting) w.self-inside-is ∙ ap (λ (k : Known). k.is_counting) c.self.view_is;
        guests_counted = ap (λ (i : Inside). i.counts.guests) w.self-inside-is ∙ ap (λ (k : Known). k.counts.guests) c.self.view_is;
        listed = λ t. absurd (true≢false (sym t ∙ sym (ap (λ (k : Known). k.is_counting) c.self.view_is) ∙ w.if-self.false));
      }
    ]
