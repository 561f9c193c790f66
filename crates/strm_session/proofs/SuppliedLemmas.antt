-- What host writers hold before a run and record in it are items.
use Rattle.std.proofs.Common.{◌≡◌, ℕ, zero, suc, List, [], ◌∷◌, map, drop, length, get_or, subst}
use Rattle.std.specs.Prelude.{All, slice_index_or}
use Rattle.std.proofs.lemmas.List.Elements.{All-nil, All-drop, All-head, All-tail}
use Rattle.strm_codes.specs.Layout.{item_type}
use Rattle.strm_codes.specs.declared.payloads.Payload.{Payload}
use Rattle.strm_memory.specs.Items.{AreItems}
use Rattle.strm_buffers.specs.Listing.{Item}
use Rattle.strm_buffers.specs.Said.{WriterSaid}
use Rattle.strm_buffers.specs.Tells.{WriterTells, Tells, HoldsItems, no_tells}
use Rattle.strm_machine.specs.State.{State}
use Rattle.strm_machine.specs.declared.streams.Duty.{Duty}
use Rattle.strm_machine.specs.declared.streams.Duty.TheVariants.{Unused, Serves, Ended}
use Rattle.strm_machine.specs.declared.streams.Producer.{Producer}
use Rattle.strm_host_machine.specs.Ends.{Writer, no_writer}
use Rattle.strm_host_machine.specs.World.{writer_at}
use Rattle.strm_host_machine.specs.Does.{held_while, first_duty, writer_of, writers_from, SaidFits, IsSuppliedSince, AreSuppliedSince, world_spent}
use Rattle.strm_host_laws.specs.HostLaws.{Supplies}
use Rattle.strm_session.specs.Runs.{start_among}

supplies_none : Supplies no_writer
supplies_none = record { holds = tt; coming = All-nil (SaidFits no_writer.payload) }

held_items : (payload : Payload) (duty : Duty) (items : List Item) → AreItems (item_type payload) items → AreItems (item_type payload) (held_while duty items)
held_items payload Unused items h = h
held_items payload (Serves s) items h = h
held_items payload Ended items h = tt

supplies_of : (duty : Duty) (tells : WriterTells) (log : List WriterSaid) → HoldsItems tells → All (SaidFits tells.payload) (drop (length tells.said) log) → Supplies (writer_of duty tells log)
supplies_of duty tells log h a = record { holds = held_items tells.payload duty tells.holds h; coming = a }

-- of which nothing is to come
supplies_last : (duty : Duty) (tells : WriterTells) → HoldsItems tells → Supplies (writer_of duty tells [])
supplies_last duty tells h = supplies_of duty tells [] h (All-drop (SaidFits tells.payload) (length tells.said) [] (All-nil (SaidFits tells.payload)))

-- the writer of a number, among those that tell this and will tell that in the end
abbrev one_of : List Producer → List WriterTells → List WriterTells → ℕ → Writer
one_of ps ws vs n = get_or (writers_from ps ws (map (λ w. w.said) vs)) n no_writer

-- where that are writers of the same payload
one_supplies : (ps qs : List Producer) (ws vs : List WriterTells) (n : ℕ) → All HoldsItems ws → IsSuppliedSince (slice_index_or ws n no_tells) (slice_index_or vs n no_tells)
    → (one_of qs vs vs n).payload ≡ (one_of ps ws vs n).payload → Supplies (one_of ps ws vs n)
one_supplies ps qs [] vs n h a e = supplies_none
one_supplies ps qs (w ∷ ws) [] zero h a e = supplies_last (first_duty ps) w (All-head HoldsItems w ws h)
one_supplies ps qs (w ∷ ws) [] (suc n) h a e = none_supplies (drop 1 ps) ws n (All-tail HoldsItems w ws h)
  where
    none_supplies : (ps : List Producer) (ws : List WriterTells) (n : ℕ) → All HoldsItems ws → Supplies (get_or (writers_from ps ws []) n no_writer)
    none_supplies ps [] n h = supplies_none
    none_supplies ps (w ∷ ws) zero h = supplies_last (first_duty ps) w (All-head HoldsItems w ws h)
    none_supplies ps (w ∷ ws) (suc n) h = none_supplies (drop 1 ps) ws n (All-tail HoldsItems w ws h)
one_supplies ps qs (w ∷ ws) (v ∷ vs) zero h a e =
    supplies_of (first_duty ps) w v.said (All-head HoldsItems w ws h) (subst (λ p. All (SaidFits p) (drop (length w.said) v.said)) e a)
one_supplies ps qs (w ∷ ws) (v ∷ vs) (suc n) h a e =
    one_supplies (drop 1 ps) (drop 1 qs) ws vs n (All-tail HoldsItems w ws h) a e

-- what is to come of each in a run that ends here are items
pub all_supply : (old new : Tells) (state : State) → All HoldsItems old.writers → AreSuppliedSince old new → ((n : ℕ) → (writer_at (world_spent state new) n).payload ≡ (writer_at (start_among old new) n).payload) → (n : ℕ) → Supplies (writer_at (start_among old new) n)
all_supply old new state h a e n =
    one_supplies (start_among old new).state.producers state.producers old.writers new.writers n h (a n) (e n)
