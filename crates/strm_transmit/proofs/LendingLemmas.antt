-- A guest's memory, lent: what was written keeps what every store keeps.
use Rattle.std.proofs.Common.{◌≡◌, ℕ, ◌<◌, List, length, get_or, refl, sym, ap, ◌∙◌}
use Rattle.std.specs.List.{refill, length_refill}
use Rattle.std.specs.Vec.{with_item}
use Rattle.strm_memory.specs.Linear.{with_contents}
use Rattle.strm_machine.specs.State.{with_memory}
use Rattle.strm_channels.specs.Guests.{guests_of}
use Rattle.strm_channels.specs.declared.guests.Guest.{Guest}
use Rattle.strm_channels.proofs.GuestLemmas.{guests_of-with_memory, memory_in-seen}
use Rattle.strm_transmit.specs.Inside.{state_of, IsStore}
use Rattle.strm_transmit.specs.Lending.{with_bytes_in}
use Rattle.strm_transmit.specs.declared.store.Store.TheInside.{Inside}
use Rattle.strm_transmit.proofs.StoreLemmas.{PutsMemory, IsStore-memory, puts-state}

-- the bytes that a memory has once these were written into it
abbrev pub rewritten : List ℕ → List ℕ → List ℕ
rewritten memory bytes = refill (length memory) memory bytes

-- a store with these bytes in the memory of guest x, whose number is g
abbrev pub lent_to : Inside → ℕ → Guest → List ℕ → Inside
lent_to s g x bytes = record s { guests = with_item s.guests g (record x { memory = with_contents x.memory (rewritten x.memory.bytes bytes) }) }

module _ (s : Inside) (g : ℕ) (x : Guest) (there : g < length s.guests.items) (is : x ≡ get_or s.guests.items g x) (bytes : List ℕ) where
  puts : PutsMemory s (lent_to s g x bytes) g (rewritten x.memory.bytes bytes)
  puts = record {
    same = record { tag = refl; limits = refl; producers = refl; kept = refl; consumers = refl; contexts = refl; trapped = refl };
    counter = refl;
    streams = refl;
    places = refl;
    live_sets = refl;
    count = refl;
    ready = refl;
    guests = guests_of-with_memory s.guests.items g x (rewritten x.memory.bytes bytes) there is;
  }

  pub lent-keeps : IsStore s → IsStore (lent_to s g x bytes)
  lent-keeps i =
      let before = memory_in-seen s.guests.items g x there is in
      IsStore-memory s (lent_to s g x bytes) g (rewritten x.memory.bytes bytes) puts
      (sym (length_refill (length x.memory.bytes) x.memory.bytes bytes refl) ∙ ap length (sym before)) i

  pub lent-state : state_of (lent_to s g x bytes) ≡ with_bytes_in (state_of s) g bytes
  lent-state =
      puts-state s (lent_to s g x bytes) g (rewritten x.memory.bytes bytes) puts
      ∙ ap (λ m. record (state_of s) { guests = with_memory (guests_of s.guests.items) g (rewritten m bytes) }) (sym (memory_in-seen s.guests.items g x there is))
