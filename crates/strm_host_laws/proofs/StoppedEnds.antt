-- Where a step stops, host ends used the records of its polls, in order, and heard nothing.
use Rattle.std.proofs.Common.{◌≡◌, ℕ, true, List, [], refl, sym, subst, inl, inr}
use Rattle.strm_machine.specs.declared.acts.Act.TheVariants.{OnHost}
use Rattle.strm_machine.specs.declared.acts.HostAct.TheVariants.{Feed, Grant}
use Rattle.strm_machine.specs.declared.replies.Reply.{Reply}
use Rattle.strm_machine.specs.declared.steps.Step.{Step}
use Rattle.strm_machine.specs.declared.stops.Stop.{Stop}
use Rattle.strm_host_machine.specs.Ends.{Writer, Reader, writer_in, reader_in}
use Rattle.strm_host_machine.specs.World.{World, writer_at, reader_at}
use Rattle.strm_host_machine.specs.HostPlays.{host_play, Halts}
use Rattle.strm_host_laws.specs.HostLaws.{WriterHalts, ReaderHalts}
use Rattle.strm_host_laws.specs.HostMoments.{Part, Acts, part_on, host_moments, end_world}
use Rattle.strm_host_laws.proofs.Chains.{is_part, StopsAt, host_play-halts}
use Rattle.strm_host_laws.proofs.GoingRules.{Halted, Comes}
use Rattle.strm_host_laws.proofs.Goings.{part-comes, feed-comes, grant-comes}
use Rattle.strm_host_laws.proofs.ReadersClosed.{Any, any_rules}
use Rattle.strm_host_laws.proofs.Fed.{OfEach, stopping-each, Uses, of_uses}
use Rattle.strm_host_laws.proofs.ReadersFed.{OfEachReader, stopping-each_reader, Uses as UsesReader, of_uses as of_uses_reader}

-- HOST WRITERS

abbrev WritersUse : World → World → Type 0
WritersUse = OfEach Uses of_uses

writers-use : (w : World) (part : Part) → is_part part ≡ true → Comes Any WritersUse w (part_on w part)
writers-use w (Acts (OnHost n (Feed bytes))) p = feed-comes Any WritersUse any_rules (stopping-each Uses of_uses) w n bytes (λ e. tt)
writers-use w (Acts (OnHost r (Grant count))) p = grant-comes Any WritersUse any_rules (stopping-each Uses of_uses) w r count (λ e. tt)
writers-use w part p = part-comes Any WritersUse any_rules (stopping-each Uses of_uses) w part p refl

writer_stops : (a b : Writer) → Uses a b → WriterHalts a b
writer_stops a b u = record { said = u.said; records = u.records; spoken = u.spoken; heard = u.heard; kind = u.kind; payload = u.payload }

at_writers : (w : World) (stop : Stop) (writers : List Writer) (readers : List Reader) → StopsAt w stop writers readers → (n : ℕ) → WriterHalts (writer_at w n) (writer_in writers n)
at_writers w stop writers readers s =
    elim s.form [
      | inl p ↦
          let halted : Halted WritersUse w writers readers = subst (Comes Any WritersUse w) s.stopped (writers-use w s.part p) in
          λ n. subst (λ ws. WriterHalts (writer_at w n) (writer_in ws n)) (sym halted.is) (writer_stops (writer_at w n) (writer_at halted.at n) (halted.kept n))
      | inr e ↦ λ n. subst (λ ws. WriterHalts (writer_at w n) (writer_in ws n)) (sym e.0) (writer_stops (writer_at w n) (writer_at w n) (of_uses.same (writer_at w n)))
    ]

pub writers-stop : (first : World) (run : List Step) (told : List Reply) (stop : Stop) (writers : List Writer) (readers : List Reader) → host_play [] first run ≡ Halts told stop writers readers
    → (n : ℕ) → WriterHalts (writer_at (end_world first (host_moments first run)) n) (writer_in writers n)
writers-stop first run replies stop writers readers e = at_writers (end_world first (host_moments first run)) stop writers readers (host_play-halts stop writers readers [] first run replies e)

-- HOST READERS

abbrev ReadersUse : World → World → Type 0
ReadersUse = OfEachReader UsesReader of_uses_reader

readers-use : (w : World) (part : Part) → is_part part ≡ true → Comes Any ReadersUse w (part_on w part)
readers-use w (Acts (OnHost n (Feed bytes))) p = feed-comes Any ReadersUse any_rules (stopping-each_reader UsesReader of_uses_reader) w n bytes (λ e. tt)
readers-use w (Acts (OnHost r (Grant count))) p = grant-comes Any ReadersUse any_rules (stopping-each_reader UsesReader of_uses_reader) w r count (λ e. tt)
readers-use w part p = part-comes Any ReadersUse any_rules (stopping-each_reader UsesReader of_uses_reader) w part p refl

reader_stops : (a b : Reader) → UsesReader a b → ReaderHalts a b
reader_stops a b u = record { said = u.said; records = u.records; spoken = u.spoken; heard = u.heard; kind = u.kind; payload = u.payload }

at_readers : (w : World) (stop : Stop) (writers : List Writer) (readers : List Reader) → StopsAt w stop writers readers → (r : ℕ) → ReaderHalts (reader_at w r) (reader_in readers r)
at_readers w stop writers readers s =
    elim s.form [
      | inl p ↦
          let halted : Halted ReadersUse w writers readers = subst (Comes Any ReadersUse w) s.stopped (readers-use w s.part p) in
          λ r. subst (λ rs. ReaderHalts (reader_at w r) (reader_in rs r)) (sym halted.read) (reader_stops (reader_at w r) (reader_at halted.at r) (halted.kept r))
      | inr e ↦ λ r. subst (λ rs. ReaderHalts (reader_at w r) (reader_in rs r)) (sym e.1) (reader_stops (reader_at w r) (reader_at w r) (of_uses_reader.same (reader_at w r)))
    ]

pub readers-stop : (first : World) (run : List Step) (told : List Reply) (stop : Stop) (writers : List Writer) (readers : List Reader) → host_play [] first run ≡ Halts told stop writers readers
    → (r : ℕ) → ReaderHalts (reader_at (end_world first (host_moments first run)) r) (reader_in readers r)
readers-stop first run replies stop writers readers e = at_readers (end_world first (host_moments first run)) stop writers readers (host_play-halts stop writers readers [] first run replies e)
