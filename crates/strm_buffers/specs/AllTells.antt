-- What all host ends tell, given how one end of each trait does: a struct of boxes has no model, since
-- what a box tells can be named in a function's clause only. Ours.
use Rattle.std.specs.Prelude.{map}
use Rattle.std.specs.declared.alloc.Global.{Global}
use Rattle.std.specs.declared.dyn_box.DynBox.{DynBox}
use Rattle.strm_buffers.specs.Tells.{WriterTells, ReaderTells, Tells}
use Rattle.strm_buffers.specs.declared.hosts.Hosts.{Hosts}

-- what they tell, in a clause beside the struct: there a trait's word is of boxes
abbrev pub boxes_tell :
    {W R : Type 0} {writer : W → Type 0} {reader : R → Type 0}
    → (DynBox W Global writer → WriterTells) → (DynBox R Global reader → ReaderTells)
    → Hosts W R writer reader → Tells
boxes_tell writer_tells reader_tells hosts = record {
  writers = map writer_tells hosts.writers.items;
  readers = map reader_tells hosts.readers.items;
}

-- the same in a clause of a crate above: `tells_of writer_tells reader_tells hosts.old`
abbrev pub tells_of :
    {W R : Type 0} {writer : W → Type 0} {reader : R → Type 0}
    → ((w : W) × writer w → WriterTells) → ((r : R) × reader r → ReaderTells)
    → Hosts W R writer reader → Tells
tells_of writer_tells reader_tells hosts =
    boxes_tell (λ b. writer_tells (b.vtable, b.value)) (λ b. reader_tells (b.vtable, b.value)) hosts
