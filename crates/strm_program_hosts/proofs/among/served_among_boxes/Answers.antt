use Rattle.std.proofs.Common.{inl, inr, refl, ap, ◌∙◌}
use denote.Param.Object.{read_made}
use Rattle.strm_codes.specs.declared.codes.TransmitKind.TheVariants.{Stream}
use Rattle.strm_buffers.specs.Tells.{WriterTells, ReaderTells}
use Rattle.strm_program_ends.specs.QueueTells.{queue_tells}
use Rattle.strm_program_ends.specs.Credits.{credit_tells, ungranted}
use Rattle.strm_host.specs.Erasing.{erased_tells}
use Rattle.strm_program_hosts.proofs.among.served_among_boxes.Object-1 as boxed_writer
use Rattle.strm_program_hosts.proofs.among.served_among_boxes.Object-2 as boxed_reader
use Rattle.strm_program_hosts.proofs.among.served_among_boxes.OwnLists as owns
use Rattle.strm_program_hosts.proofs.TellsLemmas.{both}
use Rattle.strm_program_hosts.proofs.among.served_among_boxes.Goals as goal

-- what a boxed end tells is what the end in it does: the boxes are made of a queue, of a list, of an empty
-- stream and of a reader with a credit
pub serve_among-requires-clause-writers : goal.serve_among-requires-clause-writers
serve_among-requires-clause-writers g c =
    let queue = read_made {G = boxed_writer.Members} owns.own-1 (owns.own-1.entry (inl tt)) (inl tt) refl WriterTells (λ j. j.1.writer_tells) in
    let list = read_made {G = boxed_writer.Members} owns.own-1 (owns.own-1.entry (inr (inl tt))) (inr (inl tt)) refl WriterTells (λ j. j.1.writer_tells) in
    let none = read_made {G = boxed_writer.Members} owns.own-1 (owns.own-1.entry (inr (inr (inl tt)))) (inr (inr (inl tt))) refl WriterTells (λ j. j.1.writer_tells) in
    rw (c.in_ok-from_array.ensures.items)
    (both (queue _ _ _ c.into_dyn_box.ensures.1 ∙ ap queue_tells c.in_ok-new.ensures.ok ∙ c.new.ensures.tells)
    (both (queue _ _ _ c.into_dyn_box-in_ok-new-2.ensures.1 ∙ ap queue_tells c.in_ok-new-2.ensures.ok ∙ c.new-3.ensures.tells)
    (both (queue _ _ _ c.into_dyn_box-in_ok-new-3.ensures.1 ∙ ap queue_tells c.in_ok-new-3.ensures.ok ∙ c.new-5.ensures.tells)
    (both (queue _ _ _ c.into_dyn_box-in_ok-new-4.ensures.1 ∙ ap queue_tells c.in_ok-new-4.ensures.ok ∙ c.new-7.ensures.tells)
    (both (queue _ _ _ c.into_dyn_box-in_ok-new-5.ensures.1 ∙ ap queue_tells c.in_ok-new-5.ensures.ok ∙ c.new-9.ensures.tells)
    (both (list _ _ _ c.into_dyn_box-in_ok-new-6.ensures.1 ∙ ap erased_tells c.in_ok-new-6.ensures.ok ∙ c.requires.first_unpolled)
    (both (list _ _ _ c.into_dyn_box-in_ok-new-7.ensures.1 ∙ ap erased_tells c.in_ok-new-7.ensures.ok ∙ c.requires.second_unpolled)
    (both (none _ _ _ c.into_dyn_box-in_ok-new-8.ensures.1 ∙ ap erased_tells c.in_ok-new-8.ensures.ok ∙ c.requires.none_unpolled) refl))))))))

pub serve_among-requires-clause-readers : goal.serve_among-requires-clause-readers
serve_among-requires-clause-readers g c =
    let credit = read_made {G = boxed_reader.Members} owns.own-2 (owns.own-2.entry (inl tt)) (inl tt) refl ReaderTells (λ j. j.1.reader_tells) in
    rw (c.in_ok-from_array-2.ensures.items)
    (both (credit _ _ _ c.into_dyn_box-in_ok-new-9.ensures.1 ∙ ap credit_tells c.in_ok-new-9.ensures.ok ∙ c.new-14.ensures.tells)
    (both (credit _ _ _ c.into_dyn_box-in_ok-new-10.ensures.1 ∙ ap credit_tells c.in_ok-new-10.ensures.ok ∙ c.new-16.ensures.tells)
    (both (credit _ _ _ c.into_dyn_box-in_ok-new-11.ensures.1 ∙ ap credit_tells c.in_ok-new-11.ensures.ok ∙ c.new-18.ensures.tells)
    (both (credit _ _ _ c.into_dyn_box-in_ok-new-12.ensures.1 ∙ ap credit_tells c.in_ok-new-12.ensures.ok ∙ c.new-20.ensures.tells)
    (both (credit _ _ _ c.into_dyn_box-in_ok-new-13.ensures.1 ∙ ap credit_tells c.in_ok-new-13.ensures.ok ∙ c.new-22.ensures.tells)
    (both (credit _ _ _ c.into_dyn_box-in_ok-new-14.ensures.1 ∙ ap credit_tells c.in_ok-new-14.ensures.ok ∙ c.new-24.ensures.tells)
    (both (credit _ _ _ c.into_dyn_box-in_ok-new-15.ensures.1 ∙ ap credit_tells c.in_ok-new-15.ensures.ok ∙ c.new-26.ensures.tells ∙ ap (ungranted Stream) c.payload.ensures)
    (both (credit _ _ _ c.into_dyn_box-in_ok-new-16.ensures.1 ∙ ap credit_tells c.in_ok-new-16.ensures.ok ∙ c.new-28.ensures.tells) refl))))))))
