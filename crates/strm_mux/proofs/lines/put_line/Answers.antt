use Rattle.std.proofs.Common.{Some, sym, ap, ◌∙◌}
use Rattle.strm_frames.specs.Frames.{Data, End}
use Rattle.strm_mux.specs.LineReading.{frame_of}
use Rattle.strm_mux.proofs.LineLemmas.{line_sound, data_taken, end_taken, takes}
use Rattle.strm_mux.proofs.lines.put_line.Goals.{in-Lane, in-End}
use Rattle.strm_mux.proofs.lines.put_line.Goals as goal

pub returns-in-Ok-clause-ok : goal.returns-in-Ok-clause-ok
returns-in-Ok-clause-ok c = elim c.match-line.branch [
  | in-Lane w ↦ (
      let lane = w.in-Lane.lane in
      let piece = w.as_slice.result.now in
      let read = sym c.in-Some.ensures ∙ ap (λ l. Some (frame_of l)) w.in-Lane.is ∙ ap (λ p. Some (Data lane p)) (sym w.as_slice.ensures.exact) in
      let has = (line_sound c.args.line.now (Data lane piece) read).1 in
      takes c.args.mux.now w.put-put.new.self c.match-line.mux c.args.line.now (Data lane piece) w.put-put.result c.in-Ok.field-0 read (sym w.put-is ∙ c.in-Ok.is) w.mux-is (record {
        taken = data_taken c.args.mux.now w.put-put.new.self lane piece w.put-put.result has w.put-put.ensures.ok;
        carries = w.put-put.ensures.carries;
        ended = w.put-put.ensures.ended;
      }))
  | in-End w ↦ (
      let lane = w.in-End.lane in
      let read = sym c.in-Some.ensures ∙ ap (λ l. Some (frame_of l)) w.in-End.is in
      takes c.args.mux.now w.end-put.new.self c.match-line.mux c.args.line.now (End lane) w.end-put.result c.in-Ok.field-0 read (sym w.put-is ∙ c.in-Ok.is) w.mux-is (record {
        taken = end_taken c.args.mux.now w.end-put.new.self lane _ w.end-put.result w.end-put.ensures.ok;
        carries = w.end-put.ensures.carries;
        ended = w.end-put.ensures.ended;
      }))
]
