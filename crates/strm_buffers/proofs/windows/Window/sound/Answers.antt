use Rattle.std.proofs.Common.{ap}
use Rattle.strm_buffers.proofs.SoundLemmas.{place_sound}
use Rattle.strm_buffers.proofs.WindowLemmas.{lying_nowhere}
use Rattle.strm_buffers.proofs.windows.Window.sound.Goals as goal

pub returns : goal.returns
returns c = place_sound c.self.inside.payload c.self.inside.memory.bytes c.self.inside.kept.items _ c.self.inside.address c.self.inside.marked c.self.inside.room c.self.inside.is_prepared (lying_nowhere c.args.self.now) c.self.invariant.0 (ap lying_nowhere c.self.view_is)
