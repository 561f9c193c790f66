use Rattle.std.proofs.Common.{arith}
use Rattle.strm_buffers.proofs.RangeLemmas.{drop-slice_range, length-slice_range}
use Rattle.strm_buffers.proofs.slice_buffer.SliceBufferWriteBufferU8.skip.Goals as goal

pub returns-clause-rest : goal.returns-clause-rest
returns-clause-rest c = drop-slice_range c.args.self.now.buffer.items c.args.self.now.offset c.args.self.now.limit c.args.count (omega (arith, c.requires, c.args.self.now.ordered, length-slice_range c.args.self.now.buffer.items c.args.self.now.offset c.args.self.now.limit c.args.self.now.ordered c.args.self.now.within))
