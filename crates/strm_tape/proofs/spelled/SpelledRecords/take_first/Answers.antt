use Rattle.strm_tape.proofs.SpelledLemmas.{taken, untaken}
use Rattle.strm_tape.proofs.spelled.SpelledRecords.take_first.Goals as goal

pub unreachable-requires : goal.unreachable-requires
unreachable-requires c =
    let s = c.self.inside in
    untaken s.payload s.count s.bytes c.as_slice-bytes.result.now c.args.self.now c.are_bytes.ensures c.as_slice-bytes.ensures c.self.invariant c.self.view_is c.requires (rw c.in_default.is at c.in_ok-first.ensures)

pub overflow_sub-done : goal.overflow_sub-done
overflow_sub-done c =
    let s = c.self.inside in
    (taken s.payload s.count s.bytes c.as_slice-bytes.result.now c.args.self.now c.are_bytes.ensures c.as_slice-bytes.ensures c.self.invariant c.self.view_is c.requires c.in-Some.rest.now c.in-Some.first (rw c.in-Some.is at c.in_ok-first.ensures)).short

pub overflow_sub-self : goal.overflow_sub-self
overflow_sub-self c =
    let s = c.self.inside in
    (taken s.payload s.count s.bytes c.as_slice-bytes.result.now c.args.self.now c.are_bytes.ensures c.as_slice-bytes.ensures c.self.invariant c.self.view_is c.requires c.in-Some.rest.now c.in-Some.first (rw c.in-Some.is at c.in_ok-first.ensures)).some

pub invariant_of-self : goal.invariant_of-self
invariant_of-self c =
    let s = c.self.inside in
    rw c.advance.ensures (taken s.payload s.count s.bytes c.as_slice-bytes.result.now c.args.self.now c.are_bytes.ensures c.as_slice-bytes.ensures c.self.invariant c.self.view_is c.requires c.in-Some.rest.now c.in-Some.first (rw c.in-Some.is at c.in_ok-first.ensures)).behind

pub returns-clause-ok : goal.returns-clause-ok
returns-clause-ok c =
    let s = c.self.inside in
    rw c.advance.ensures (taken s.payload s.count s.bytes c.as_slice-bytes.result.now c.args.self.now c.are_bytes.ensures c.as_slice-bytes.ensures c.self.invariant c.self.view_is c.requires c.in-Some.rest.now c.in-Some.first (rw c.in-Some.is at c.in_ok-first.ensures)).is
