use Rattle.std.proofs.Common.{take, length-take-le, rules}
use Rattle.input.proofs.ReadLaws.{taken_more}
use Rattle.input.proofs.records.read_full.Goals as goal

pub loop-done-preserved : goal.loop-done-preserved
loop-done-preserved g c =
    let read = c.in_ok-n.ensures in
    let done = c.loop-done.done in
    let xs = c.loop-done.bytes in
    record {
      within = search rules;
      bytes = taken_more _ _ _ done c.in_ok-n.n (take done xs) c.one_read.new.rest _ (length-take-le done xs c.loop-done.invariant.within) read.count.0 c.loop-done.invariant.bytes read.bytes;
    }
