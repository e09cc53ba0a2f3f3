use Rattle.std.proofs.Common.{◌≡◌, true}
use Rattle.book.specs.Batches.{batch_fits}
use Rattle.batch.proofs.BatchLaws.{Progress}
use Rattle.batch.proofs.batches.handle_batch.Given as goal

abbrev pub invariant-loop-i : goal.invariant-loop-i
invariant-loop-i l =
    (batch_fits l.records l.initial.replies ≡ true)
    × Progress l.initial.monitor l.records l.initial.replies l.monitor l.replies l.i-iterator.iter.size l.i-iterator.iter.rest.now l.i-iterator.count
