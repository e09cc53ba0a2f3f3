-- The operations before k are done.
-- Assumes nothing.
use Rattle.stand.proofs.RunLaws.{Progress}
use Rattle.stand.proofs.sessions.Session.run.Given as goal

abbrev pub invariant-loop-k : goal.invariant-loop-k
invariant-loop-k l =
    Progress l.self.kinds.now l.self.records.now l.self.lengths.now l.self.sizes.now l.initial.replies l.initial.numbers l.initial.counts l.monitor l.replies l.numbers l.counts l.at l.to l.k
