-- The records so far are whole and answered.
use denote.Param.Always.{always_mut}
use Rattle.input.specs.Records.{WholeAnswered}
use Rattle.input.proofs.records.each_record.Given as goal

abbrev pub invariant-loop-count : goal.invariant-loop-count
invariant-loop-count g l = record {
  callable : always_mut g.F.FnMut l.answer;
  so_far : WholeAnswered g.F.FnMut l.initial.answer (g.R.Read.remaining l.initial.file) (g.R.Read.remaining l.file) l.count l.answer;
}
