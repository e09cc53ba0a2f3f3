use Rattle.positions.specs.Summaries.{pat_summary}
use Rattle.positions.proofs.summaries.Summary.one.Goals as goal

pub returns : goal.returns
unfolding pat_summary
returns c = cc
