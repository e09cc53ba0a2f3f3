use Rattle.positions.specs.Summaries.{star_summary}
use Rattle.positions.proofs.summaries.Summary.repeated.Goals as goal

pub returns : goal.returns
unfolding star_summary
returns c = cc
