use Rattle.positions.specs.Summaries.{ends_of}
use Rattle.positions.proofs.summaries.Summary.ends.Goals as goal

pub returns : goal.returns
unfolding ends_of
returns c = cc
