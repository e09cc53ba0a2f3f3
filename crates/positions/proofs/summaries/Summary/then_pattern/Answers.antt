-- `then_pattern` meets its contract: a law of PatternLaws for each way out.
-- Assumes nothing.
use Rattle.std.proofs.Common.{ap, ◌∙◌}
use Rattle.common.specs.Sets.{shares}
use Rattle.positions.proofs.PatternLaws.{shares_bit, starred_after, plain_after}
use Rattle.positions.proofs.summaries.Summary.then_pattern.Goals as goal

pub returns-then-starred : goal.returns-then-starred
returns-then-starred c =
    let held = c.share-held.ensures ∙ ap (shares c.args.positions) c.single-place.ensures ∙ shares_bit c.args.positions c.args.self.next c.ranges.positions.fits in
    rw (c.if-starred.true, c.following-next.ensures, c.only_if.ensures, c.only_if-then-starred.ensures, c.only_if-entered.ensures, c.single-place.ensures) (starred_after c.args.self c.args.positions c.args.met _ held)

pub returns : goal.returns
returns c =
    let held = c.share-held.ensures ∙ ap (shares c.args.positions) c.single-place.ensures ∙ shares_bit c.args.positions c.args.self.next c.ranges.positions.fits in
    rw (c.if-starred.false, c.following-next.ensures, c.only_if.ensures, c.only_if-2.ensures, c.only_if-entered.ensures, c.single-place.ensures) (plain_after c.args.self c.args.positions c.args.met _ held)
