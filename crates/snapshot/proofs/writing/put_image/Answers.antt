-- `put_image` meets its contract: its three parts one after the other.
-- Assumes nothing.
use Rattle.columns.proofs.WriteLaws.{writes_then}
use Rattle.snapshot.specs.Written.{role_at, rule_at, marks_at, image_from}
use Rattle.snapshot.proofs.writing.put_image.Goals as goal

pub returns : goal.returns
unfolding image_from
returns c =
    let f = c.args.state.now in
    writes_then (c.put_records-rules_at.ensures (role_at f.sheet.names f.sheet.parents) (λ i h r p. p))
    (writes_then (c.put_records-marks_at.ensures (rule_at f.sheet.names f.sheet.rule_names f.sheet.rows) (λ i h r p. p))
    (c.put_records.ensures (marks_at f.sheet.rule_names f.positions) (λ i h r p. p)))
