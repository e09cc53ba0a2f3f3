-- `compiled` meets its contract: a law of RuleLaws for each way out.
-- Assumes nothing.
use Rattle.std.proofs.Common.{rules, refl, ◌≡◌, length}
use Rattle.follow.proofs.RuleLaws.{compiled-short, compiled-cut, compiled-right}
use Rattle.follow.proofs.rules.compiled.Goals as goal

pub returns-then-body-walk : goal.returns-then-body-walk
returns-then-body-walk c =
    let h : length c.args.body.code ≡ 126 = search rules in
    compiled-short c.args.body _ _ _ h c.if-body-gt-ROW_ROOM.false refl _ c.past-walk.ensures c.if-body-walk.true

pub returns-then-body-semicolon : goal.returns-then-body-semicolon
returns-then-body-semicolon c =
    let h : length c.args.body.code ≡ 126 = search rules in
    compiled-cut c.args.body _ _ _ h c.if-body-gt-ROW_ROOM.false refl _ c.past-walk.ensures _ c.pattern-semicolon.ensures c.if-body-semicolon.true

pub returns : goal.returns
returns c =
    let h : length c.args.body.code ≡ 126 = search rules in
    compiled-right c.args.body _ _ _ h c.if-body-gt-ROW_ROOM.false refl _ c.past-walk.ensures _ c.pattern-semicolon.ensures _ _ c.ends.ensures c.row_of.ensures
