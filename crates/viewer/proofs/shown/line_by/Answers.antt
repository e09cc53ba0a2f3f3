use Rattle.std.proofs.Common.{◌≡◌, length, refl, rules}
use Rattle.viewer.specs.Viewed.{seen_by}
use Rattle.viewer.proofs.WriteLaws.{line-written}
use Rattle.viewer.proofs.shown.line_by.Goals as goal

-- there are 32 names
pub returns : goal.returns
returns c =
    let names : length c.args.state.now.sheet.rule_names ≡ 32 = search (rules, c.well_formed) in
    line-written (seen_by c.args.head c.args.matching c.args.state.now) _ _ _ _ refl names c.parts-end.ensures
