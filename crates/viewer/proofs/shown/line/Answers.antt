use Rattle.std.proofs.Common.{◌≡◌, length, refl, rules}
use Rattle.viewer.specs.Viewed.{seen_of}
use Rattle.viewer.proofs.WriteLaws.{line-written}
use Rattle.viewer.proofs.shown.line.Goals as goal

-- there are 32 names
pub returns : goal.returns
returns c =
    let names : length c.args.state.now.sheet.rule_names ≡ 32 = search (rules, c.well_formed) in
    line-written (seen_of c.args.viewed c.args.state.now) _ _ _ _ refl names c.fill-len.ensures
