-- `stars` leaves what follows the stars in front. What falls is the unread length.
use Rattle.std.proofs.Common.{arith}
use Rattle.grammar.proofs.LevelLaws.{part_shorter}
use Rattle.grammar.proofs.LevelPasts.{stars_stop, stars_more}
use Rattle.grammar.proofs.pasts.+stars.Goals as goal

pub stars-requires : goal.stars-requires
stars-requires t c =
    let l = part_shorter _ _ c.in-Some.ensures.shorter in
    omega arith

pub returns-in-Some : goal.returns-in-Some
returns-in-Some t c = stars_more _ _ _ c.in-Some.ensures c.stars.ensures

pub returns-in-None : goal.returns-in-None
returns-in-None t c = stars_stop _ c.in-None.ensures
