-- `patterns` meets its contract: what is counted so far and what is left to count make the whole.
-- Assumes nothing.
use Rattle.std.proofs.Common.{arith, get_or}
use Rattle.code.specs.Count.{begins}
use Rattle.code.proofs.CountLaws.{count_stop, count-more, count-end, more-small}
use Rattle.code.proofs.count.patterns.Goals as goal

pub returns-then-byte-eq-END : goal.returns-then-byte-eq-END
returns-then-byte-eq-END c =
    let z = count_stop c.args.code.now c.loop-byte.byte-index c.loop-byte.inside c.loop-byte-test.true c.if-byte-eq-END.true in
    omega arith

pub loop-byte-preserved : goal.loop-byte-preserved
loop-byte-preserved c =
    let code = c.args.code.now in
    let q = more-small (begins c.loop-byte.inside (get_or code c.loop-byte.byte-index 0)) in
    let m = count-more code c.loop-byte.byte-index c.loop-byte.inside c.loop-byte-test.true c.if-byte-eq-END.false in
    let e = c.begun-count.ensures in
    (omega arith, rw c.goes_inside-inside.ensures (omega arith))

pub returns : goal.returns
returns c =
    let z = count-end c.args.code.now c.loop-byte.byte-index c.loop-byte.inside c.loop-byte-test.false in
    omega arith
