use Rattle.std.proofs.Common.{◌≡◌, length, take, refl, rules, arith, of_calls}
use Rattle.input.proofs.RecordLaws.{whole_more}
use Rattle.input.proofs.records.each_record.Goals as goal

pub loop-count-preserved : goal.loop-count-preserved
loop-count-preserved g c =
    let room : length c.next.new.bytes ≡ 128 = search rules in
    let long : length (take c.in_ok-len.len c.next.new.bytes) ≡ 128 = omega (arith, c.in_ok-len.ensures.count) in
    record {
      callable = search (of_calls) parts 8;
      so_far = whole_more g.F.FnMut _ _ _ _ _ _ _ _ c.loop-count.invariant.so_far c.in_ok-len.ensures.bytes long (record { shown = _; shows = refl; called = rw c.if-not-written.false at c.answer-written.ensures });
    }
