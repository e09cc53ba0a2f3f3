-- `reply` meets its contract.
-- Assumes nothing.
use Rattle.std.proofs.Common.{ℕ, map, length, ap, ◌∙◌, arith, eq-eqb}
use Rattle.names.specs.Unpacked.{unpacked}
use Rattle.reply.specs.Reply.{spaced, reply_bytes}
use Rattle.reply.proofs.WholeLaws.{reply-written}
use Rattle.reply.proofs.replies.reply.Goals as goal

pub returns : goal.returns
returns c =
    let e = eq-eqb (length c.args.out.now) 50 (omega arith) in
    let name = unpacked c.args.name in
    let text = spaced (map unpacked c.args.roles.now) in
    let w = reply-written c.letter.result c.args.number name text (omega arith) c.front-text.ensures c.words-end.ensures c.blank.ensures c.put.ensures in
    record {
      told = simp e;
      buffer = simp e (w ∙ ap (λ (x : ℕ). reply_bytes x c.args.number name text) c.letter.ensures);
    }
