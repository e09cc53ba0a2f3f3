-- `read` meets its contract: the names read so far and what is left make the whole; what is left falls.
-- Assumes nothing.
use Rattle.std.proofs.Common.{refl, ◌≡◌, rules}
use Rattle.lexer.specs.declared.words.WordKind.TheVariants as kinds
use Rattle.code.proofs.FrontLaws.{first-begins}
use Rattle.code.proofs.EventLaws.{going_start, going_more, going_end, going_mark, going_word, going_full}
use Rattle.code.proofs.events.read.Goals as goal

pub loop-lexeme-init : goal.loop-lexeme-init
loop-lexeme-init c = going_start _ _ _ refl

pub returns-in_default-lexeme : goal.returns-in_default-lexeme
returns-in_default-lexeme c =
    going_mark _ _ _ _ _ _ c.loop-lexeme.invariant _ _ (first-begins (rw c.in-Some.is at c.next.ensures)) c.in_default-lexeme.not-Word

pub returns-then-ne : goal.returns-then-ne
returns-then-ne c =
    going_word _ _ _ _ _ _ c.loop-lexeme.invariant _ c.in-Word.word c.in-Some.after (first-begins (rw (c.in-Some.is, c.in-Word.is) at c.next.ensures)) (search rules)

pub returns-then-len-ge-EVENT_SIZE : goal.returns-then-len-ge-EVENT_SIZE
returns-then-len-ge-EVENT_SIZE c =
    let name : c.in-Word.kind ≡ kinds.Name = search rules in
    going_full _ _ _ _ _ _ c.loop-lexeme.invariant c.in-Word.word c.in-Some.after (first-begins (rw (c.in-Some.is, c.in-Word.is, name) at c.next.ensures)) c.if-len-ge-EVENT_SIZE.true

pub loop-lexeme-smaller : goal.loop-lexeme-smaller
loop-lexeme-smaller c = (first-begins (rw (c.in-Some.is, c.in-Word.is) at c.next.ensures)).0

pub loop-lexeme-preserved : goal.loop-lexeme-preserved
loop-lexeme-preserved c =
    let name : c.in-Word.kind ≡ kinds.Name = search rules in
    going_more _ _ _ _ _ _ c.loop-lexeme.invariant c.in-Word.word c.in-Some.after _ _ (first-begins (rw (c.in-Some.is, c.in-Word.is, name) at c.next.ensures)) c.id_of-id.ensures c.if-len-ge-EVENT_SIZE.false refl

pub returns : goal.returns
returns c = going_end _ _ _ _ _ _ c.loop-lexeme.invariant (first-begins (rw c.in_default.is at c.next.ensures))
