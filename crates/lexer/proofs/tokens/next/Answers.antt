use Rattle.std.proofs.Common.{◌∙◌, sym, refl, ap, length, arith, eq-eqb, eqb-true}
use Rattle.lexer.specs.Class.{wordy}
use Rattle.lexer.proofs.RunLaws.{run_length}
use Rattle.lexer.proofs.NextLaws.{first-none, first-mark, first-other, first-word}
use Rattle.lexer.proofs.tokens.next.Goals as goal

pub returns-in_err-first : goal.returns-in_err-first
returns-in_err-first c = rw c.from_residual.ensures (first-none _ _ c.skip-t.ensures c.in_err-first.ensures.cases)

pub returns-then-class_of-eq5 : goal.returns-then-class_of-eq5
returns-then-class_of-eq5 c =
    first-mark _ _ c.skip-t.ensures _ _ c.in_ok-first.ensures.cases.0 (sym c.class_of.ensures ∙ c.if-class_of-eq5.true)

pub returns-then-is_empty : goal.returns-then-is_empty
returns-then-is_empty c =
    first-other _ _ c.skip-t.ensures _ _ c.in_ok-first.ensures.cases.0 (λ e. c.if-class_of-eq5.false (c.class_of.ensures ∙ e))
    (ap length (sym c.word-w.ensures) ∙ eqb-true _ 0 (sym c.is_empty.ensures ∙ c.if-is_empty.true))

pub slice_bounds-result-count : goal.slice_bounds-result-count
slice_bounds-result-count c =
    let h = run_length wordy c.skip-t.result.now in
    let e = ap length c.word-w.ensures in
    omega arith

pub slice_bounds-result-start : goal.slice_bounds-result-start
slice_bounds-result-start c =
    let h = run_length wordy c.skip-t.result.now in
    let e = ap length c.word-w.ensures in
    omega arith

pub returns : goal.returns
returns c =
    first-word _ _ c.skip-t.ensures _ c.in_ok-first.left c.in_ok-first.ensures.cases.0 _ _ _ (λ e. c.if-class_of-eq5.false (c.class_of.ensures ∙ e)) c.word-w.ensures (λ z. let k = c.is_empty.ensures ∙ eq-eqb _ 0 z in cc) c.word_kind.ensures refl
