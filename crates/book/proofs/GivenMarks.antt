-- Marks that an image gave, followed: the walk's sets are C-12's, the numbers are the walk's sets, and they decide the match as the book does.
-- Assumes nothing.
use Rattle.std.proofs.Common.{◌≡◌, refl, sym, ap, ◌∙◌, subst, true, false, ◌↔◌, List, [], ◌∷◌, ℕ, ◌≤◌, arith}
use Rattle.std.proofs.Math.Path.{fun_ext}
use Rattle.std.proofs.Math.Logic.Iff
use Rattle.common.specs.Limits.{max_patterns}
use Rattle.common.proofs.Bools.{same_test}
use Rattle.lexer.specs.Words.{same}
use Rattle.grammar.specs.AsRead.{Past}
use Rattle.grammar.specs.Size.{size_past}
use Rattle.patterns.specs.Meets.{order_of, meets}
use Rattle.positions.specs.Positions.{Positions, Matched}
use Rattle.positions.specs.Numbers.{size}
use Rattle.common.specs.Sets.{has_at, shares}
use Rattle.positions.specs.Walk.{step, steps, matches_now}
use Rattle.positions.proofs.Following.{step_iff, matches_now_iff}
use Rattle.positions.proofs.SummaryLaws.{step_same, match_same}
use Rattle.positions.proofs.Right.{right-matches, number-matches}
use Rattle.follow.specs.Rules.{ends_in}
use Rattle.follow.specs.Meaning.{past_meaning}
use Rattle.follow.proofs.SizeLaws.{size_meaning}
use Rattle.intake.specs.Machine.{step_number, number_after}
use Rattle.intake.proofs.Numbers.{number-right, number_decides}
use Rattle.book.specs.Names.{Event, Roles}
use Rattle.book.specs.Book.{Origin, declared, given, matched_since}
use Rattle.book.specs.MachineSteps.{first_number}
use Rattle.book.specs.Marks.{Followed, followed_none, followed_more, MarksOf, MatchesBy}

-- IN C-12'S WORDS

-- the walk's sets over a list of events are C-12's
steps_followed : (rs : Roles) (p : Past) (m : Positions) (l : List Event) → Followed rs p m l (steps (meets (order_of same rs)) (past_meaning p) m l)
steps_followed rs p m [] = followed_none
steps_followed rs p m (e ∷ l) = followed_more (λ k. step_iff (past_meaning p) m (meets (order_of same rs) e) k) (steps_followed rs p (step (past_meaning p) m (meets (order_of same rs) e)) l)

-- and C-12's words leave no other
followed_same : (rs : Roles) (p : Past) (m : Positions) (l : List Event) (n : Positions) → Followed rs p m l n → (k : ℕ) → n k ≡ steps (meets (order_of same rs)) (past_meaning p) m l k
followed_same rs p m l n followed_none k = refl
followed_same rs p m l n (followed_more {m' = m'} {e = e} {l = l'} f h) k =
    let q : m' ≡ step (past_meaning p) m (meets (order_of same rs) e) = fun_ext (λ j. same_test _ _ (Iff.trans (f j) (Iff.symm (step_iff (past_meaning p) m (meets (order_of same rs) e) j)))) in
    followed_same rs p m' l' n h k ∙ ap (λ (x : Positions). steps (meets (order_of same rs)) (past_meaning p) x l' k) q

-- "the past matches when some set mark may end such a list", the marks being those given, followed over the events since
pub matched_by_marks : (rs : Roles) (p : Past) (m : ℕ) (l : List Event) → (matched_since rs p (given m) l ≡ true) ↔ ((n : Positions) × Followed rs p (has_at m) l n × Matched (past_meaning p) n)
matched_by_marks rs p m l = (λ e. (steps (meets (order_of same rs)) (past_meaning p) (has_at m) l, steps_followed rs p (has_at m) l, (matches_now_iff (past_meaning p) (steps (meets (order_of same rs)) (past_meaning p) (has_at m) l)).0 e), back)
  where
    back : (n : Positions) × Followed rs p (has_at m) l n × Matched (past_meaning p) n → matched_since rs p (given m) l ≡ true
    back (n, h, k) = (matches_now_iff (past_meaning p) (steps (meets (order_of same rs)) (past_meaning p) (has_at m) l)).1 (k.0, sym (followed_same rs p (has_at m) l n h k.0) ∙ k.1, k.2)

-- BY NUMBERS

module _ (rs : Roles) (p : Past) (small : size_past p ≤ max_patterns) where
  fits : size (past_meaning p) ≤ 63
  fits = let q = size_meaning p in omega arith

  -- the number after the events is the set after the events
  number-steps : (m : ℕ) (l : List Event) → has_at (number_after rs p m l) ≡ steps (meets (order_of same rs)) (past_meaning p) (has_at m) l
  unfolding step_number
  number-steps m [] = refl
  number-steps m (e ∷ l) =
      number-steps (step_number rs p m e) l
      ∙ ap (λ (x : Positions). steps (meets (order_of same rs)) (past_meaning p) x l) (fun_ext (λ k. step_same (past_meaning p) fits m (meets (order_of same rs) e) k))

  -- the positions are the marks, of a rule of either origin
  pub number-marks : (o : Origin) (l : List Event) → MarksOf rs p o l (number_after rs p (first_number o) l)
  number-marks declared l = number-right rs p small l
  number-marks (given m) l = subst (λ (n : Positions). Followed rs p (has_at m) l n) (sym (number-steps m l)) (steps_followed rs p (has_at m) l)

  -- and the past matches at them where the book says so
  pub number-matched : (o : Origin) (l : List Event) → shares (number_after rs p (first_number o) l) (ends_in p) ≡ matched_since rs p o l
  number-matched declared l = number_decides rs p small l
  number-matched (given m) l =
      match_same (past_meaning p) fits (number_after rs p m l) 0 (λ q. false) ∙ ap (λ (x : Positions). matches_now (past_meaning p) x) (number-steps m l)

-- whatever number has the marks, the past matches at it exactly as the book says
pub marks_match : (rs : Roles) (p : Past) → size (past_meaning p) ≤ 63 → (o : Origin) (l : List Event) (n : ℕ) → MarksOf rs p o l n → (shares n (ends_in p) ≡ true) ↔ MatchesBy rs p o l
marks_match rs p small declared l n h = right-matches (meets (order_of same rs)) (past_meaning p) small l n h 0 (λ q. false)
marks_match rs p small (given m) l n h = (λ e. (has_at n, h, (number-matches (past_meaning p) small n 0 (λ q. false)).0 e), back)
  where
    back : (k : Positions) × Followed rs p (has_at m) l k × Matched (past_meaning p) k → shares n (ends_in p) ≡ true
    back (k, f, j) =
        let e : (i : ℕ) → has_at n i ≡ k i = λ i. followed_same rs p (has_at m) l (has_at n) h i ∙ sym (followed_same rs p (has_at m) l k f i) in
        (number-matches (past_meaning p) small n 0 (λ q. false)).1 (j.0, e j.0 ∙ j.1, j.2)
