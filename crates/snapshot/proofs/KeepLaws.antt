-- Laws of keeping: how long an image is, and what a buffer that is long enough or too short comes to.
-- Assumes nothing.
use Rattle.std.proofs.Common.{◌≡◌, refl, sym, ap, ap₂, ◌∙◌, List, ◌++◌, ℕ, zero, suc, ◌+◌, ◌-◌, ◌*◌, ◌/◌, ◌<◌, ◌≤◌, arith, min, length, drop, length-append, take_all, le-leb}
use Rattle.std.proofs.lemmas.Bool.{lt-leb}
use Rattle.columns.specs.Writing.{fitting, laid, Writes}
use Rattle.columns.proofs.WriteLaws.{writes_same}
use Rattle.follow.specs.declared.state.State.{State}
use Rattle.follow.proofs.CappedLaws.{capped-min}
use Rattle.render.proofs.ReadBack.{record_length}
use Rattle.book.specs.Images.{mark_record}
use Rattle.book.specs.Operations.{kept, keep_fits, kept_in}
use Rattle.snapshot.specs.Written.{first_of, role_at, rule_at, marks_at, image_from, roles_after_top, rules_in, state_image, Keeps}

-- so many records of 128 bytes
first-length : (f : ℕ → List ℕ) → ((i : ℕ) → length (f i) ≡ 128) → (n : ℕ) → length (first_of f n) ≡ n * 128
first-length f h zero = refl
first-length f h (suc n) = length-append (first_of f n) (f n) ∙ (let a = first-length f h n in let b = h n in omega arith)

marks-length : (ns ps : List ℕ) (i : ℕ) → length (marks_at ns ps i) ≡ 128
unfolding mark_record
marks-length ns ps i = record_length _ _

-- "records of 128 bytes again": one for each role after top, and two for each rule
pub image_length : (ns ps : List ℕ) (r : ℕ) (rns rows ms : List ℕ) (n : ℕ) → length (image_from ns ps r rns rows ms n) ≡ (r + n + n) * 128
unfolding image_from
image_length ns ps r rns rows ms n =
    let roles = first_of (role_at ns ps) r in
    let rules = first_of (rule_at ns rns rows) n in
    let marks = first_of (marks_at rns ms) n in
    let a = first-length (role_at ns ps) (λ i. record_length _ _) r in
    let b = first-length (rule_at ns rns rows) (λ i. record_length _ _) n in
    let c = first-length (marks_at rns ms) (marks-length rns ms) n in
    length-append roles (rules ++ marks) ∙ ap (λ (k : ℕ). length roles + k) (length-append rules marks) ∙ omega (arith, a, b, c)

-- the counts that are read of a state: so many roles after top, and so many rules
module _ (f : State) (lent : List ℕ) (r n : ℕ) (roles : r ≡ min f.sheet.role_count 64 - 1) (rules : n ≡ min f.sheet.rule_count 32) where
  roles-are : r ≡ roles_after_top f
  roles-are = roles ∙ ap (λ (k : ℕ). k - 1) (capped-min f.sheet.role_count 64)

  rules-are : n ≡ rules_in f
  rules-are = rules ∙ capped-min f.sheet.rule_count 32

  long : length (state_image f) ≡ (r + n + n) * 128
  long =
      image_length f.sheet.names f.sheet.parents (roles_after_top f) f.sheet.rule_names f.sheet.rows f.positions (rules_in f)
      ∙ sym (ap₂ (λ (x y : ℕ). (x + y + y) * 128) roles-are rules-are)

  -- "13, a lent buffer too short to keep into, .. untouched, 0 records handed back"
  pub kept_short : length lent < (r + n + n) * 128 → Keeps f lent lent (record { number = 13; count = 0; monitor = f })
  unfolding kept_in keep_fits
  kept_short h =
      let e = long in
      record { monitor = refl; result = rw (lt-leb (length (state_image f)) (length lent) (omega arith)) refl }

  -- "Keeping hands back how many records it wrote, and the rest of the lent buffer is unchanged."
  pub kept_whole : {left : List ℕ} {p : ℕ} → (r + n + n) * 128 ≤ length lent
      → Writes 0 (image_from f.sheet.names f.sheet.parents r f.sheet.rule_names f.sheet.rows f.positions n) lent left p
      → Keeps f lent left (record { number = 0; count = r + n + n; monitor = f })
  unfolding kept_in keep_fits laid
  kept_whole {left} {p} h written =
      let image = state_image f in
      let e = long in
      let d : length image / 128 ≡ r + n + n = omega arith in
      let i : fitting 0 image lent ≡ image = take_all (length lent - 0) image (omega arith) in
      let z : 0 + length image ≡ length image = omega arith in
      let w : Writes 0 image lent left p =
      writes_same (ap₂ (λ (x y : ℕ). image_from f.sheet.names f.sheet.parents x f.sheet.rule_names f.sheet.rows f.positions y) roles-are rules-are) written in
      let b : left ≡ image ++ drop (length image) lent = w.bytes ∙ rw (i, z) refl in
      record { monitor = refl; result = rw (le-leb (length image) (length lent) (omega arith), d) (ap (kept 0 (r + n + n)) b) }
