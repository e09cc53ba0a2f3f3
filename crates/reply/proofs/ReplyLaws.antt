-- Laws of the 50 bytes for those who read them: how many there are, and what stands in each column.
-- Assumes nothing.
use Rattle.std.proofs.Common.{◌≡◌, refl, ap, sym, ◌∙◌, Bool, true, false, List, [], ◌∷◌, ◌++◌, map, ℕ, zero, suc, ◌+◌, ◌-◌, ◌*◌, ◌/◌, ◌%◌, ◌<◌, ◌≤◌, arith, ltb, length, get_or, length-append, get_or-append-add, ext_get_or, ltb-true, ltb-false}
use Rattle.std.proofs.lemmas.List.{length-map, get_or-replicate, get_or_at}
use Rattle.std.proofs.Math.ListN.{get_or-append}
use Rattle.names.specs.Unpacked.{unpacked}
use Rattle.reply.specs.Reply.{padded, spaced, reply_bytes}
use Rattle.reply.specs.Columns.{Columns}
use Rattle.columns.specs.Texts.{spaces}
use Rattle.columns.proofs.PaddedLaws.{padded_nil, padded_cons, padded-length, padded-short}
use Rattle.columns.proofs.WordLaws.{short-unpacked, spaced-length}

-- column i of a padded word
pub padded_at : (k : ℕ) (w : List ℕ) (i : ℕ) → i < k → get_or (padded k w) i 0 ≡ get_or w i 32
padded_at zero w i h = absurd (omega arith)
padded_at (suc k) [] i h = ap (λ (v : List ℕ). get_or v i 0) (padded_nil (suc k)) ∙ get_or-replicate (suc k) i 32 0 h
padded_at (suc k) (b ∷ w) zero h = ap (λ (v : List ℕ). get_or v 0 0) (padded_cons k b w)
padded_at (suc k) (b ∷ w) (suc i) h = ap (λ (v : List ℕ). get_or v (suc i) 0) (padded_cons k b w) ∙ padded_at k w i (omega arith)

-- an element after the first part of a list
after : (f v : List ℕ) (j i : ℕ) → j ≡ length f + i → get_or (f ++ v) j 0 ≡ get_or v i 0
after f v j i e = ap (λ (k : ℕ). get_or (f ++ v) k 0) e ∙ get_or-append-add f v i 0

-- the columns leave no byte free
columns_same : (a n : ℕ) (w x r s : List ℕ) → Columns a n w x r → Columns a n w x s → r ≡ s
columns_same a n w x r s c d = ext_get_or 0 r s (c.size ∙ sym d.size) (λ i h. at i (omega (arith, c.size)))
  where
    part : (i : ℕ) → i < 36 → (q : Bool) → ltb i 35 ≡ q → (j : ℕ) → j ≡ 14 + i → get_or r j 0 ≡ get_or s j 0
    part i h true e j p = ap (λ (k : ℕ). get_or r k 0) p ∙ c.texted i (ltb-true i 35 e) ∙ sym (ap (λ (k : ℕ). get_or s k 0) p ∙ d.texted i (ltb-true i 35 e))
    part i h false e j p =
        let q : j ≡ 49 = omega (arith, ltb-false i 35 e) in
        ap (λ (k : ℕ). get_or r k 0) q ∙ c.newline ∙ sym (ap (λ (k : ℕ). get_or s k 0) q ∙ d.newline)

    late : (i : ℕ) → i < 45 → (q : Bool) → ltb i 8 ≡ q → (u : Bool) → ltb 8 i ≡ u → (j : ℕ) → j ≡ 5 + i → get_or r j 0 ≡ get_or s j 0
    late i h true e u f j p = ap (λ (k : ℕ). get_or r k 0) p ∙ c.named i (ltb-true i 8 e) ∙ sym (ap (λ (k : ℕ). get_or s k 0) p ∙ d.named i (ltb-true i 8 e))
    late i h false e true f j p = part (i - 9) (omega arith) (ltb (i - 9) 35) refl j (omega (arith, ltb-true 8 i f))
    late i h false e false f j p =
        let q : j ≡ 13 = omega (arith, ltb-false i 8 e, ltb-false 8 i f) in
        ap (λ (k : ℕ). get_or r k 0) q ∙ c.space3 ∙ sym (ap (λ (k : ℕ). get_or s k 0) q ∙ d.space3)

    at : (i : ℕ) → i < 50 → get_or r i 0 ≡ get_or s i 0
    at zero h = c.first ∙ sym d.first
    at (suc zero) h = c.space ∙ sym d.space
    at (suc (suc zero)) h = c.tens ∙ sym d.tens
    at (suc (suc (suc zero))) h = c.units ∙ sym d.units
    at (suc (suc (suc (suc zero)))) h = c.space2 ∙ sym d.space2
    at (suc (suc (suc (suc (suc i))))) h = late i (omega arith) (ltb i 8) refl (ltb 8 i) refl (suc (suc (suc (suc (suc i))))) (omega arith)

module _ (a n : ℕ) (w x : List ℕ) where
  -- a reply has 50 bytes, whatever the name and the text are
  pub reply-length : length (reply_bytes a n w x) ≡ 50
  unfolding reply_bytes
  reply-length =
      omega (arith, length-append (padded 8 w) (32 ∷ (padded 35 x ++ (10 ∷ []))), padded-length 8 w, length-append (padded 35 x) (10 ∷ []), padded-length 35 x)

  -- columns 0 to 4, and what stands after them
  abbrev front : List ℕ
  front = a ∷ 32 ∷ (n / 10 + 48) ∷ (n % 10 + 48) ∷ 32 ∷ []

  abbrev text : List ℕ
  text = padded 35 x ++ (10 ∷ [])

  -- each column is as document 01 says
  pub reply_columns : Columns a n w x (reply_bytes a n w x)
  unfolding reply_bytes
  reply_columns = record {
    size = reply-length;
    first = refl;
    tens = refl;
    units = refl;
    named = λ i h. after front (padded 8 w ++ (32 ∷ text)) (5 + i) i (omega arith) ∙ get_or-append (padded 8 w) (32 ∷ text) 0 i (omega (arith, padded-length 8 w)) ∙ padded_at 8 w i h;
    texted = λ i h. behind (14 + i) i (omega arith) ∙ get_or-append (padded 35 x) (10 ∷ []) 0 i (omega (arith, padded-length 35 x)) ∙ padded_at 35 x i h;
    space = refl;
    space2 = refl;
    space3 = get_or_at (padded 8 w) 32 text 0 8 (padded-length 8 w);
    newline = behind 49 35 (omega arith) ∙ get_or_at (padded 35 x) 10 [] 0 35 (padded-length 35 x);
  }
    where
      behind : (j i : ℕ) → j ≡ 14 + i → get_or (front ++ (padded 8 w ++ (32 ∷ text))) j 0 ≡ get_or text i 0
      behind j i e = after front (padded 8 w ++ (32 ∷ text)) j (9 + i) (omega arith) ∙ after (padded 8 w) (32 ∷ text) (9 + i) (suc i) (omega (arith, padded-length 8 w))

  -- no other bytes have these columns
  pub columns_reply : (r : List ℕ) → Columns a n w x r → r ≡ reply_bytes a n w x
  columns_reply r c = columns_same a n w x r (reply_bytes a n w x) c reply_columns

  -- a name of at most 8 bytes and a text of at most 35 stand there whole
  pub reply-whole : length w ≤ 8 → length x ≤ 35 → reply_bytes a n w x ≡ front ++ ((w ++ spaces (8 - length w)) ++ (32 ∷ ((x ++ spaces (35 - length x)) ++ (10 ∷ []))))
  unfolding reply_bytes
  reply-whole h k = rw (padded-short 8 w h, padded-short 35 x k) refl

-- "two digits": the number is read back from columns 2 and 3
pub reply-digits : (n : ℕ) → n < 100 → (n / 10 + 48 ≤ 57) × (n % 10 + 48 ≤ 57) × ((n / 10 + 48 - 48) * 10 + (n % 10 + 48 - 48) ≡ n)
reply-digits n h = (omega arith, omega arith, omega arith)

-- at most four role names stand there whole
pub roles_room : (ns : List ℕ) → length ns ≤ 4 → length (spaced (map unpacked ns)) ≤ 35
roles_room ns h = omega (arith, spaced-length (map unpacked ns) (short-unpacked ns), length-map ns unpacked)
