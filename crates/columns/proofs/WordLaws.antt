-- Laws of names written as text.
-- Assumes nothing.
use Rattle.std.proofs.Common.{◌≡◌, ap, sym, ◌∙◌, List, [], ◌∷◌, ◌++◌, append_assoc, append-nil, map, ℕ, ◌+◌, ◌-◌, ◌*◌, ◌<◌, ◌≤◌, zero-le, add-one, arith, length, take, get_or, length-append, take-suc}
use Rattle.std.specs.Int.{w64, to_be_bytes}
use Rattle.common.specs.All.{All}
use Rattle.common.proofs.AllLaws.{all_of, all_mapped}
use Rattle.lexer.specs.Run.{run}
use Rattle.lexer.proofs.RunLaws.{run_take}
use Rattle.names.specs.Name.{column_at}
use Rattle.names.specs.Unpacked.{not_space, columns_of, unpacked}
use Rattle.names.proofs.ColumnLaws.{column_byte}
use Rattle.names.proofs.UnpackedLaws.{unpacked-length}
use Rattle.columns.specs.Texts.{spaced, before}
use Rattle.columns.specs.Writing.{Writes}
use Rattle.columns.proofs.WriteLaws.{writes_none, writes_then, writes_same}

-- the bytes of a number, the highest first, are the columns of the name
name_bytes : (n : ℕ) → to_be_bytes w64 n ≡ columns_of n
unfolding column_at
name_bytes n =
    ap (λ (b : ℕ). column_at n 0 ∷ column_at n 1 ∷ column_at n 2 ∷ column_at n 3 ∷ column_at n 4 ∷ column_at n 5 ∷ column_at n 6 ∷ b ∷ []) (column_byte n 7)

-- the bytes before the first space are the name
pub name-run : (n k : ℕ) → k ≡ length (run not_space (to_be_bytes w64 n)) → take k (to_be_bytes w64 n) ≡ unpacked n
unfolding unpacked
name-run n k e = ap (λ (m : ℕ). take m (to_be_bytes w64 n)) e ∙ run_take not_space (to_be_bytes w64 n) ∙ ap (run not_space) (name_bytes n)

before-append : (ns : List ℕ) (n : ℕ) → before (map unpacked (ns ++ (n ∷ []))) ≡ before (map unpacked ns) ++ (32 ∷ unpacked n)
unfolding before
before-append [] n = ap (λ (v : List ℕ). 32 ∷ v) (append-nil (unpacked n))
before-append (m ∷ ns) n =
    ap (λ (v : List ℕ). 32 ∷ v) (ap (λ (v : List ℕ). unpacked m ++ v) (before-append ns n) ∙ sym (append_assoc (unpacked m) (before (map unpacked ns)) (32 ∷ unpacked n)))

-- one name more, with its space before it
pub writes_more : {at p q r : ℕ} {a b c d : List ℕ} (ns : List ℕ) (i : ℕ) → i < length ns
    → Writes at (before (map unpacked (take i ns))) a b p → Writes p (32 ∷ []) b c q → Writes q (unpacked (get_or ns i 0)) c d r
    → Writes at (before (map unpacked (take (i + 1) ns))) a d r
writes_more ns i h f g k =
    let t : take (i + 1) ns ≡ take i ns ++ (get_or ns i 0 ∷ []) = rw add-one (take-suc ns i 0 h) in
    writes_same (sym (ap (λ (l : List ℕ). before (map unpacked l)) t ∙ before-append (take i ns) (get_or ns i 0))) (writes_then f (writes_then g k))

-- "with one space between": the first name, and the others with a space before each
spaced-before : (n : ℕ) (ns : List ℕ) → spaced (map unpacked (n ∷ ns)) ≡ unpacked n ++ before (map unpacked ns)
unfolding spaced before
spaced-before n [] = sym (append-nil (unpacked n))
spaced-before n (m ∷ ns) = ap (λ (v : List ℕ). unpacked n ++ (32 ∷ v)) (spaced-before m ns)

pub writes_spaced : {at p q : ℕ} {a b c : List ℕ} (n : ℕ) (ns : List ℕ)
    → Writes at (unpacked n) a b p → Writes p (before (map unpacked ns)) b c q → Writes at (spaced (map unpacked (n ∷ ns))) a c q
writes_spaced n ns f g = writes_same (sym (spaced-before n ns)) (writes_then f g)

pub spaced-none : (ns : List ℕ) (at : ℕ) (lent : List ℕ) → length ns ≡ 0 → Writes at (spaced (map unpacked ns)) lent lent at
unfolding spaced
spaced-none [] at lent h = writes_none at lent
spaced-none (n ∷ ns) at lent h = absurd (omega arith)

-- words of at most 8 bytes
abbrev pub Short : List (List ℕ) → Type 0
Short ws = All (λ w. length w ≤ 8) ws

pub short-unpacked : (ns : List ℕ) → Short (map unpacked ns)
short-unpacked ns = all_mapped unpacked (λ w. length w ≤ 8) ns (all_of (λ n. length (unpacked n) ≤ 8) unpacked-length ns)

-- words of at most 8 bytes, with a space between
pub spaced-length : (ws : List (List ℕ)) → Short ws → length (spaced ws) ≤ 9 * length ws - 1
unfolding spaced
spaced-length [] h = zero-le
spaced-length (w ∷ []) h = h.0
spaced-length (w ∷ v ∷ ws) h = omega (arith, length-append w (32 ∷ spaced (v ∷ ws)), spaced-length (v ∷ ws) h.1, h.0)
