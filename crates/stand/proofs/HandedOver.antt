-- Every list of operations can be handed over: there are kinds, sizes and buffers that hold just these operations.
-- Assumes nothing.
use Rattle.std.proofs.Common.{◌≡◌, refl, sym, ap, ap₂, ◌∙◌, true, List, [], ◌∷◌, ◌++◌, map, ℕ, suc, ◌+◌, length, drop, length-append}
use Rattle.std.proofs.Math.Seq.{take-append_seam, drop-append_seam}
use Rattle.book.specs.Operations.{Operation, call, batch, keep, restore}
use Rattle.stand.specs.Calls.{total}
use Rattle.stand.specs.Kinds.{batch_kind, keep_kind, restore_kind, operation_of, operations_of, all_known, OperationsFit}

-- the kind of an operation, its records and its reply buffer
abbrev kind_in : Operation → ℕ
kind_in (call c) = 0
kind_in (batch s b) = batch_kind
kind_in (keep b) = keep_kind
kind_in (restore s) = restore_kind

abbrev records_in : Operation → List ℕ
records_in (call c) = c.bytes
records_in (batch s b) = s
records_in (keep b) = []
records_in (restore s) = s

abbrev buffer_in : Operation → List ℕ
buffer_in (call c) = c.buffer
buffer_in (batch s b) = b
buffer_in (keep b) = b
buffer_in (restore s) = []

-- the operations' parts, one after the other
abbrev together : (Operation → List ℕ) → List Operation → List ℕ
together part [] = []
together part (o ∷ os) = part o ++ together part os

-- their sizes
abbrev sizes_of : (Operation → List ℕ) → List Operation → List ℕ
sizes_of part os = map (λ o. length (part o)) os

-- buffers that hold the operations os, and nothing else
pub record HandedOver (os : List Operation) : Type 0 where
  pub kinds : List ℕ
  pub records : List ℕ
  pub lengths : List ℕ
  pub sizes : List ℕ
  pub replies : List ℕ
  pub numbers : List ℕ
  pub counts : List ℕ
  pub operations : operations_of kinds lengths sizes records replies ≡ os
  pub fit : OperationsFit kinds records lengths sizes replies numbers counts

one_back : (o : Operation) → operation_of (kind_in o) (records_in o) (buffer_in o) ≡ o
one_back (call c) = refl
one_back (batch s b) = refl
one_back (keep b) = refl
one_back (restore s) = refl

all_back : (os : List Operation) → operations_of (map kind_in os) (sizes_of records_in os) (sizes_of buffer_in os) (together records_in os) (together buffer_in os) ≡ os
all_back [] = refl
all_back (o ∷ os) =
    let ks = map kind_in os in
    let ns = sizes_of records_in os in
    let ws = sizes_of buffer_in os in
    let s = together records_in os in
    let b = together buffer_in os in
    ap₂ (λ (x y : List ℕ). operation_of (kind_in o) x y ∷ operations_of ks ns ws (drop (length (records_in o)) (records_in o ++ s)) (drop (length (buffer_in o)) (buffer_in o ++ b)))
    (take-append_seam (records_in o) s) (take-append_seam (buffer_in o) b)
    ∙ ap₂ (λ (x y : List ℕ). operation_of (kind_in o) (records_in o) (buffer_in o) ∷ operations_of ks ns ws x y) (drop-append_seam (records_in o) s) (drop-append_seam (buffer_in o) b)
    ∙ ap₂ (λ (p : Operation) (l : List Operation). p ∷ l) (one_back o) (all_back os)

kinds-known : (os : List Operation) → all_known (map kind_in os) ≡ true
unfolding all_known
kinds-known [] = refl
kinds-known (call c ∷ os) = kinds-known os
kinds-known (batch s b ∷ os) = kinds-known os
kinds-known (keep b ∷ os) = kinds-known os
kinds-known (restore s ∷ os) = kinds-known os

total_together : (part : Operation → List ℕ) (os : List Operation) → total (sizes_of part os) ≡ length (together part os)
total_together part [] = refl
total_together part (o ∷ os) = ap (λ (n : ℕ). length (part o) + n) (total_together part os) ∙ sym (length-append (part o) (together part os))

as_many : (f g : Operation → ℕ) (os : List Operation) → length (map f os) ≡ length (map g os)
as_many f g [] = refl
as_many f g (o ∷ os) = ap suc (as_many f g os)

pub handed_over : (os : List Operation) → HandedOver os
handed_over os = record {
  kinds = map kind_in os;
  records = together records_in os;
  lengths = sizes_of records_in os;
  sizes = sizes_of buffer_in os;
  replies = together buffer_in os;
  numbers = map kind_in os;
  counts = map kind_in os;
  operations = all_back os;
  fit = record {
    known = kinds-known os;
    kinds = as_many kind_in (λ o. length (records_in o)) os;
    counts = as_many kind_in (λ o. length (records_in o)) os;
    sizes = record {
      records = total_together records_in os;
      replies = total_together buffer_in os;
      sizes = as_many (λ o. length (records_in o)) (λ o. length (buffer_in o)) os;
      numbers = as_many (λ o. length (records_in o)) kind_in os;
    };
  };
}
