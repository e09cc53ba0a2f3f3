-- The four ways that a round can go; and that the image kept always has room, so that keeping is never refused in one.
-- Assumes nothing.
use Rattle.std.proofs.Common.{◌≡◌, refl, ap, ◌∙◌, true, false, List, ◌++◌, map, ℕ, ◌*◌, ◌/◌, ◌≤◌, arith, eqb, length, drop, length-append, length-drop, take_at, eqb-true, eq-eqb, leb-true, le-leb}
use Rattle.std.proofs.Math.Option.{none, some}
use Rattle.std.proofs.lemmas.List.{length-map}
use Rattle.common.proofs.Bools.{and_left, and_right, and_both}
use Rattle.common.specs.Limits.{record_size}
use Rattle.book.specs.MachineSteps.{PositionMachine}
use Rattle.book.specs.Batches.{batch_fits}
use Rattle.book.specs.Images.{in_order, role_record, rule_record, marks_record, image_records, image_of}
use Rattle.book.specs.Restoring.{restored}
use Rattle.book.specs.Operations.{kept, keep_fits, kept_in}
use Rattle.book.specs.Rounds.{room_records, HostImage, LentBatch, used_records, room_fits, rewritten, round_refused, round_taken, round_step}
use Rattle.book.specs.RoundRows.{Room}
use Rattle.book.proofs.ImageLists.{order_length}
use Rattle.book.proofs.Lasting.{Lasting}
use Rattle.book.proofs.Restored.{image_length, image_restored}

-- ROOM

-- the test is the two sentences
pub room_told : (h : HostImage) → room_fits (length h.buffer) h.used ≡ true → Room h
unfolding room_fits
room_told h e =
    record {
      size = eqb-true (length h.buffer) (room_records * record_size) (and_left (eqb (length h.buffer) (room_records * record_size)) _ e);
      within = leb-true h.used room_records (and_right (eqb (length h.buffer) (room_records * record_size)) _ e);
    }

pub room_fits_lem : (h : HostImage) → Room h → room_fits (length h.buffer) h.used ≡ true
unfolding room_fits
room_fits_lem h r = and_both (eq-eqb (length h.buffer) (room_records * record_size) r.size) (le-leb h.used room_records r.within)

-- THE FOUR WAYS

module _ (h : HostImage) (t : LentBatch) where
  -- the image buffer or the used number does not fit
  pub by_room : room_fits (length h.buffer) h.used ≡ false → round_step h t ≡ round_refused 13 h t
  unfolding round_step
  by_room e = rw e refl

  module _ (fits : room_fits (length h.buffer) h.used ≡ true) where
    -- the image is not accepted
    pub by_image : restored (used_records h) ≡ none → round_step h t ≡ round_refused 12 h t
    unfolding round_step
    by_image e = rw (fits, e) refl

    -- it says a machine, and the buffers are those of no batch
    pub by_batch : (m : PositionMachine) → restored (used_records h) ≡ some m → batch_fits t.records t.replies ≡ false → round_step h t ≡ round_refused 11 h t
    unfolding round_step
    by_batch m e k = rw (fits, e, k) refl

    -- or they are
    pub by_taking : (m : PositionMachine) → restored (used_records h) ≡ some m → batch_fits t.records t.replies ≡ true → round_step h t ≡ round_taken m h t
    unfolding round_step
    by_taking m e k = rw (fits, e, k) refl

-- AN IMAGE HAS ROOM

-- 63 roles after top, 32 rules and a record of marks for each
pub image_few : (m : PositionMachine) → Lasting m → length (image_records m) ≤ room_records
image_few m s =
    let a : List (List ℕ) = map role_record (drop 1 (in_order m.roles)) in
    let b : List (List ℕ) = map rule_record (in_order m.rules) in
    let c : List (List ℕ) = map marks_record (in_order m.rules) in
    let p = length-append a (b ++ c) in
    let q = length-append b c in
    let k = length-map (drop 1 (in_order m.roles)) role_record in
    let l = length-drop 1 (in_order m.roles) in
    let n = order_length m.roles in
    let o = length-map (in_order m.rules) rule_record in
    let x = length-map (in_order m.rules) marks_record in
    let y = order_length m.rules in
    let u = s.few-roles in
    let v = s.few-rules in
    omega arith

-- so keeping into the image buffer of a host is never refused
pub image_fits : (m : PositionMachine) → Lasting m → length (image_of m) ≤ room_records * record_size
image_fits m s = let n = image_length m in let k = image_few m s in omega arith

-- WHAT IS KEPT

-- an image with room is written
pub kept_with_room : (image lent : List ℕ) → length image ≤ length lent → kept_in image lent ≡ kept 0 (length image / record_size) (image ++ drop (length image) lent)
unfolding kept_in keep_fits
kept_with_room image lent h = rw (le-leb (length image) (length lent) h) refl

module _ (h : HostImage) (m : PositionMachine) (s : Lasting m) (r : Room h) where
  -- the buffer is as long as before, and the used number within it
  pub rewritten_room : Room (rewritten h m)
  rewritten_room =
      let n = image_length m in
      let k = image_few m s in
      let z = r.size in
      let a = length-append (image_of m) (drop (length (image_of m)) h.buffer) in
      let d = length-drop (length (image_of m)) h.buffer in
      record { size = omega arith; within = omega arith }

  -- the used records are the machine's image
  pub rewritten_image : used_records (rewritten h m) ≡ image_of m
  rewritten_image =
      let n = image_length m in
      let q : length (image_of m) ≡ length (image_of m) / record_size * record_size = omega arith in
      take_at (image_of m) (drop (length (image_of m)) h.buffer) (length (image_of m) / record_size * record_size) q

  -- and say it
  pub rewritten-says : restored (used_records (rewritten h m)) ≡ some m
  rewritten-says = ap restored rewritten_image ∙ image_restored m s
