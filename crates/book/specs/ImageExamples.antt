-- Images as data, and sessions that keep and restore them: each operation with its result. `examples_right` of proofs/Examples.antt says that they come out so.
-- Assumes nothing.
use Rattle.std.specs.Prelude.{◌≡◌, List, [], ◌∷◌, ◌++◌, map, ℕ, length, replicate, take}
use Rattle.std.proofs.Math.Option.{Option, none, some}
use Prim.Native.String.{String}
use Rattle.grammar.specs.Text.{bytes_of}
use Rattle.frame.specs.Records.{record_of}
use Rattle.book.specs.MachineSteps.{PositionMachine, fresh_machine, machine_step}
use Rattle.book.specs.Session.{left}
use Rattle.book.specs.Images.{joined, image_of}
use Rattle.book.specs.Restoring.{restored}
use Rattle.book.specs.Operations.{keep, restore, kept, replaced}
use Rattle.book.specs.Examples.{Turn, turn, calls_of}
use Rattle.book.specs.BatchExamples.{Done, one, Results}

-- an image by the text of its records
abbrev pub image_text : List String → List ℕ
image_text ss = joined (map (λ (s : String). record_of (bytes_of s)) ss)

-- WHAT IS WRITTEN

-- "A session printed" up to its first act, with other spaces
abbrev pub begun : List Turn
begun =
    turn "Lrole lamp under top" 0 "D 00 lamp"
    ∷ turn "Lrole uv  under lamp" 0 "D 00 uv"
    ∷ turn "L role expose under top" 0 "D 00 expose"
    ∷ turn "Lrule a: any* <uv>; <expose>; hold" 0 "D 00 a"
    ∷ turn "Euv" 0 "C 00 -        uv"
    ∷ []

-- its lines as they are kept, and the marks m
abbrev pub begun_with : String → List String
begun_with m = "Lrole lamp under top" ∷ "Lrole uv under lamp" ∷ "Lrole expose under top" ∷ "Lrule a:any*<uv>;<expose>;hold" ∷ m ∷ []

-- any is pattern 1 and <uv> pattern 2: the act uv set marks 1 and 2
abbrev pub begun_image : List ℕ
begun_image = image_text (begun_with "Ma        0000000000000006")

-- the machine that the session leaves
abbrev pub begun_machine : PositionMachine
begun_machine = left machine_step fresh_machine (calls_of begun)

-- WHICH ARE ACCEPTED

-- images that are turned away by 12
abbrev pub turned_away : List (List ℕ)
turned_away =
    take 127 (image_text ("Lrole lamp under top" ∷ []))  -- "isn't whole records"
    ∷ image_text ("Lrole lamp under lamp" ∷ [])  -- "a line that a fresh monitor .. would refuse", by 6
    ∷ image_text ("Lrole lamp under top" ∷ "Lrole lamp under top" ∷ [])  -- by 5
    ∷ image_text ("Lrole lamp under top;" ∷ [])  -- by 4
    ∷ image_text ("Lrole top under top" ∷ [])  -- by 5: "without top"
    ∷ image_text ("Lrule a:any;any;hold" ∷ "Lrole uv under top" ∷ "Ma        00000001" ∷ [])  -- "in another order": a role line after a rule line
    ∷ image_text ("Lrule a:any;any;hold" ∷ "Ma        00000001" ∷ "Lrole uv under top" ∷ [])  -- a line after a record of marks
    ∷ image_text ("E" ∷ [])  -- "of another form": an act
    ∷ image_text ("Lrule a:any;any;hold" ∷ [])  -- "don't name each rule once": never
    ∷ image_text ("Lrule a:any;any;hold" ∷ "Ma        00000001" ∷ "Ma        00000001" ∷ [])  -- twice
    ∷ image_text ("Ma        00000001" ∷ [])  -- marks of no rule
    ∷ image_text ("Lrule a:any;any;hold" ∷ "Lrule b:any;any;hold" ∷ "Mb        00000001" ∷ "Ma        00000001" ∷ [])  -- not "in order"
    ∷ image_text ("Lrule a:any;any;hold" ∷ "Ma        00000004" ∷ [])  -- not "with marks its past has": mark 2, and it has one pattern
    ∷ image_text ("Lrule a:();any;hold" ∷ "Ma        00000002" ∷ [])  -- mark 1, and it has none
    ∷ image_text ("Lrule a:any;any;hold" ∷ "Ma        0000000000000004" ∷ [])  -- mark 2 again, in sixteen digits
    ∷ image_text ("Lrule a:any;any;hold" ∷ "Ma        0000000100000001" ∷ [])  -- mark 32
    ∷ image_text ("Lrule a:any any any any;any;hold" ∷ "Ma        0000000a" ∷ [])  -- not "capital hexadecimal digits"
    ∷ image_text ("Lrule a:any any any any;any;hold" ∷ "Ma        000000000000000a" ∷ [])
    ∷ image_text ("Lrule a:any;any;hold" ∷ "Ma        0000001" ∷ [])  -- not "sixteen" or "eight": seven
    ∷ image_text ("Lrule a:any;any;hold" ∷ "Ma        000000001" ∷ [])  -- nine
    ∷ image_text ("Lrule a:any;any;hold" ∷ "Ma        000000000000001" ∷ [])  -- fifteen
    ∷ image_text ("Lrule a:any;any;hold" ∷ "Ma        00000000000000001" ∷ [])  -- seventeen
    ∷ image_text ("Lrule a:any;any;hold" ∷ "Ma        00000001 1" ∷ [])  -- not "spaces" after them
    ∷ image_text ("Lrule a:any;any;hold" ∷ "Ma        0000000000000001 1" ∷ [])
    ∷ image_text ("Lrule a:any;any;hold" ∷ "M a       00000001" ∷ [])  -- not "the name in eight columns"
    ∷ image_text ("Lrule a:any;any;hold" ∷ "Na        00000001" ∷ [])  -- not "byte `M`"
    ∷ []

-- images that are accepted
abbrev pub accepted : List (List ℕ)
accepted =
    []  -- the image of a fresh monitor
    ∷ image_text ("L role  uv   under top" ∷ [])  -- "spaces within lines may differ"
    ∷ image_text ("Lrole uv under top" ∷ "L rule a :[ not<uv>or  any ]; any;hold" ∷ "Ma        00000001" ∷ [])
    ∷ image_text ("Lrule a:any any any any;any;hold" ∷ "Ma        0000000A" ∷ [])
    ∷ image_text ("Lrule a:();any;hold" ∷ "Ma        00000001" ∷ [])  -- no pattern: mark 0 alone
    ∷ image_text ("Lrule a:any;any;hold" ∷ "Ma        00000000" ∷ [])  -- no mark: the rule can no longer match
    ∷ image_text ("Lrule a:any;any;hold" ∷ "Ma        00000003" ∷ [])  -- marks that no list of acts leads to
    ∷ image_text ("Lrule a:any any any any;any;hold" ∷ "Ma        000000000000001F" ∷ [])  -- "sixteen digits"
    ∷ image_text ("Lrule a:any;any;hold" ∷ "Lrule b:any;any;hold" ∷ "Ma        0000000000000001" ∷ "Mb        00000001" ∷ [])  -- sixteen, and "any `M` record with eight"
    ∷ []

-- 12, or 0 where the image is accepted
abbrev pub accepts : List ℕ → ℕ
accepts s = numbered (restored s)
  where
    numbered : Option PositionMachine → ℕ
    numbered none = 12
    numbered (some t) = 0

-- SESSIONS

-- keeping in a buffer of two bytes more than the image: they stay
abbrev pub keep_done : List String → Done
keep_done ss = record { operation = keep (replicate (length (image_text ss)) 7 ++ (8 ∷ 9 ∷ [])); result = kept 0 (length ss) (image_text ss ++ (8 ∷ 9 ∷ [])) }

-- 13: a buffer of n bytes is too short
abbrev pub keep_refused : ℕ → Done
keep_refused n = record { operation = keep (replicate n 7); result = kept 13 0 (replicate n 7) }

-- going back to an image, and one that is turned away
abbrev pub restore_done : List ℕ → Done
restore_done image = record { operation = restore image; result = replaced 0 }

abbrev pub restore_refused : List ℕ → Done
restore_refused image = record { operation = restore image; result = replaced 12 }

-- "the history is then the one at that moment, and later acts are forgotten": in one session
abbrev pub back_again : List Done
back_again =
    map one begun
    ++ (keep_refused 639
    ∷ keep_done (begun_with "Ma        0000000000000006")
    ∷ one (turn "Elamp" 0 "C 00 -        lamp")
    ∷ one (turn "Eexpose" 0 "C 00 -        expose")
    ∷ one (turn "Lrole late under top" 0 "D 00 late")
    ∷ restore_done begun_image
    ∷ one (turn "Elate" 6 "R 06 -")
    ∷ one (turn "Eexpose" 0 "H 01 a")
    ∷ restore_refused (replicate 640 7)
    ∷ one (turn "Eexpose" 0 "H 01 a")
    ∷ keep_done (begun_with "Ma        0000000000000006")
    ∷ [])

-- "for another accepted image, the marks it gives are followed": mark 2, given alone, may end the past, and nothing may follow it, so that after an act no mark is set;
-- from mark 0 alone, expose leads to mark 1, and uv to 1 and 2
abbrev pub elsewhere : List Done
elsewhere =
    restore_done (image_text (begun_with "Ma        00000004"))
    ∷ one (turn "Eexpose" 0 "H 01 a")
    ∷ one (turn "Elamp" 0 "C 00 -        lamp")
    ∷ keep_done (begun_with "Ma        0000000000000000")
    ∷ one (turn "Euv" 0 "C 00 -        uv")
    ∷ one (turn "Eexpose" 0 "C 00 -        expose")
    ∷ restore_done (image_text (begun_with "Ma        00000001"))
    ∷ one (turn "Eexpose" 0 "C 00 -        expose")
    ∷ one (turn "Euv" 0 "C 00 -        uv")
    ∷ keep_done (begun_with "Ma        0000000000000006")
    ∷ one (turn "Eexpose" 0 "H 01 a")
    ∷ []

-- "A Greek collection's sheet needs 35 patterns in one past": 35 times the act of no roles, which sets the mark after each that is set
abbrev pub greek_with : String → List String
greek_with m = "Lrule g:<><><><><><><><><><><><><><><><><><><><><><><><><><><><><><><><><><><>;<top>;hold" ∷ m ∷ []

-- marks above 31; then an `M` record with eight digits is read, "its higher marks clear", though mark 35 was set: mark 31 alone, and after an act mark 32, which has its own bit;
-- "keeping writes sixteen"
abbrev pub greek : List Done
greek =
    restore_done (image_text (greek_with "Mg        0000000400000000"))
    ∷ one (turn "Etop" 0 "C 00 -        top")
    ∷ restore_done (image_text (greek_with "Mg        0000000400000000"))
    ∷ one (turn "E" 0 "C 00 -")
    ∷ keep_done (greek_with "Mg        0000000800000000")
    ∷ one (turn "Etop" 0 "H 01 g")
    ∷ restore_done (image_text (greek_with "Mg        80000000"))
    ∷ keep_done (greek_with "Mg        0000000080000000")
    ∷ one (turn "E" 0 "C 00 -")
    ∷ keep_done (greek_with "Mg        0000000100000000")
    ∷ restore_refused (image_text (greek_with "Mg        0000001000000000"))
    ∷ keep_done (greek_with "Mg        0000000100000000")
    ∷ []

-- "one space between two neighbouring words and no other space but the padding after the text"
abbrev pub spacing : List Done
spacing =
    keep_done []
    ∷ one (turn "Lrole uv under top" 0 "D 00 uv")
    ∷ one (turn "L  rule  b :[ not <uv>  or any] ( < uv + top * > ) * ; any ;send < # 1 uv top >" 0 "D 00 b")
    ∷ one (turn "Lrule c:[not not any]();<>;pass" 0 "D 00 c")
    ∷ keep_done
    ("Lrole uv under top"
    ∷ "Lrule b:[not<uv>or any](<uv+top*>)*;any;send<#1 uv top>"
    ∷ "Lrule c:[not not any]();<>;pass"
    ∷ "Mb        0000000000000001"
    ∷ "Mc        0000000000000001"
    ∷ [])
    ∷ []

-- all of it
abbrev pub ImagesRight : Type 0
ImagesRight =
    (image_of begun_machine ≡ begun_image) × (map accepts turned_away ≡ replicate 26 12) × (map accepts accepted ≡ replicate 9 0)
    × Results back_again × Results elsewhere × Results greek × Results spacing
