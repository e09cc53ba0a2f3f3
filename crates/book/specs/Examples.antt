-- Sessions of document 01, "A session printed" and "Other runs", and more, as data: each call with its answer. `examples_right` of proofs/Examples.antt
-- says that the book gives these answers.
-- Assumes nothing.
use Rattle.std.specs.Prelude.{◌≡◌, List, [], ◌∷◌, ◌++◌, map, ℕ, replicate}
use Prim.Native.String.{String}
use Rattle.grammar.specs.Text.{bytes_of}
use Rattle.reply.specs.Reply.{padded}
use Rattle.book.specs.Decide.{Call, Answer}
use Rattle.book.specs.Book.{book_step, fresh_book}
use Rattle.book.specs.Session.{answers}
use Rattle.book.specs.Text.{call_of, answer_of}

-- a call and the answer that document 01 prints of it
pub record Turn : Type 0 where
  pub call : Call
  pub answer : Answer

-- a record, the number, and the reply, trailing spaces not shown
abbrev pub turn : String → ℕ → String → Turn
turn s n r = record { call = call_of (bytes_of s); answer = answer_of n (bytes_of r) }

-- a role line under top, taken
abbrev pub role_turn : String → Turn
role_turn w = record { call = call_of (bytes_of "Lrole " ++ (bytes_of w ++ bytes_of " under top")); answer = answer_of 0 (bytes_of "D 00 " ++ bytes_of w) }

-- the rule `any*;any;pass`, taken
abbrev pub pass_turn : String → Turn
pass_turn w = record { call = call_of (bytes_of "Lrule " ++ (bytes_of w ++ bytes_of ": any*;any;pass")); answer = answer_of 0 (bytes_of "D 00 " ++ bytes_of w) }

-- the calls of a session, and its answers
abbrev pub calls_of : List Turn → List Call
calls_of rs = map (λ (r : Turn). r.call) rs

abbrev pub answers_of : List Turn → List Answer
answers_of rs = map (λ (r : Turn). r.answer) rs

-- a fresh book gives these answers
abbrev pub Answered : List Turn → Type 0
Answered rs = answers book_step fresh_book (calls_of rs) ≡ answers_of rs

-- "A session printed"
abbrev pub printed : List Turn
printed =
    turn "Lrole lamp under top" 0 "D 00 lamp"
    ∷ turn "Lrole uv under lamp" 0 "D 00 uv"
    ∷ turn "Lrole expose under top" 0 "D 00 expose"
    ∷ turn "Lrule a: any*<uv>; <expose>; hold" 0 "D 00 a"
    ∷ turn "Euv" 0 "C 00 -        uv"
    ∷ turn "Eexpose" 0 "H 01 a"
    ∷ turn "Elamp" 0 "C 00 -        lamp"
    ∷ turn "Eexpose" 0 "C 00 -        expose"
    ∷ []

-- "`any*;<expose>;send <expose uv>` then a pass rule on `<expose>`: act expose gives C 02, expose uv. A third rule holding `<expose uv>` isn't consulted"
abbrev pub send_run : List Turn
send_run =
    turn "Lrole lamp under top" 0 "D 00 lamp"
    ∷ turn "Lrole uv under lamp" 0 "D 00 uv"
    ∷ turn "Lrole expose under top" 0 "D 00 expose"
    ∷ turn "Lrule a: any*;<expose>;send <expose uv>" 0 "D 00 a"
    ∷ turn "Lrule b: any*;<expose>;pass" 0 "D 00 b"
    ∷ turn "Eexpose" 0 "C 02 -        expose uv"
    ∷ turn "Lrule c: any*;<expose uv>;hold" 0 "D 00 c"
    ∷ turn "Eexpose" 0 "C 02 -        expose uv"
    ∷ []

-- "with anew it is, H 03"
abbrev pub anew_run : List Turn
anew_run =
    turn "Lrole lamp under top" 0 "D 00 lamp"
    ∷ turn "Lrole uv under lamp" 0 "D 00 uv"
    ∷ turn "Lrole expose under top" 0 "D 00 expose"
    ∷ turn "Lrule a: any*;<expose>;anew <expose uv>" 0 "D 00 a"
    ∷ turn "Lrule b: any*;<expose>;pass" 0 "D 00 b"
    ∷ turn "Lrule c: any*;<expose uv>;hold" 0 "D 00 c"
    ∷ turn "Eexpose" 0 "H 03 c"
    ∷ []

-- "A lone anew of the same act: T 64."; and a template that names a place beyond the event's length: U
abbrev pub lone_anew : List Turn
lone_anew =
    turn "Lrole lamp under top" 0 "D 00 lamp"
    ∷ turn "Lrole uv under lamp" 0 "D 00 uv"
    ∷ turn "Lrole expose under top" 0 "D 00 expose"
    ∷ turn "Lrule a: any*;<expose>;anew <expose>" 0 "D 00 a"
    ∷ turn "Eexpose" 0 "T 64 a"
    ∷ turn "Lrule b: ();any;send <#1 #2>" 0 "D 00 b"
    ∷ turn "Euv" 0 "U 01 b"
    ∷ []

-- "Four anew hops through five roles, then 12 pass rules on any: C 64."
abbrev pub four_hops : List Turn
four_hops =
    role_turn "a"
    ∷ role_turn "b"
    ∷ role_turn "c"
    ∷ role_turn "d"
    ∷ role_turn "e"
    ∷ turn "Lrule h0: any*;<a>;anew <b>" 0 "D 00 h0"
    ∷ turn "Lrule h1: any*;<b>;anew <c>" 0 "D 00 h1"
    ∷ turn "Lrule h2: any*;<c>;anew <d>" 0 "D 00 h2"
    ∷ turn "Lrule h3: any*;<d>;anew <e>" 0 "D 00 h3"
    ∷ pass_turn "p0"
    ∷ pass_turn "p1"
    ∷ pass_turn "p2"
    ∷ pass_turn "p3"
    ∷ pass_turn "p4"
    ∷ pass_turn "p5"
    ∷ pass_turn "p6"
    ∷ pass_turn "p7"
    ∷ pass_turn "p8"
    ∷ pass_turn "p9"
    ∷ pass_turn "p10"
    ∷ pass_turn "p11"
    ∷ turn "Ea" 0 "C 64 -        e"
    ∷ []

-- "Five hops through six roles, then 10 passes: T 64, the first declared pass."
abbrev pub five_hops : List Turn
five_hops =
    role_turn "a"
    ∷ role_turn "b"
    ∷ role_turn "c"
    ∷ role_turn "d"
    ∷ role_turn "e"
    ∷ role_turn "f"
    ∷ turn "Lrule h0: any*;<a>;anew <b>" 0 "D 00 h0"
    ∷ turn "Lrule h1: any*;<b>;anew <c>" 0 "D 00 h1"
    ∷ turn "Lrule h2: any*;<c>;anew <d>" 0 "D 00 h2"
    ∷ turn "Lrule h3: any*;<d>;anew <e>" 0 "D 00 h3"
    ∷ turn "Lrule h4: any*;<e>;anew <f>" 0 "D 00 h4"
    ∷ pass_turn "p0"
    ∷ pass_turn "p1"
    ∷ pass_turn "p2"
    ∷ pass_turn "p3"
    ∷ pass_turn "p4"
    ∷ pass_turn "p5"
    ∷ pass_turn "p6"
    ∷ pass_turn "p7"
    ∷ pass_turn "p8"
    ∷ pass_turn "p9"
    ∷ turn "Ea" 0 "T 64 p0"
    ∷ []

-- every row of the refusals but 7, 9 and 10, and which goes first where two apply; 7 is met by no line: one with 55 patterns, the most that it can hold, is taken
abbrev pub refusals : List Turn
refusals =
    turn "Lrole lamp under top" 0 "D 00 lamp"
    ∷ turn "Lrole uv under lamp" 0 "D 00 uv"
    ∷ turn "Lrole expose under top" 0 "D 00 expose"
    ∷ record { call = record { bytes = []; buffer = 1 ∷ 2 ∷ [] }; answer = record { number = 1; buffer = 1 ∷ 2 ∷ [] } }
    ∷ record { call = record { bytes = []; buffer = replicate 50 0 }; answer = answer_of 2 (bytes_of "R 02 -") }
    ∷ record { call = record { bytes = padded 127 (bytes_of "Euv"); buffer = replicate 50 0 }; answer = answer_of 2 (bytes_of "R 02 -") }
    ∷ turn "Q" 3 "R 03 -"
    ∷ turn "L\u{1}?" 3 "R 03 -"
    ∷ turn "E uv;" 4 "R 04 -"
    ∷ turn "Eany" 4 "R 04 -"
    ∷ turn "Euv uv uv uv uv" 4 "R 04 -"
    ∷ turn "Lrole top under mauve" 5 "R 05 -"
    ∷ turn "Lrole x under mauve" 6 "R 06 -"
    ∷ turn "Lrule top: <mauve>;any;hold" 5 "R 05 -"
    ∷ turn "Lrule a:<><><><><><><><><><><><><><><><><><><><><><><><><><><><><><><><><><><><><><><><><><><><><><><><><><><><><><zz>;<>;hold" 6 "R 06 -"
    ∷ turn "Lrule a:<><><><><><><><><><><><><><><><><><><><><><><><><><><><><><><><><><><><><><><><><><><><><><><><><><><><><><><>;<>;hold" 0 "D 00 a"
    ∷ turn "Lrole a under top" 5 "R 05 -"
    ∷ turn "Ea" 6 "R 06 -"
    ∷ turn "Lrule b: [<uv> or not (<lamp> or <+top>)] # ; any ; send < # 1 >" 4 "R 04 -"
    ∷ turn "Lrule b: [<uv> or not (<lamp> or <+top>)] ; any ; send < # 1 >" 0 "D 00 b"
    ∷ turn "Lrule c: any*; any; send <a>" 6 "R 06 -"
    ∷ turn "Elamp lamp lamp lamp" 0 "C 00 -        lamp lamp lamp lamp"
    ∷ turn "Emauve" 6 "R 06 -"
    ∷ turn "Lrole top under top" 5 "R 05 -"
    ∷ turn "Euv;" 4 "R 04 -"
    ∷ turn "Lrole x under x" 6 "R 06 -"
    ∷ turn "Qrole" 3 "R 03 -"
    ∷ []

-- a rule does not see the events before its declaration; a held event is not recorded; a role declared later is below one that a rule names
abbrev pub starts : List Turn
starts =
    turn "Lrole lamp under top" 0 "D 00 lamp"
    ∷ turn "Lrole uv under lamp" 0 "D 00 uv"
    ∷ turn "Lrole expose under top" 0 "D 00 expose"
    ∷ turn "Euv" 0 "C 00 -        uv"
    ∷ turn "Lrule a: <uv>;any;hold" 0 "D 00 a"
    ∷ turn "Elamp" 0 "C 00 -        lamp"
    ∷ turn "Lrule b: <+lamp>;any;hold" 0 "D 00 b"
    ∷ turn "Lrole led under uv" 0 "D 00 led"
    ∷ turn "Eled" 0 "C 00 -        led"
    ∷ turn "Euv" 0 "H 01 b"
    ∷ turn "Euv" 0 "H 01 b"
    ∷ []

-- "One stuck rule stopping the rest.", "Losing mark 0's part when a star's inside can be empty.": neither is so
abbrev pub stuck : List Turn
stuck =
    role_turn "uv"
    ∷ role_turn "lamp"
    ∷ turn "Lrule a: <uv>;<lamp>;hold" 0 "D 00 a"
    ∷ turn "Lrule b: (()+<uv>)*<lamp>;<lamp>;hold" 0 "D 00 b"
    ∷ turn "Elamp" 0 "C 00 -        lamp"
    ∷ turn "Elamp" 0 "H 01 b"
    ∷ turn "Elamp" 0 "H 01 b"
    ∷ turn "Euv" 0 "C 00 -        uv"
    ∷ turn "Elamp" 0 "C 00 -        lamp"
    ∷ []

-- 64 roles, top included, and no more; 32 rules, and no more
abbrev pub full : List Turn
full =
    map role_turn ("r0" ∷ "r1" ∷ "r2" ∷ "r3" ∷ "r4" ∷ "r5" ∷ "r6" ∷ "r7" ∷ "r8" ∷ "r9" ∷ "r10" ∷ "r11" ∷ "r12" ∷ "r13" ∷ "r14" ∷ "r15" ∷ "r16" ∷ "r17" ∷ "r18" ∷ "r19" ∷ "r20" ∷ "r21" ∷ "r22" ∷ "r23" ∷ "r24" ∷ "r25" ∷ "r26" ∷ "r27" ∷ "r28" ∷ "r29" ∷ "r30" ∷ "r31" ∷ "r32" ∷ "r33" ∷ "r34" ∷ "r35" ∷ "r36" ∷ "r37" ∷ "r38" ∷ "r39" ∷ "r40" ∷ "r41" ∷ "r42" ∷ "r43" ∷ "r44" ∷ "r45" ∷ "r46" ∷ "r47" ∷ "r48" ∷ "r49" ∷ "r50" ∷ "r51" ∷ "r52" ∷ "r53" ∷ "r54" ∷ "r55" ∷ "r56" ∷ "r57" ∷ "r58" ∷ "r59" ∷ "r60" ∷ "r61" ∷ "r62" ∷ [])
    ++ (turn "Lrole z under top" 8 "R 08 -"
    ∷ turn "Lrole z under y" 6 "R 06 -"
    ∷ map pass_turn ("q0" ∷ "q1" ∷ "q2" ∷ "q3" ∷ "q4" ∷ "q5" ∷ "q6" ∷ "q7" ∷ "q8" ∷ "q9" ∷ "q10" ∷ "q11" ∷ "q12" ∷ "q13" ∷ "q14" ∷ "q15" ∷ "q16" ∷ "q17" ∷ "q18" ∷ "q19" ∷ "q20" ∷ "q21" ∷ "q22" ∷ "q23" ∷ "q24" ∷ "q25" ∷ "q26" ∷ "q27" ∷ "q28" ∷ "q29" ∷ "q30" ∷ "q31" ∷ [])
    ++ (turn "Lrule z: ();any;hold" 8 "R 08 -"
    ∷ turn "Er1" 0 "C 32 -        r1"
    ∷ turn "Er1 r2 r62 r3" 0 "C 32 -        r1 r2 r62 r3"
    ∷ []))
