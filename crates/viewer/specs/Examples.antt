-- Two small films as data: each record with its line. `examples_right` of proofs/Examples.antt computes the lines from the definitions of Film.antt and
-- Lines.antt.
-- Assumes nothing.
use Rattle.std.specs.Prelude.{◌≡◌, List, [], ◌∷◌, ◌++◌, map}
use Prim.Native.String.{String}
use Rattle.grammar.specs.Text.{bytes_of}
use Rattle.frame.specs.Records.{record_of}
use Rattle.viewer.specs.Film.{fresh_film}
use Rattle.viewer.specs.Showing.{lines_of}

-- a record and its line, as printed
pub record FilmRow : Type 0 where
  pub text : String
  pub line : String

-- a record's text and the line that is written of it
abbrev pub row : String → String → FilmRow
row s l = record { text = s; line = l }

-- a fresh film says these lines
abbrev pub Said : List FilmRow → Type 0
Said rs = lines_of fresh_film (map (λ (r : FilmRow). record_of (bytes_of r.text)) rs) ≡ map (λ (r : FilmRow). bytes_of r.line ++ (10 ∷ [])) rs

-- a rule sees the acts after its declaration and no other; a role below another meets `+`; a refused act is seen by none
abbrev pub starts : List FilmRow
starts =
    row "Lrole lamp under top" "D 00 lamp     | -"
    ∷ row "Lrole uv under lamp" "D 00 uv       | -"
    ∷ row "Lrule a: any*<+lamp>; any; hold" "D 00 a        | -"
    ∷ row "Euv" "C 00 -        | a"
    ∷ row "Lrule b: <uv>; any; hold" "D 00 b        | a"
    ∷ row "Etop" "C 00 -        | -"
    ∷ row "Lrule c: any; any; pass" "D 00 c        | -"
    ∷ row "Emauve" "R 06 -        | -"
    ∷ row "Elamp" "C 00 -        | a c"
    ∷ []

-- refusals, a line of 55 patterns, which is the most, and the list of no acts
abbrev pub refusals : List FilmRow
refusals =
    row "Quv" "R 03 -        | -"
    ∷ row "Lrule a: ()+<top>; any; hold" "D 00 a        | a"
    ∷ row "Etop;" "R 04 -        | a"
    ∷ row "Lrole a under top" "R 05 -        | a"
    ∷ row "Lrole b under c" "R 06 -        | a"
    ∷ row "Lrule b:<><><><><><><><><><><><><><><><><><><><><><><><><><><><><><><><><><><><><><><><><><><><><><><><><><><><><><><>;<>;hold" "D 00 b        | a"
    ∷ row "Etop" "C 00 -        | a"
    ∷ row "E" "C 00 -        | -"
    ∷ []
