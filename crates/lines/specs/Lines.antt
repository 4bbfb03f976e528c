-- The lines that the lister's text and the replay's share, byte by byte: two numbers behind their words, and a refusal.
-- Each fixed word stands with the spaces around it, as the code writes it. Assumes nothing.
use Rattle.std.specs.Prelude.{List, [], ◌∷◌, ◌++◌, ℕ, drop, get_or}
use Rattle.octets.specs.Decimals.{decimal}

-- b" "
abbrev pub space : List ℕ
space = 0x20 ∷ []

-- "each line ended by byte 0x0A"
abbrev pub newline : List ℕ
newline = 0x0A ∷ []

-- b"refused "
abbrev pub refused_word : List ℕ
refused_word = 0x72 ∷ 0x65 ∷ 0x66 ∷ 0x75 ∷ 0x73 ∷ 0x65 ∷ 0x64 ∷ 0x20 ∷ []

-- b" at "
abbrev pub at_word : List ℕ
at_word = 0x20 ∷ 0x61 ∷ 0x74 ∷ 0x20 ∷ []

-- a line of two numbers, each behind its word
unfoldable pub pair_line : List ℕ → ℕ → List ℕ → ℕ → List ℕ
pair_line first a second b = first ++ decimal a ++ second ++ decimal b ++ newline

-- "A refusal prints only `refused 7`, or for 1 to 6 `refused 2 at 3` (number, place)": `says` has the number and, for 1 to 6, the place
abbrev pub place_text : List ℕ → List ℕ
place_text [] = []
place_text (place ∷ rest) = at_word ++ decimal place

unfoldable pub refused_text : List ℕ → List ℕ
refused_text says = refused_word ++ decimal (get_or says 0 0) ++ place_text (drop 1 says) ++ newline

-- How much room every such line finds: 8 bytes of the word, 4 of ` at `, the line's end, and 20 digits for each of two numbers of eight bytes.
abbrev pub refused_room : ℕ
refused_room = 53
