-- The calls of a trace as records of crate list_records: the code, and the words. Where the format has other words than the record, they are made of it.
use Rattle.std.specs.Prelude.{List, [], ◌∷◌, ℕ, take, drop}
use Rattle.std.proofs.Math.Option.{get_or}
use Rattle.number.specs.Tables.{Row, ◌names◌, lookup}
use Rattle.list_words.specs.Words.{word_at}

-- the words of `IDENTITY`
abbrev pub identity_words : List ℕ
identity_words =
    0x3f80_0000 ∷ 0 ∷ 0 ∷ 0 ∷ 0 ∷ 0x3f80_0000 ∷ 0 ∷ 0
    ∷ 0 ∷ 0 ∷ 0x3f80_0000 ∷ 0 ∷ 0 ∷ 0 ∷ 0 ∷ 0x3f80_0000 ∷ []

-- sixteen words that are made for a call, of which it may take the first. A rotation about no axis multiplies by the identity.
-- The number of names has two words. Bytes lie in the record itself: those of an upload 20 bytes from its first word on, those of a part 12
abbrev pub made_rows : List ℕ → List (Row (List ℕ))
made_rows w =
    0x20 names (word_at w 0 ∷ 0 ∷ 0 ∷ 0 ∷ 0 ∷ 0 ∷ 0 ∷ 0 ∷ 0 ∷ 0 ∷ 0 ∷ 0 ∷ 0 ∷ 0 ∷ 0 ∷ 0 ∷ [])
    ∷ 0x23 names (word_at w 0 ∷ word_at w 1 ∷ 0 ∷ word_at w 2 ∷ 20 ∷ 0 ∷ word_at w 4 ∷ 0 ∷ 0 ∷ 0 ∷ 0 ∷ 0 ∷ 0 ∷ 0 ∷ 0 ∷ 0 ∷ [])
    ∷ 0x24 names (word_at w 0 ∷ word_at w 1 ∷ 12 ∷ 0 ∷ word_at w 2 ∷ 0 ∷ 0 ∷ 0 ∷ 0 ∷ 0 ∷ 0 ∷ 0 ∷ 0 ∷ 0 ∷ 0 ∷ 0 ∷ [])
    ∷ []

unfoldable pub made_words : ℕ → List ℕ → List ℕ
made_words code w = get_or (lookup (made_rows w) code) identity_words

-- the words of the call: the record's own, or of those that are made for it
abbrev pub call_rows : List ℕ → List ℕ → List (Row (List ℕ))
call_rows w made =
    0x18 names take 5 w
    ∷ 0x19 names made
    ∷ 0x20 names take 2 made
    ∷ 0x22 names drop 1 w
    ∷ 0x23 names take 8 made
    ∷ 0x24 names take 6 made
    ∷ []

unfoldable pub call_words : ℕ → List ℕ → List ℕ → List ℕ
call_words code w made = get_or (lookup (call_rows w made) code) w

-- the code of the call
abbrev pub call_codes : List (Row ℕ)
call_codes = 0x19 names 0x13 ∷ []

unfoldable pub call_code : ℕ → ℕ
call_code code = get_or (lookup call_codes code) code
