-- The records of a trace: an opcode, a number of words, the words. Which there are, and when a reader stops.
use Rattle.std.specs.Prelude.{Bool, true, false, cond, List, [], ◌∷◌, ℕ, zero, suc, ◌+◌, ◌*◌, ◌-◌, ◌/◌, ◌%◌, ◌^◌, min, eqb, ltb, leb, length, Result, Ok, Err}
use Rattle.std.proofs.Math.Option.{Option, some, none, get_or}
use Rattle.number.specs.Tables.{Row, ◌names◌, lookup}
use Rattle.list_words.specs.Words.{word_at}
use Rattle.list_records.specs.Encoding.{is_record}
use Rattle.trace_format.specs.declared.Fault.{Fault}

-- ---- bounds

abbrev pub max_words : ℕ
max_words = 65600

abbrev pub store_area : ℕ
store_area = 65600

abbrev pub guest_area : ℕ
guest_area = 262144

abbrev pub max_entries : ℕ
max_entries = 16384

abbrev pub max_output : ℕ
max_output = 51 * max_entries

abbrev pub max_upload : ℕ
max_upload = 8192

-- ---- how many words

-- the words that L bytes are packed in
abbrev pub packed : ℕ → ℕ
packed n = (n + 3) / 4

-- the first five words of a record, which say how many there are; one that is not there is 0
abbrev pub head : List ℕ → List ℕ
head w = word_at w 0 ∷ word_at w 1 ∷ word_at w 2 ∷ word_at w 3 ∷ word_at w 4 ∷ []

-- how many words a record of n words that begin with h must have; the calls that are not here have the words of a call's record (`is_record`)
abbrev pub sizes : ℕ → List ℕ → List (Row ℕ)
sizes n h =
    0x01 names min n 16
    ∷ 0x02 names 0
    ∷ 0x03 names 1
    ∷ 0x04 names (2 + packed (word_at h 1))
    ∷ 0x05 names 1
    ∷ 0x06 names (2 + packed (word_at h 1))
    ∷ 0x07 names 3
    ∷ 0x08 names 1
    ∷ 0x18 names 9
    ∷ 0x19 names 4
    ∷ 0x20 names 1
    ∷ 0x22 names (1 + word_at h 0)
    ∷ 0x23 names (5 + packed (word_at h 4))
    ∷ 0x24 names (3 + packed (word_at h 2))
    ∷ 0x60 names (4 + word_at h 3)
    ∷ 0x61 names 5
    ∷ 0x62 names 6
    ∷ 0x70 names (18 + 16 * min (word_at h 1) 15)
    ∷ 0x71 names 1
    ∷ 0x72 names 1
    ∷ 0x73 names 1
    ∷ 0x7e names 1
    ∷ 0x7f names 1
    ∷ []

abbrev pub size_or : Option ℕ → ℕ → Bool → Bool
size_or (some k) n other = eqb n k
size_or none n other = other

unfoldable pub has_size : ℕ → ℕ → List ℕ → Bool
has_size code n h = size_or (lookup (sizes n h) code) n (is_record code n)

-- ---- bounds on the words

abbrev pub any : ℕ
any = 4294967295

-- the greatest value of each of the first five words
abbrev pub limits : List (Row (List ℕ))
limits =
    0x05 names (store_area ∷ any ∷ any ∷ any ∷ any ∷ [])
    ∷ 0x06 names (any ∷ guest_area ∷ any ∷ any ∷ any ∷ [])
    ∷ 0x07 names (any ∷ guest_area ∷ any ∷ any ∷ any ∷ [])
    ∷ 0x22 names (max_entries ∷ any ∷ any ∷ any ∷ any ∷ [])
    ∷ 0x23 names (any ∷ any ∷ any ∷ 1 ∷ max_upload ∷ [])
    ∷ 0x24 names (any ∷ any ∷ max_upload ∷ any ∷ any ∷ [])
    ∷ 0x34 names (any ∷ 1 ∷ any ∷ any ∷ any ∷ [])
    ∷ 0x41 names (any ∷ 1 ∷ any ∷ any ∷ any ∷ [])
    ∷ 0x60 names (any ∷ any ∷ max_output ∷ max_entries ∷ any ∷ [])
    ∷ 0x61 names (any ∷ any ∷ max_output ∷ any ∷ any ∷ [])
    ∷ 0x62 names (any ∷ any ∷ max_output ∷ any ∷ any ∷ [])
    ∷ 0x70 names (3 ∷ any ∷ any ∷ any ∷ any ∷ [])
    ∷ 0x71 names (3 ∷ any ∷ any ∷ any ∷ any ∷ [])
    ∷ 0x72 names (3 ∷ any ∷ any ∷ any ∷ any ∷ [])
    ∷ 0x73 names (3 ∷ any ∷ any ∷ any ∷ any ∷ [])
    ∷ 0x7e names (12 ∷ any ∷ any ∷ any ∷ any ∷ [])
    ∷ 0x7f names (31 ∷ any ∷ any ∷ any ∷ any ∷ [])
    ∷ []

unfoldable pub limits_of : ℕ → List ℕ
limits_of code = get_or (lookup limits code) (any ∷ any ∷ any ∷ any ∷ any ∷ [])

-- each of the first k words is at most its limit
abbrev pub within : ℕ → List ℕ → List ℕ → Bool
within zero h most = true
within (suc k) h most = cond (leb (word_at h k) (word_at most k)) (within k h most) false

-- bytes for the store end within its area; without data there are no bytes; an unsound context is of a kind from 1 on
abbrev pub joined : List ℕ → List (Row Bool)
joined h =
    0x04 names (leb (word_at h 0 + word_at h 1) store_area)
    ∷ 0x23 names (cond (eqb (word_at h 3) 0) (eqb (word_at h 4) 0) true)
    ∷ 0x7e names (ltb 0 (word_at h 0))
    ∷ []

unfoldable pub is_joined : ℕ → List ℕ → Bool
is_joined code h = get_or (lookup (joined h) code) true

-- ---- padding

-- in records that end in bytes: how many words stand before the bytes, the last of which is the bytes' number
abbrev pub byte_starts : List (Row ℕ)
byte_starts =
    0x04 names 2
    ∷ 0x06 names 2
    ∷ 0x23 names 5
    ∷ 0x24 names 3
    ∷ []

unfoldable pub byte_start : ℕ → ℕ
byte_start code = get_or (lookup byte_starts code) 0

-- of the last word of n bytes, the bytes past the n are 0
unfoldable pub is_padded : ℕ → ℕ → Bool
is_padded n last = cond (eqb (n % 4) 0) true (ltb last (256 ^ (n % 4)))

abbrev pub has_padding : ℕ → List ℕ → Bool
has_padding code w = cond (eqb (byte_start code) 0) true (is_padded (word_at w (byte_start code - 1)) (word_at w (length w - 1)))

-- ---- why a reader stops at a record

unfoldable pub fault_of : ℕ → List ℕ → Result (Unit {0}) Fault
fault_of code w =
    cond (has_size code (length w) (head w))
    (cond (within 5 (head w) (limits_of code))
    (cond (is_joined code (head w))
    (cond (has_padding code w) (Ok tt) (Err Fault.Padding))
    (Err Fault.Bound))
    (Err Fault.Bound))
    (Err Fault.Shape)
