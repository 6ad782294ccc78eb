-- The settings of a trace (TRACE.md: "Settings"): what the calls borrow, and what the store's area and the guest's hold.
use Rattle.std.specs.Prelude.{List, [], ◌∷◌, ℕ}
use Rattle.number.specs.Tables.{Row, ◌names◌, row_or}
use Rattle.buffers.specs.Objects.{store_bytes}
use Rattle.list_words.specs.Words.{word_at, bytes_at}
use Rattle.trace_text.specs.Text.{Page, page, put_text}
use Rattle.trace_format.specs.Trace.{store_area}
use Rattle.trace_format.specs.Fill.{filled, fill_byte}
use Rattle.trace_driver.specs.declared.Borrowed.{Borrowed}

-- ---- what is borrowed: the guest view's base, its number of bytes, how many bytes of the store

abbrev pub borrowed : ℕ → ℕ → ℕ → Borrowed
borrowed base guest store = record { base = base; guest = guest; store = store }

-- base 0, no bytes, the whole store
abbrev pub fresh_borrowed : Borrowed
fresh_borrowed = borrowed 0 0 store_bytes

-- a, b: a record's first words. STORE_LEN has the store's length, GUEST and GUEST_FILL the guest view, GUEST_BASE the base alone
abbrev pub borrowed_rows : ℕ → ℕ → Borrowed → List (Row Borrowed)
borrowed_rows a b v =
    0x05 names borrowed v.base v.guest a
    ∷ 0x06 names borrowed a b v.store
    ∷ 0x07 names borrowed a b v.store
    ∷ 0x08 names borrowed a v.guest v.store
    ∷ []

unfoldable pub borrowed_after : ℕ → ℕ → ℕ → Borrowed → Borrowed
borrowed_after code a b v = row_or (borrowed_rows a b v) code v

-- ---- the areas

abbrev pub page_bytes : Page → List ℕ
page_bytes (page bytes place) = bytes

-- an area with bytes put at a place; as it was where they do not fit
abbrev pub put_at : List ℕ → ℕ → List ℕ → List ℕ
put_at area place new = page_bytes (put_text (page area place) new)

-- the bytes of a record: after two words, the second of which is their number
abbrev pub carried : List ℕ → List ℕ → List ℕ
carried w bytes = bytes_at bytes 8 (word_at w 1)

-- STORE_FILL: seed. STORE_BYTES: place, number of bytes, bytes
abbrev pub store_rows : List ℕ → List ℕ → List ℕ → List (Row (List ℕ))
store_rows w bytes store =
    0x03 names filled (fill_byte (word_at w 0)) store_area store
    ∷ 0x04 names put_at store (word_at w 0) (carried w bytes)
    ∷ []

unfoldable pub store_after : ℕ → List ℕ → List ℕ → List ℕ → List ℕ
store_after code w bytes store = row_or (store_rows w bytes store) code store

-- GUEST: base, number of bytes, bytes. GUEST_FILL: base, number of bytes, seed
abbrev pub guest_rows : List ℕ → List ℕ → List ℕ → List (Row (List ℕ))
guest_rows w bytes guest =
    0x06 names put_at guest 0 (carried w bytes)
    ∷ 0x07 names filled (fill_byte (word_at w 2)) (word_at w 1) guest
    ∷ []

unfoldable pub guest_after : ℕ → List ℕ → List ℕ → List ℕ → List ℕ
guest_after code w bytes guest = row_or (guest_rows w bytes guest) code guest
