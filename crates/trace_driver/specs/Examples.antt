-- Worked examples as theorems about the definitions.
use Rattle.std.specs.Prelude.{true, false, List, [], ◌∷◌, ◌≡◌, ℕ}
use Rattle.std.proofs.Math.Path.{refl}
use Rattle.buffers.specs.Objects.{store_bytes}
use Rattle.vertex.specs.Scene.{list, range, elements}
use Rattle.vertex.specs.Index.{index_width}
use Rattle.context.specs.Contract.{draw_call}
use Rattle.number.specs.Bytes.{overwrite}
use Rattle.trace_text.specs.Text.{put_held}
use Rattle.trace_driver.specs.Settings.{borrowed, fresh_borrowed, borrowed_after, store_after, guest_after}
use Rattle.trace_driver.specs.Permitted.{is_call, code_borrows_store, is_made, can_be_read, is_short}
use Rattle.trace_driver.specs.Draws.{trace_source, trace_draw}

-- each draw from its words: mode 5, mask 3, output length 102
module _ (base room : ℕ) (guest : List ℕ) where
  pub list_draw : trace_draw 0x60 (5 ∷ 3 ∷ 102 ∷ 2 ∷ 7 ∷ 9 ∷ []) base guest room ≡ draw_call (list (7 ∷ 9 ∷ [])) 5 3 base guest room
  unfolding trace_source
  list_draw = refl

  pub range_draw : trace_draw 0x61 (5 ∷ 3 ∷ 102 ∷ 7 ∷ 9 ∷ []) base guest room ≡ draw_call (range 7 9) 5 3 base guest room
  unfolding trace_source
  range_draw = refl

  pub stored_draw : trace_draw 0x62 (5 ∷ 3 ∷ 102 ∷ 7 ∷ 0x1403 ∷ 64 ∷ []) base guest room ≡ draw_call (elements 7 0x1403 64) 5 3 base guest room
  unfolding trace_source
  stored_draw = refl

-- a new base leaves the rest; a new store length leaves the view
pub settings : (borrowed_after 0x08 64 9 fresh_borrowed ≡ borrowed 64 0 65536) × (borrowed_after 0x05 1000 9 (borrowed 1 2 3) ≡ borrowed 1 2 1000)
unfolding borrowed_after
settings = (refl, refl)

-- STORE_BYTES of two bytes at place 1, padded to a word; the guest's area stays
pub put_bytes : (store_after 0x04 (1 ∷ 2 ∷ 0x0807 ∷ []) (1 ∷ 0 ∷ 0 ∷ 0 ∷ 2 ∷ 0 ∷ 0 ∷ 0 ∷ 7 ∷ 8 ∷ 0 ∷ 0 ∷ []) (5 ∷ 5 ∷ 5 ∷ 5 ∷ []) ≡ 5 ∷ 7 ∷ 8 ∷ 5 ∷ [])
    × (guest_after 0x04 (1 ∷ 2 ∷ 0x0807 ∷ []) (1 ∷ 0 ∷ 0 ∷ 0 ∷ 2 ∷ 0 ∷ 0 ∷ 0 ∷ 7 ∷ 8 ∷ 0 ∷ 0 ∷ []) (5 ∷ 5 ∷ []) ≡ 5 ∷ 5 ∷ [])
unfolding store_after guest_after put_held overwrite
put_bytes = (refl, refl)

-- 16,384 indices and no more, unless no vertex array is enabled; a range ends before 2^32-1
pub ranges : (is_short true 5 16384 ≡ true) × (is_short true 5 16385 ≡ false) × (is_short false 5 16385 ≡ true) × (is_short true 4294967290 16385 ≡ true)
ranges = (refl, refl, refl, refl)

-- five shorts lie in ten guest bytes, six do not; with an element buffer bound none is read there
pub shorts : (can_be_read (borrowed 64 10 65536) 0 5 0x1403 64 ≡ true) × (can_be_read (borrowed 64 10 65536) 0 6 0x1403 64 ≡ false)
    × (can_be_read (borrowed 64 10 65536) 1 5 0x1403 64 ≡ false)
unfolding can_be_read index_width
shorts = (refl, refl, refl)

-- with another store only calls that borrow it are made; settings and DUMP are no calls
pub short_store : (is_made 1000 0x23 ≡ true) × (is_made 1000 0x61 ≡ true) × (is_made 1000 0x21 ≡ false) × (is_made 1000 0x72 ≡ false)
    × (is_made 1000 0x05 ≡ true) × (is_made 1000 0x7f ≡ true) × (is_made store_bytes 0x21 ≡ true)
unfolding is_made is_call code_borrows_store
short_store = (refl, refl, refl, refl, refl, refl, refl)
