-- For the code: where the bytes of a part lie in the store or in the guest bytes.
use Rattle.std.specs.Prelude.{ℕ, ◌+◌, ◌≤◌, cond, List, ◌≡◌, eqb, length, take, drop, Result, Ok, Err}
use Rattle.std.specs.Borrow.{Bor}
use Rattle.fetch.specs.Fetch.{Part, bytes, no_buffer, unreadable}
use Rattle.fetch.specs.declared.Missing.{Missing}

-- the bytes that a part is of: with buffer 0 the guest's, else the store's
abbrev pub part_source : ℕ → List ℕ → List ℕ → List ℕ
part_source buffer store guest = cond (eqb buffer 0) guest store

-- where the code finds a part: its bytes are the `len` from `at` on in the source
abbrev pub Located : Part → List ℕ → ℕ → Result ℕ Missing → Type 0
Located part source len (Ok at) = (at + len ≤ length source) × (part ≡ bytes (take len (drop at source)))
Located part source len (Err Missing.NoBuffer) = part ≡ no_buffer
Located part source len (Err Missing.Unreadable) = part ≡ unreadable

-- the part that the code's answer stands for
abbrev pub part_in : Result (Bor (List ℕ)) Missing → Part
part_in (Ok b) = bytes b.now
part_in (Err Missing.NoBuffer) = no_buffer
part_in (Err Missing.Unreadable) = unreadable
