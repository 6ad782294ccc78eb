-- What "can be read" says of the lengths agrees with what crate fetch says of the bytes: theorems.
use Rattle.std.specs.Prelude.{Bool, true, false, cond, ◌&&◌, List, ◌≡◌, refl, ℕ, ◌+◌, ◌-◌, ◌*◌, ◌≤◌, leb, length, take, drop}
use Rattle.std.proofs.Math.Option.{some}
use Rattle.std.proofs.Common.{mul-le-mul_left, arith, leb-true}
use Rattle.buffers.specs.Objects.{slot_bytes}
use Rattle.fetch.specs.Fetch.{bytes, unreadable, is_found, in_buffer, in_guest}
use Rattle.trace_format.specs.Trace.{max_entries}
use Rattle.trace_driver.specs.Permitted.{is_readable}

-- guest bytes can be read where a fetch reads them
pub readable_is : (base : ℕ) (guest : List ℕ) (address len : ℕ) → is_readable base (length guest) address len ≡ is_found (in_guest base guest address len)
readable_is base guest address len = go (leb base address && leb ((address - base) + len) (length guest))
  where
    go : (b : Bool) → b ≡ is_found (cond b (bytes (take len (drop (address - base) guest))) unreadable)
    go true = refl
    go false = refl

-- an index has a byte at least, so that a buffer of 4,096 bytes holds no more indices than the bound
pub few_in_a_buffer : (held : List ℕ) (count width pointer : ℕ) → length held ≤ slot_bytes → 1 ≤ width
    → is_found (in_buffer (some held) pointer (count * width)) ≡ true → count ≤ max_entries
few_in_a_buffer held count width pointer small one there = go (leb (pointer + count * width) (length held)) refl there
  where
    go : (b : Bool) → leb (pointer + count * width) (length held) ≡ b → is_found (cond b (bytes (take (count * width) (drop pointer held))) unreadable) ≡ true → count ≤ max_entries
    go true f e = omega (arith, leb-true (pointer + count * width) (length held) f, mul-le-mul_left count one)
    go false f e = let z : ◌≡◌ {A = ℕ} 0 1 = cc in absurd (omega arith)
