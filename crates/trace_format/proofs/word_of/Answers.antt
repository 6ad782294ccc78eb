-- `trace::word_of` meets its contract, by the law on the number of a part.
use Prim.Native.Nat.{◌*◌}
use native.Mathlib.Nat.{add-zero}
use native.Mathlib.Omega.{arith}
use Rattle.number.proofs.LittleEndian.{endian_part}
use Rattle.trace_format.proofs.word_of.Goals as goal

pub returns : goal.returns
returns c =
    let a = c.args in
    let pre = c.requires in
    let shared-slice-known = c.shared_slice_known-1.given in
    (endian_part 4 a.bytes.now (4 * a.i) (omega (arith, pre)) (λ k. omega (arith, shared-slice-known k)) c.le32.result (rw (add-zero (4 * a.i)) c.le32.ensures)).0
