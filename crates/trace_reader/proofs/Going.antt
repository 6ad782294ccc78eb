-- A record that was read whole. Assumes nothing.
use Rattle.std.proofs.Common.{ℕ, ◌≡◌, ◌*◌, ◌≤◌, List, length, take, refl, sym, ap, ◌∙◌, arith, Ok}
use Rattle.trace_format.specs.Trace.{fault_of}
use Rattle.trace_format.specs.Fill.{filled, word_of}
use Rattle.trace_reader.specs.Kept.{header_of, ReadFrom}

-- a record of n words, and its words
pub read_from : (code n : ℕ) (bytes w w1 : List ℕ) {part : List ℕ}
    → 4 * n ≤ length bytes → w1 ≡ filled (word_of bytes) n w → part ≡ take n w1 → fault_of code part ≡ Ok tt → ReadFrom (header_of code n) bytes w w1
read_from code n bytes w w1 h e p f =
    record { kept = record { fault = ap (fault_of code) (sym p) ∙ f; size = refl }; whole = h; words = e }
