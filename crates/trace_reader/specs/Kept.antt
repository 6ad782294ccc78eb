-- What is known of a record that was read. Which bytes come is the system's choice, of which no contract speaks.
use Rattle.std.specs.Prelude.{List, ◌≡◌, ℕ, ◌*◌, ◌≤◌, length, take, Ok}
use Rattle.trace_format.specs.Trace.{fault_of}
use Rattle.trace_format.specs.Fill.{filled, word_of}
use Rattle.trace_reader.specs.declared.Header.{Header}
use Rattle.trace_reader.specs.declared.Opening.{Opening}

-- a record begins with two words: its opcode, and how many words follow
abbrev pub opening_of : List ℕ → Opening
opening_of bytes = record { code = word_of bytes 0; n = word_of bytes 1 }

abbrev pub header_of : ℕ → ℕ → Header
header_of code n = record { code = code; n = n }

-- its words are n and keep the format
pub record Kept (r : Header) (n : ℕ) (w : List ℕ) : Type 0 where
  pub fault : fault_of r.code w ≡ Ok tt
  pub size : r.n ≡ n

-- a record's words, all of them, are those of the bytes: an area of words that held w before holds w1
pub record ReadFrom (r : Header) (bytes w w1 : List ℕ) : Type 0 where
  pub kept : Kept r r.n (take r.n w1)
  pub whole : 4 * r.n ≤ length bytes
  pub words : w1 ≡ filled (word_of bytes) r.n w
