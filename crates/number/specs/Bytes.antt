-- Bytes with a part of them replaced.
use Rattle.std.specs.Prelude.{ℕ, ◌+◌, List, ◌++◌, length, take, drop}

-- the bytes with a part overwritten from `at` on
unfoldable pub overwrite : List ℕ → ℕ → List ℕ → List ℕ
overwrite old at new = take at old ++ new ++ drop (at + length new) old
