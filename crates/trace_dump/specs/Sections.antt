-- The sections of a DUMP (TRACE.md: "Sections of DUMP").
use Rattle.std.specs.Prelude.{Bool, ℕ, ◌/◌, ◌%◌, ◌^◌, eqb}

-- bit k of the word
abbrev pub has_section : ℕ → ℕ → Bool
has_section sections k = eqb (sections / 2 ^ k % 2) 1
