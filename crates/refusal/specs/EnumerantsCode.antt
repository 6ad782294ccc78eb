-- For the code: enumerants of OpenGL ES that it keeps as choices.
use Rattle.std.specs.Prelude.{ℕ, List, ◌≡◌, Result, Ok, Err}
use Rattle.std.proofs.Math.Option.{Option, some, none}
use Rattle.number.specs.Tables.{Row, lookup}
use Rattle.refusal.specs.declared.UnknownEnum.{UnknownEnum}

-- the choice that was found, none where the number is refused
abbrev pub found : {A : Type 0} → Result A UnknownEnum → Option A
found (Ok a) = some a
found (Err e) = none

-- the code's answer for a number is what the table has for it
abbrev pub Decodes : {A : Type 0} → List (Row A) → ℕ → Result A UnknownEnum → Type 0
Decodes rows code r = found r ≡ lookup rows code
