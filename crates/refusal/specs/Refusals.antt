-- The numbers of the answers (01: "Questions at the door"): every call answers a number, 0 for done.
use Rattle.std.specs.Prelude.{ℕ, Result, Ok, Err}
use Rattle.refusal.specs.declared.Refusal.{Refusal}

abbrev pub refusal_number : Refusal → ℕ
refusal_number Refusal.Invalid = 1
refusal_number Refusal.GuestTooLong = 2
refusal_number Refusal.UnknownStage = 3
refusal_number Refusal.NoSlot = 4
refusal_number Refusal.NoName = 5
refusal_number Refusal.TooLarge = 6
refusal_number Refusal.UnreadableIndices = 7
refusal_number Refusal.NoVertices = 8
refusal_number Refusal.NoPosition = 9
refusal_number Refusal.NoTriangles = 10
refusal_number Refusal.NoRoom = 11
refusal_number Refusal.InvalidEnum = 0x0500
refusal_number Refusal.InvalidValue = 0x0501
refusal_number Refusal.InvalidOperation = 0x0502
refusal_number Refusal.StackOverflow = 0x0503
refusal_number Refusal.StackUnderflow = 0x0504

-- the number of an answer in the code: 0 for done, else that of the reason
abbrev pub number_in : {A : Type 0} → Result A Refusal → ℕ
number_in (Ok a) = 0
number_in (Err r) = refusal_number r

-- ---- what a call answers in the rules: its number, and what it makes of a part of the state

pub record Answer (A : Type 0) : Type 0 where
  pub number : ℕ
  pub after : A

abbrev pub answer : {A : Type 0} → ℕ → A → Answer A
answer n a = record { number = n; after = a }
