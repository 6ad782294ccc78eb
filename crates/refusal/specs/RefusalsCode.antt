-- For the code: what its answer is in the rules.
use Rattle.std.specs.Prelude.{Result, Ok, Err}
use Rattle.refusal.specs.declared.Refusal.{Refusal}
use Rattle.refusal.specs.Refusals.{refusal_number, number_in, Answer, answer}

-- what the code's answer is, with the part that a call was lent
abbrev pub answered : {A : Type 0} → Result Unit Refusal → A → Answer A
answered r a = answer (number_in r) a

-- the same where the answer has the new value, and a refusal leaves the old one
abbrev pub answer_or : {A : Type 0} → A → Result A Refusal → Answer A
answer_or a (Ok b) = answer 0 b
answer_or a (Err r) = answer (refusal_number r) a
