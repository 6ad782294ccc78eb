-- For the code: what its answer to a draw is in the rules.
use Rattle.std.specs.Prelude.{ℕ, Result, Ok, Err}
use Rattle.refusal.specs.declared.Refusal.{Refusal}
use Rattle.refusal.specs.Refusals.{refusal_number}
use Rattle.draw.specs.Draw.{Drawn}

-- number and count of the code's answer: a refused draw writes none
abbrev pub drawn_from : Result ℕ Refusal → Drawn
drawn_from (Ok n) = record { number = 0; count = n }
drawn_from (Err r) = record { number = refusal_number r; count = 0 }
