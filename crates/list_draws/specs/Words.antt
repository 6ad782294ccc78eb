-- The words that all draws have, in the code's record; the room is held within the output.
use Rattle.std.specs.Prelude.{List, ℕ, min}
use Rattle.list_words.specs.Words.{word_at, long_at}
use Rattle.list_draws.specs.declared.DrawWords.{DrawWords}

abbrev pub draw_words : List ℕ → ℕ → DrawWords
draw_words w len = record { mode = word_at w 0; stages = word_at w 1; base = word_at w 4; room = min (long_at w 2) len }
