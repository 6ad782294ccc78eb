-- The draws of a trace (TRACE.md: "Calls", opcodes 60 to 62): mode, mask of stages, output length;
-- then a number of indices and the indices, or first and count, or count, type and pointer.
use Rattle.std.specs.Prelude.{List, [], ◌∷◌, ℕ, min, drop}
use Rattle.number.specs.Tables.{Row, ◌names◌, row_or}
use Rattle.list_words.specs.Words.{word_at}
use Rattle.vertex.specs.Scene.{Source, list, range, elements, DrawCall}
use Rattle.context.specs.Contract.{draw_call}

-- the output length, held within the output that there is
abbrev pub room_of : List ℕ → ℕ → ℕ
room_of w len = min (word_at w 2) len

abbrev pub trace_list : List ℕ → Source
trace_list w = list (drop 4 w)

abbrev pub trace_range : List ℕ → Source
trace_range w = range (word_at w 3) (word_at w 4)

abbrev pub trace_elements : List ℕ → Source
trace_elements w = elements (word_at w 3) (word_at w 4) (word_at w 5)

-- a code that no row has counts as 0x62
abbrev pub trace_source_rows : List ℕ → List (Row Source)
trace_source_rows w =
    0x60 names trace_list w
    ∷ 0x61 names trace_range w
    ∷ []

unfoldable pub trace_source : ℕ → List ℕ → Source
trace_source code w = row_or (trace_source_rows w) code (trace_elements w)

-- a draw of a record's words, over guest bytes from `base` on and an output of so many f32
abbrev pub draw_from : Source → List ℕ → ℕ → List ℕ → ℕ → DrawCall
draw_from source w base guest room = draw_call source (word_at w 0) (word_at w 1) base guest room

abbrev pub trace_draw : ℕ → List ℕ → ℕ → List ℕ → ℕ → DrawCall
trace_draw code w base guest room = draw_from (trace_source code w) w base guest room
