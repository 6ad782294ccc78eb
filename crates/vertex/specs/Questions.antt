-- The tests of a draw (01: "Questions at the door"), in 01's order: the number of the first test that fails, or 0.
use Rattle.std.specs.Prelude.{Bool, not, cond, ◌&&◌, ◌||◌, List, ℕ, ◌+◌, ◌*◌, ltb, leb, eqb, length, get_or, Result, Ok, Err}
use Rattle.buffers.specs.Bounded.{first}
use Rattle.fetch.specs.Fetch.{part_state, position_number}
use Rattle.fetch.specs.declared.ArrayPointer.{ArrayPointer}
use Rattle.fetch.specs.declared.Missing.{Missing}
use Rattle.vertex.specs.Scene.{Source, list, range, elements, Scene}
use Rattle.vertex.specs.Index.{index_width, index_part, indices_from}
use Rattle.vertex.specs.Vertex.{position_of}

-- the number of the position at a place, 0 where it can be fetched
abbrev pub position_at : Scene → List ℕ → ℕ → ℕ
position_at s is place = position_number (position_of s (get_or is place 0))

abbrev pub fails : Scene → List ℕ → ℕ → Bool
fails s is place = not (eqb (position_at s is place) 0)

-- the first place of the indices whose position cannot be fetched, or how many there are
abbrev pub failing_place : Scene → List ℕ → ℕ
failing_place s is = first (length is) (fails s is)

-- the vertex array is enabled, with buffer or pointer nonzero
abbrev pub has_vertices : ArrayPointer → Bool
has_vertices a = a.enabled && (not (eqb a.buffer 0) || not (eqb a.pointer 0))

-- the tests of all draws, before that of the room in the output
unfoldable pub list_number : Scene → ℕ → List ℕ → ℕ
list_number s mode is =
    cond (not (has_vertices s.arrays.vertex)) 8
    (cond (ltb (failing_place s is) (length is)) (position_at s is (failing_place s is))
    (cond (ltb 6 mode) 0x0500
    (cond (ltb mode 4) 10
    0)))

-- a range of indices that is not there: 0x0501 in the element buffer, 7 in guest memory
abbrev pub part_number : ℕ → Result Unit Missing → ℕ
part_number element (Ok u) = 0
part_number element (Err Missing.NoBuffer) = 0x0501
part_number element (Err Missing.Unreadable) = cond (eqb element 0) 7 0x0501

-- the tests of a draw whose indices lie in the element buffer or in guest memory
unfoldable pub elements_number : Scene → ℕ → ℕ → ℕ → ℕ → ℕ
elements_number s element count ty pointer =
    cond (eqb (index_width ty) 0) 0x0500
    (cond (leb 18446744073709551616 (count * index_width ty)) 0x0501
    (part_number element (part_state (index_part s element count ty pointer))))

-- both, by the source of the indices; a draw of the second kind without an index answers 0, whatever the mode
abbrev pub source_number : Scene → ℕ → ℕ → Source → ℕ
source_number s element mode (list is) = list_number s mode (indices_from s element (list is))
source_number s element mode (range first count) = list_number s mode (indices_from s element (range first count))
source_number s element mode (elements count ty pointer) =
    cond (not (eqb (elements_number s element count ty pointer) 0)) (elements_number s element count ty pointer)
    (cond (eqb count 0) 0 (list_number s mode (indices_from s element (elements count ty pointer))))

-- the tests of the guest view and the mask; n is the number of those that follow
unfoldable pub view_number : ℕ → ℕ → ℕ → ℕ → ℕ
view_number base len stages n = cond (ltb 4294967296 (base + len)) 2 (cond (leb 16 stages) 3 n)

-- the number of the first test that fails, before that of the room in the output
abbrev pub validation : Scene → ℕ → ℕ → Source → ℕ
validation s element mode source = view_number s.base (length s.guest) s.stages (source_number s element mode source)
