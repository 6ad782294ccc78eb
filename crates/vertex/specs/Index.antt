-- The indices of a draw (01: "Draws").
use Rattle.std.specs.Prelude.{cond, List, [], ◌∷◌, ℕ, zero, suc, ◌+◌, ◌-◌, ◌*◌, min, eqb, length, take, drop}
use Rattle.number.specs.Numbers.{little_endian}
use Rattle.fetch.specs.Fetch.{Part, bytes, no_buffer, unreadable, part_of}
use Rattle.number.specs.Tables.{Row, ◌names◌}
use Rattle.vertex.specs.Scene.{Scene, Source, list, range, elements}
use Rattle.vertex.specs.declared.IndexType.{IndexType}

-- first, first + 1, and so on: n numbers
unfoldable pub up_from : ℕ → ℕ → List ℕ
up_from first zero = []
up_from first (suc n) = first ∷ up_from (suc first) n

-- how many indices a range has: it ends before min (first + count) (2^32 - 1)
abbrev pub range_count : ℕ → ℕ → ℕ
range_count first count = min (first + count) 4294967295 - first

-- bytes of an index: 1 for 0x1401, 2 for 0x1403, 0 for an unknown type
unfoldable pub index_width : ℕ → ℕ
index_width ty = cond (eqb ty 0x1401) 1 (cond (eqb ty 0x1403) 2 0)

-- the types that the code keeps as choices, and the bytes of each
abbrev pub index_types : List (Row IndexType)
index_types = (0x1401 names IndexType.Byte) ∷ (0x1403 names IndexType.Short) ∷ []

abbrev pub type_width : IndexType → ℕ
type_width IndexType.Byte = 1
type_width IndexType.Short = 2

-- n little-endian numbers of `width` bytes each
unfoldable pub numbers : ℕ → ℕ → List ℕ → List ℕ
numbers width zero bs = []
numbers width (suc n) bs = little_endian (take width bs) ∷ numbers width n (drop width bs)

-- the bytes of a draw's indices: in the element buffer if one is bound, else in guest memory
abbrev pub index_part : Scene → ℕ → ℕ → ℕ → ℕ → Part
index_part s element count ty pointer = part_of s.contents s.base s.guest element pointer (count * index_width ty)

abbrev pub indices_in : Part → ℕ → ℕ → List ℕ
indices_in (bytes bs) width n = numbers width n bs
indices_in no_buffer width n = []
indices_in unreadable width n = []

-- a draw's indices; none where they cannot be read
abbrev pub indices_from : Scene → ℕ → Source → List ℕ
indices_from s element (list is) = is
indices_from s element (range first count) = up_from first (range_count first count)
indices_from s element (elements count ty pointer) = indices_in (index_part s element count ty pointer) (index_width ty) count

-- 01's n: how many indices a draw has
abbrev pub index_total : Source → ℕ
index_total (list is) = length is
index_total (range first count) = range_count first count
index_total (elements count ty pointer) = count
