-- A fetch (01: "Pointers and attributes", "Fetch and decode"): an element's address, its bytes, and the answer.
use Rattle.std.specs.Prelude.{ℕ, ◌+◌, ◌-◌, ◌*◌, Bool, true, false, cond, ◌&&◌, List, [], eqb, ltb, leb, length, take, drop, Result, Ok, Err}
use Rattle.std.proofs.Math.Option.{Option, some, none}
use Rattle.fetch.specs.Decode.{component_bytes, vector_of}
use Rattle.fetch.specs.declared.ArrayPointer.{ArrayPointer}
use Rattle.fetch.specs.declared.FetchFailure.{FetchFailure}
use Rattle.fetch.specs.declared.Missing.{Missing}
use Rattle.fetch.specs.declared.Vec4.{Vec4}

-- what a fetch answers: four components, or the failure
abbrev pub Fetched : Type 0
Fetched = Result Vec4 FetchFailure

abbrev pub fresh_array : ArrayPointer
fresh_array = record { enabled = false; size = 4; ty = 0x1406; stride = 0; pointer = 0; buffer = 0 }

-- ---- the address

-- the largest address and product
abbrev pub last_address : ℕ
last_address = 4294967295

-- L: the bytes of an element, of all its components
abbrev pub element_bytes : ArrayPointer → ℕ
element_bytes a = component_bytes a.ty * a.size

-- the distance between elements: stride 0 means that they are packed
abbrev pub stride_of : ArrayPointer → ℕ
stride_of a = cond (eqb a.stride 0) (element_bytes a) a.stride

-- an element's address with its length, or why it has none
pub data Address : Type 0 where
  address_at : (address len : ℕ) → Address
  unknown_type : Address
  overflow : Address

-- The address of an element, with L. It has none if its type is unknown, or if bytes times size (also when a stride is given),
-- stride times index, or pointer plus that product passes 2^32-1.
unfoldable pub address_of : ArrayPointer → ℕ → Address
address_of a index =
    cond (eqb (component_bytes a.ty) 0) unknown_type
    (cond (ltb last_address (element_bytes a)) overflow
    (cond (ltb last_address (stride_of a * index)) overflow
    (cond (ltb last_address (a.pointer + stride_of a * index)) overflow
    (address_at (a.pointer + stride_of a * index) (element_bytes a)))))

-- ---- the bytes

-- the bytes at an address, or why there are none
pub data Part : Type 0 where
  bytes : List ℕ → Part
  no_buffer : Part
  unreadable : Part

-- a buffer holds the bytes where address + len is within its length
abbrev pub in_buffer : Option (List ℕ) → ℕ → ℕ → Part
in_buffer none address len = no_buffer
in_buffer (some held) address len = cond (leb (address + len) (length held)) (bytes (take len (drop address held))) unreadable

-- guest bytes are readable where address is at least base and (address - base) + len is within them
abbrev pub in_guest : ℕ → List ℕ → ℕ → ℕ → Part
in_guest base guest address len =
    cond (leb base address && leb ((address - base) + len) (length guest)) (bytes (take len (drop (address - base) guest))) unreadable

-- with buffer 0 the guest's, else the named buffer's
unfoldable pub part_of : (ℕ → Option (List ℕ)) → ℕ → List ℕ → ℕ → ℕ → ℕ → Part
part_of contents base guest buffer address len = cond (eqb buffer 0) (in_guest base guest address len) (in_buffer (contents buffer) address len)

-- whether there are bytes
abbrev pub is_found : Part → Bool
is_found (bytes bs) = true
is_found no_buffer = false
is_found unreadable = false

-- whether there are bytes, or why not
abbrev pub part_state : Part → Result Unit Missing
part_state (bytes bs) = Ok tt
part_state no_buffer = Err Missing.NoBuffer
part_state unreadable = Err Missing.Unreadable

-- a part's bytes, none where there are none
abbrev pub bytes_in : Part → List ℕ
bytes_in (bytes bs) = bs
bytes_in no_buffer = []
bytes_in unreadable = []

-- ---- the fetch

abbrev pub decoded : ArrayPointer → Bool → Part → Fetched
decoded a normalize (bytes bs) = Ok (vector_of a.ty a.size normalize bs)
decoded a normalize no_buffer = Err FetchFailure.NoBuffer
decoded a normalize unreadable = Err FetchFailure.Unreadable

abbrev pub fetched_at : (ℕ → Option (List ℕ)) → ℕ → List ℕ → ArrayPointer → Bool → Address → Fetched
fetched_at contents base guest a normalize (address_at address len) = decoded a normalize (part_of contents base guest a.buffer address len)
fetched_at contents base guest a normalize unknown_type = Err FetchFailure.UnknownType
fetched_at contents base guest a normalize overflow = Err FetchFailure.Overflow

-- element `index` of an array, from the live names' contents and the guest bytes from `base` on
unfoldable pub fetched : (ℕ → Option (List ℕ)) → ℕ → List ℕ → ArrayPointer → ℕ → Bool → Fetched
fetched contents base guest a index normalize = fetched_at contents base guest a normalize (address_of a index)

-- the number of each answer where a position is fetched
abbrev pub position_number : Fetched → ℕ
position_number (Ok v) = 0
position_number (Err FetchFailure.UnknownType) = 9
position_number (Err FetchFailure.Overflow) = 9
position_number (Err FetchFailure.NoBuffer) = 9
position_number (Err FetchFailure.Unreadable) = 9
