-- For the code: an array as a draw holds it, where its elements lie, and what is known of the arrays of a draw.
use Rattle.std.specs.Prelude.{Bool, cond, Option, Some, None, Result, Ok, Err, List, ◌⊎◌, ◌≡◌, ℕ, ◌+◌, ◌-◌, ◌*◌, ◌<◌, ◌≤◌, ltb, length, get_or, take, drop}
use Rattle.std.proofs.Math.Option.{Option as Maybe}
use Rattle.fetch.specs.Decode.{component_bytes, vector_of}
use Rattle.fetch.specs.Fetch.{Fetched, last_address, element_bytes, fetched}
use Rattle.fetch.specs.FetchCode.{part_source}
use Rattle.fetch.specs.declared.ArrayPointer.{ArrayPointer}
use Rattle.fetch.specs.declared.FetchFailure.{FetchFailure}
use Rattle.vertex.specs.Scene.{Scene}
use Rattle.vertex.specs.Vertex.{unit_array}
use Rattle.assembly.specs.declared.Plan.{Plan}
use Rattle.assembly.specs.declared.Prepared.{Prepared}

-- a known type's width
abbrev pub OneTwoFour : ℕ → Type 0
OneTwoFour w = (w ≡ 1) ⊎ ((w ≡ 2) ⊎ (w ≡ 4))

-- why there is no element at an address, where the array has none or this address is out of reach
abbrev pub missing_at : Option FetchFailure → ℕ → FetchFailure
missing_at (Some FetchFailure.UnknownType) address = FetchFailure.UnknownType
missing_at (Some FetchFailure.Overflow) address = FetchFailure.Overflow
missing_at (Some FetchFailure.NoBuffer) address = cond (ltb last_address address) FetchFailure.Overflow FetchFailure.NoBuffer
missing_at (Some FetchFailure.Unreadable) address = cond (ltb last_address address) FetchFailure.Overflow FetchFailure.Unreadable
missing_at None address = cond (ltb last_address address) FetchFailure.Overflow FetchFailure.Unreadable

-- where the element at an address lies in its source, by what is prepared, or why it is not there
abbrev pub location_at : Prepared → ℕ → Result ℕ FetchFailure
location_at e address =
    cond (ltb address e.low) (Err (missing_at e.failure address))
    (cond (ltb e.last address) (Err (missing_at e.failure address))
    (Ok (e.origin + (address - e.low))))

-- where element `index` lies
unfoldable pub location_of : Prepared → ℕ → Result ℕ FetchFailure
location_of e index = location_at e (e.array.pointer + e.stride * index)

-- a location agrees with the fetch of its element, `f`, normalised or not: the `len` bytes there are the element's, or it fails for the same cause
abbrev pub Locates : (Bool → Fetched) → ArrayPointer → List ℕ → ℕ → Result ℕ FetchFailure → Type 0
Locates f a source len (Ok at) =
    (at + len ≤ length source) × (len ≡ element_bytes a) × (0 < component_bytes a.ty)
    × ((normalize : Bool) → f normalize ≡ Ok (vector_of a.ty a.size normalize (take len (drop at source))))
Locates f a source len (Err cause) = (normalize : Bool) → f normalize ≡ Err cause

-- an array is prepared: each of its elements is found, in the live names' contents or in the guest bytes from `base` on
pub record Prepares (contents : ℕ → Maybe (List ℕ)) (base : ℕ) (store guest : List ℕ) (a : ArrayPointer) (e : Prepared) : Type 0 where
  pub array : e.array ≡ a
  pub element : (index : ℕ) → Locates (fetched contents base guest a index) a (part_source a.buffer store guest) e.len (location_of e index)

abbrev pub PreparesFor : Scene → List ℕ → ArrayPointer → Prepared → Type 0
PreparesFor s store a e = Prepares s.contents s.base store s.guest a e

-- all arrays of a scene are prepared
pub record Plans (s : Scene) (store : List ℕ) (p : Plan) : Type 0 where
  pub position : PreparesFor s store s.arrays.vertex p.position
  pub color : PreparesFor s store s.arrays.color p.color
  pub units : (unit : ℕ) (d : Prepared) → unit < 4 → PreparesFor s store (unit_array s unit) (get_or p.units unit d)
