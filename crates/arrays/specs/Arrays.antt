-- The client arrays (01: "Records", "Pointers and attributes"): what they are at first, and what each call makes of them.
use Rattle.std.specs.Prelude.{Bool, cond, List, [], ◌∷◌, ℕ, ltb, set, get_or, replicate}
use Rattle.std.proofs.Math.Option.{Option, some, none, bind}
use Rattle.number.specs.Tables.{Row, ◌names◌, lookup}
use Rattle.fetch.specs.declared.ArrayPointer.{ArrayPointer}
use Rattle.fetch.specs.Fetch.{fresh_array}
use Rattle.arrays.specs.declared.Arrays.{Arrays}
use Rattle.arrays.specs.declared.ArrayKind.{ArrayKind}
use Rattle.refusal.specs.Refusals.{Answer, answer}

-- how many texture units there are
abbrev pub unit_count : ℕ
unit_count = 4

-- seven arrays, and client unit 0
abbrev pub fresh_arrays : Arrays
fresh_arrays = record { vertex = fresh_array; color = fresh_array; normal = fresh_array; texcoord = replicate unit_count fresh_array; client_active_texture = 0 }

-- ---- one array

-- the array that a call is on; of the texture coordinates the client unit's
abbrev pub array_of : ArrayKind → Arrays → ArrayPointer
array_of ArrayKind.Vertex a = a.vertex
array_of ArrayKind.Color a = a.color
array_of ArrayKind.Normal a = a.normal
array_of ArrayKind.TexCoord a = get_or a.texcoord a.client_active_texture fresh_array

-- that array replaced; none for a client unit from 4 on
abbrev pub put_array : ArrayKind → ArrayPointer → Arrays → Option Arrays
put_array ArrayKind.Vertex p a = some (record { vertex = p; color = a.color; normal = a.normal; texcoord = a.texcoord; client_active_texture = a.client_active_texture })
put_array ArrayKind.Color p a = some (record { vertex = a.vertex; color = p; normal = a.normal; texcoord = a.texcoord; client_active_texture = a.client_active_texture })
put_array ArrayKind.Normal p a = some (record { vertex = a.vertex; color = a.color; normal = p; texcoord = a.texcoord; client_active_texture = a.client_active_texture })
put_array ArrayKind.TexCoord p a =
    cond (ltb a.client_active_texture unit_count)
    (some (record {
      vertex = a.vertex;
      color = a.color;
      normal = a.normal;
      texcoord = set a.texcoord a.client_active_texture p;
      client_active_texture = a.client_active_texture;
    }))
    none

-- ---- the calls

pub data ArrayCall : Type 0 where
  vertex_pointer : (size ty stride pointer : ℕ) → ArrayCall
  color_pointer : (size ty stride pointer : ℕ) → ArrayCall
  normal_pointer : (ty stride pointer : ℕ) → ArrayCall
  texcoord_pointer : (size ty stride pointer : ℕ) → ArrayCall
  client_state : (array : ℕ) (on : Bool) → ArrayCall
  client_unit : (unit : ℕ) → ArrayCall

-- a pointer call keeps enabled and takes the array binding; size and type are not checked
abbrev pub pointer_set : ArrayKind → ℕ → ℕ → ℕ → ℕ → ℕ → Arrays → Option Arrays
pointer_set kind size ty stride pointer binding a =
    put_array kind (record { enabled = (array_of kind a).enabled; size = size; ty = ty; stride = stride; pointer = pointer; buffer = binding }) a

-- an array switched on or off
abbrev pub enabled_set : ArrayKind → Bool → Arrays → Option Arrays
enabled_set kind on a =
    let p = array_of kind a in
    put_array kind (record { enabled = on; size = p.size; ty = p.ty; stride = p.stride; pointer = p.pointer; buffer = p.buffer }) a

abbrev pub array_kinds : List (Row ArrayKind)
array_kinds = 0x8074 names ArrayKind.Vertex ∷ 0x8075 names ArrayKind.Normal ∷ 0x8076 names ArrayKind.Color ∷ 0x8078 names ArrayKind.TexCoord ∷ []

abbrev pub with_client_unit : ℕ → Arrays → Arrays
with_client_unit unit a = record { vertex = a.vertex; color = a.color; normal = a.normal; texcoord = a.texcoord; client_active_texture = unit }

-- the arrays after a call while `binding` is the array binding, or none where it is refused: an unknown enumerant, or a unit from 4 on
unfoldable pub accepted_arrays : ArrayCall → ℕ → Arrays → Option Arrays
accepted_arrays (vertex_pointer size ty stride pointer) binding a = pointer_set ArrayKind.Vertex size ty stride pointer binding a
accepted_arrays (color_pointer size ty stride pointer) binding a = pointer_set ArrayKind.Color size ty stride pointer binding a
-- normals have size 3
accepted_arrays (normal_pointer ty stride pointer) binding a = pointer_set ArrayKind.Normal 3 ty stride pointer binding a
accepted_arrays (texcoord_pointer size ty stride pointer) binding a = pointer_set ArrayKind.TexCoord size ty stride pointer binding a
accepted_arrays (client_state array on) binding a = bind (lookup array_kinds array) (λ kind. enabled_set kind on a)
accepted_arrays (client_unit unit) binding a = cond (ltb unit unit_count) (some (with_client_unit unit a)) none

-- ---- the answers

-- a refusal changes nothing
abbrev pub arrays_answered : Option Arrays → Arrays → Answer Arrays
arrays_answered (some b) a = answer 0 b
arrays_answered none a = answer 0x0500 a

-- a call's number, and the arrays after it
unfoldable pub array_step : ArrayCall → ℕ → Arrays → Answer Arrays
array_step call binding a = arrays_answered (accepted_arrays call binding a) a
