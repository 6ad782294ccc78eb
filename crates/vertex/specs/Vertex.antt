-- Vertex assembly (01: "Draws"): a vertex is a function of its index.
use Rattle.std.specs.Prelude.{Bool, true, false, cond, List, [], ◌∷◌, ◌++◌, ℕ, ◌/◌, ◌%◌, ◌^◌, eqb, get_or, Float, Ok, Err}
use Rattle.number.specs.F32.{f0, f1}
use Rattle.number.specs.Numbers.{magnitude}
use Rattle.matrix.specs.Matrix.{at, transform_row, transformed}
use Rattle.fetch.specs.Fetch.{Fetched, fresh_array, fetched}
use Rattle.fetch.specs.declared.ArrayPointer.{ArrayPointer}
use Rattle.fetch.specs.declared.FetchFailure.{FetchFailure}
use Rattle.arrays.specs.Attributes.{no_pair}
use Rattle.arrays.specs.declared.Pair.{Pair}
use Rattle.vertex.specs.Scene.{Scene}
use Rattle.vertex.specs.declared.Vertex.{Vertex}

-- the components that a fetch answers, or others where it fails
abbrev pub components_or : Fetched → List Float → List Float
components_or (Ok v) other = v.x ∷ v.y ∷ v.z ∷ v.w ∷ []
components_or (Err FetchFailure.UnknownType) other = other
components_or (Err FetchFailure.Overflow) other = other
components_or (Err FetchFailure.NoBuffer) other = other
components_or (Err FetchFailure.Unreadable) other = other

abbrev pub origin : List Float
origin = f0 ∷ f0 ∷ f0 ∷ f1 ∷ []

-- element `index` of an array; only colours are normalised
abbrev pub element_of : Scene → ArrayPointer → ℕ → Bool → Fetched
element_of s a index normalize = fetched s.contents s.base s.guest a index normalize

-- ---- position and fog depth

abbrev pub position_of : Scene → ℕ → Fetched
position_of s index = element_of s s.arrays.vertex index false

-- a position that cannot be fetched counts as 0, 0, 0, 1; a draw with one is refused
abbrev pub object_position : Scene → ℕ → List Float
object_position s index = components_or (position_of s index) origin

-- ---- colour

-- a failed or disabled colour is the current one
abbrev pub color_of : Scene → ℕ → List Float
color_of s index =
    cond s.arrays.color.enabled (components_or (element_of s s.arrays.color index true) s.attributes.color) s.attributes.color

-- ---- texture coordinates

-- bit `unit` of the mask: the unit has a stage
abbrev pub has_stage : ℕ → ℕ → Bool
has_stage stages unit = eqb (stages / 2 ^ unit % 2) 1

abbrev pub pair_words : Pair → List Float
pair_words p = p.s ∷ p.t ∷ []

abbrev pub pair_from : List Float → Pair
pair_from v = record { s = at v 0; t = at v 1 }

-- (s, t, 0, 1) by the texture matrix
abbrev pub transformed_pair : List Float → List Float → Pair
transformed_pair m v = pair_from (transformed m (at v 0 ∷ at v 1 ∷ f0 ∷ f1 ∷ []))

-- the array of a unit
abbrev pub unit_array : Scene → ℕ → ArrayPointer
unit_array s unit = get_or s.arrays.texcoord unit fresh_array

-- of a stage: an enabled array's element, transformed, 0 and 0 standing in for a failed fetch; of a disabled array the current pair as it is
unfoldable pub stage_pair : Scene → ℕ → ℕ → Pair
stage_pair s index unit =
    let a = unit_array s unit in
    cond a.enabled (transformed_pair s.texture (components_or (element_of s a index false) origin)) (get_or s.attributes.pairs unit no_pair)

-- a unit without a stage has 0 and 0
abbrev pub pair_of : Scene → ℕ → ℕ → Pair
pair_of s index unit = cond (has_stage s.stages unit) (stage_pair s index unit) no_pair

-- the four pairs by unit
abbrev pub texcoords_of : Scene → ℕ → List Float
texcoords_of s index = pair_words (pair_of s index 0) ++ pair_words (pair_of s index 1) ++ pair_words (pair_of s index 2) ++ pair_words (pair_of s index 3)

-- ---- the vertex

unfoldable pub vertex_of : Scene → ℕ → Vertex
vertex_of s index =
    record {
      position = transformed s.transform (object_position s index);
      color = color_of s index;
      texcoords = texcoords_of s index;
      -- eye z with its sign bit cleared
      fog = magnitude (transform_row s.modelview (object_position s index) 2);
    }

abbrev pub four : List Float → List Float
four l = at l 0 ∷ at l 1 ∷ at l 2 ∷ at l 3 ∷ []

abbrev pub next_four : List Float → List Float
next_four l = at l 4 ∷ at l 5 ∷ at l 6 ∷ at l 7 ∷ []

-- the 17 f32 of a vertex: position, colour, four pairs, fog depth
unfoldable pub vertex_words : Vertex → List Float
vertex_words v = four v.position ++ four v.color ++ four v.texcoords ++ next_four v.texcoords ++ (v.fog ∷ [])
