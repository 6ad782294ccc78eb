-- Position, colour, pairs and vertex, case by case over plain values. Assumes nothing.
use mathlib.Core.Bool.{Bool, true, false, cond}
use mathlib.Core.List.{List, [], ◌∷◌}
use mathlib.Core.Path.{◌≡◌, sym, ap, ◌∙◌}
use Prim.Native.Nat.{ℕ}
use lib.ListN.{get_or}
use lib.Ieee.{Float}
use Rattle.number.specs.Numbers.{magnitude}
use Rattle.matrix.specs.Matrix.{at, transform_row, transformed}
use Rattle.fetch.specs.Fetch.{Fetched}
use Rattle.arrays.specs.Attributes.{no_pair}
use Rattle.arrays.specs.declared.Pair.{Pair}
use Rattle.vertex.specs.Scene.{Scene}
use Rattle.vertex.specs.Vertex.{element_of, position_of, object_position, color_of, components_or, origin, has_stage, pair_from, transformed_pair}
use Rattle.vertex.specs.Vertex.{unit_array, stage_pair, pair_of, pair_words, texcoords_of, vertex_of}

pub position_from : (s : Scene) (index : ℕ) (f g : Fetched) → f ≡ position_of s index → f ≡ g → components_or g origin ≡ object_position s index
position_from s index f g ef eg = ap (λ (x : Fetched). components_or x origin) (sym eg ∙ ef)

module _ (s : Scene) (index : ℕ) where
  -- a disabled colour is the current one
  pub color_off : s.arrays.color.enabled ≡ false → s.attributes.color ≡ color_of s index
  color_off e = rw e

  pub color_from : s.arrays.color.enabled ≡ true → (f g : Fetched) → f ≡ element_of s s.arrays.color index true → f ≡ g
      → components_or g s.attributes.color ≡ color_of s index
  color_from e f g ef eg =
      let current = s.attributes.color in
      ap (λ (x : Fetched). components_or x current) (sym eg ∙ ef)
      ∙ ap (λ (b : Bool). cond b (components_or (element_of s s.arrays.color index true) current) current) (sym e)

module _ (s : Scene) (index unit : ℕ) where
  -- a unit without a stage has 0 and 0
  pub pair_none : has_stage s.stages unit ≡ false → no_pair ≡ pair_of s index unit
  pair_none e = rw e

  module _ (e : has_stage s.stages unit ≡ true) where
    -- a disabled array's pair is the current one, not transformed
    pub pair_off : (unit_array s unit).enabled ≡ false → get_or s.attributes.pairs unit no_pair ≡ pair_of s index unit
    unfolding stage_pair
    pair_off h = rw (e, h)

    pub pair_on : (unit_array s unit).enabled ≡ true → {c r : Pair} → c ≡ pair_from (components_or (element_of s (unit_array s unit) index false) origin)
        → r ≡ transformed_pair s.texture (pair_words c) → r ≡ pair_of s index unit
    unfolding stage_pair
    pair_on h ec er = rw (e, h) (er ∙ ap (λ (p : Pair). transformed_pair s.texture (pair_words p)) ec)

-- ---- the vertex

pub texcoords_are : (s : Scene) (index : ℕ) {t0 t1 t2 t3 : Pair} → t0 ≡ pair_of s index 0 → t1 ≡ pair_of s index 1 → t2 ≡ pair_of s index 2 → t3 ≡ pair_of s index 3
    → t0.s ∷ t0.t ∷ t1.s ∷ t1.t ∷ t2.s ∷ t2.t ∷ t3.s ∷ t3.t ∷ [] ≡ texcoords_of s index
texcoords_are s index e0 e1 e2 e3 = λ i. (e0 i).s ∷ (e0 i).t ∷ (e1 i).s ∷ (e1 i).t ∷ (e2 i).s ∷ (e2 i).t ∷ (e3 i).s ∷ (e3 i).t ∷ []

pub assembled : (s : Scene) (index : ℕ) {o position eye color texcoords : List Float} {fog : Float}
    → o ≡ object_position s index → position ≡ transformed s.transform o → eye ≡ transformed s.modelview o → color ≡ color_of s index
    → texcoords ≡ texcoords_of s index → fog ≡ magnitude (at eye 2)
    → record { position = position; color = color; texcoords = texcoords; fog = fog } ≡ vertex_of s index
unfolding vertex_of
assembled s index eo ep ee ec et ef =
    λ i. record {
      position = (ep ∙ ap (transformed s.transform) eo) i;
      color = ec i;
      texcoords = et i;
      fog = (ef ∙ ap (λ (l : List Float). magnitude (at l 2)) ee ∙ ap (λ (l : List Float). magnitude (transform_row s.modelview l 2)) eo) i;
    }
