-- What a draw reads (01: "Draws", "Strands and fold"): the state that the calls before it left, and its arguments.
use Rattle.std.specs.Prelude.{List, ℕ, Float}
use Rattle.std.proofs.Math.Option.{Option}
use Rattle.matrix.specs.Matrix.{product}
use Rattle.arrays.specs.declared.Arrays.{Arrays}
use Rattle.arrays.specs.declared.Attributes.{Attributes}

-- the current matrices, the live names with their bytes, the element binding, the arrays, the current values
pub record DrawState : Type 0 where
  pub modelview : List Float
  pub projection : List Float
  pub texture : List Float
  pub contents : ℕ → Option (List ℕ)
  pub element : ℕ
  pub arrays : Arrays
  pub attributes : Attributes

-- where the indices come from: a borrowed list; a range; so many bytes or shorts at a pointer, in the element buffer or else in guest memory
pub data Source : Type 0 where
  list : (indices : List ℕ) → Source
  range : (first count : ℕ) → Source
  elements : (count ty pointer : ℕ) → Source

-- a draw's arguments: the primitive's mode, the mask of stages, guest memory from `base` on, how many f32 the output holds
pub record DrawCall : Type 0 where
  pub source : Source
  pub mode : ℕ
  pub stages : ℕ
  pub base : ℕ
  pub guest : List ℕ
  pub room : ℕ

-- what a vertex is made from, besides its index
pub record Scene : Type 0 where
  pub transform : List Float  -- projection times modelview
  pub modelview : List Float
  pub texture : List Float
  pub contents : ℕ → Option (List ℕ)
  pub arrays : Arrays
  pub attributes : Attributes
  pub base : ℕ
  pub guest : List ℕ
  pub stages : ℕ

abbrev pub scene_of : DrawState → DrawCall → Scene
scene_of s d =
    record {
      transform = product s.projection s.modelview;
      modelview = s.modelview;
      texture = s.texture;
      contents = s.contents;
      arrays = s.arrays;
      attributes = s.attributes;
      base = d.base;
      guest = d.guest;
      stages = d.stages;
    }
