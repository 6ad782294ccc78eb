-- For the code: the scene and the list of indices that the code's own records stand for.
use Rattle.std.specs.Prelude.{List, ℕ, ◌-◌, ◌/◌, length}
use Rattle.buffers.specs.Objects.{contents_of}
use Rattle.vertex.specs.Scene.{Scene}
use Rattle.vertex.specs.Index.{up_from, numbers}
use Rattle.vertex.specs.declared.IndexList.{IndexList}
use Rattle.vertex.specs.declared.DrawInputs.{DrawInputs}

-- the scene of the code's record, over the bytes of store and guest
abbrev pub scene_in : DrawInputs → List ℕ → List ℕ → Scene
scene_in s store guest =
    record {
      transform = s.transform;
      modelview = s.modelview;
      texture = s.texture;
      contents = contents_of s.buffers.slots store;
      arrays = s.arrays;
      attributes = s.attributes;
      base = s.base;
      guest = guest;
      stages = s.stages;
    }

-- the list that the code's list of indices stands for
abbrev pub index_list : IndexList → List ℕ
index_list (IndexList.List is) = is.now
index_list (IndexList.Range first end) = up_from first (end - first)
index_list (IndexList.Bytes bs) = numbers 1 (length bs.now) bs.now
index_list (IndexList.Shorts bs) = numbers 2 (length bs.now / 2) bs.now
