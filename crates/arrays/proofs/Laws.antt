-- What holds of every call on arrays or current values, for the crates above. Assumes nothing.
use mathlib.Core.Path.{◌≡◌, refl}
use mathlib.Core.Bool.{Bool, true, false, cond}
use mathlib.Core.Logic.{◌⊎◌, inl, inr}
use mathlib.Core.Option.{Option, some, none, bind}
use Prim.Native.Nat.{ℕ, ◌<◌}
use lib.Dec.{ltb}
use borrow.Author.Tests.{lt-ltb, ltb-true}
use Rattle.number.specs.Tables.{lookup}
use Rattle.fetch.specs.declared.ArrayPointer.{ArrayPointer}
use Rattle.arrays.specs.declared.Arrays.{Arrays}
use Rattle.arrays.specs.declared.ArrayKind.{ArrayKind}
use Rattle.arrays.specs.declared.Attributes.{Attributes}
use Rattle.arrays.specs.Arrays.{unit_count, put_array, array_kinds, with_client_unit, ArrayCall, vertex_pointer, color_pointer, normal_pointer}
use Rattle.arrays.specs.Arrays.{texcoord_pointer, client_state, client_unit, accepted_arrays, arrays_answered, array_step}
use Rattle.arrays.specs.Attributes.{AttributeCall, color, multi_texcoord, unit_of, attribute_step}
use Rattle.refusal.specs.Refusals.{answer}

-- ---- a call is done, or refused with nothing changed

answered_keeps : (o : Option Arrays) (a : Arrays) → ((arrays_answered o a).number ≡ 0) ⊎ (((arrays_answered o a).number ≡ 0x0500) × ((arrays_answered o a).after ≡ a))
answered_keeps (some b) a = inl refl
answered_keeps none a = inr (refl, refl)

pub array_keeps : (call : ArrayCall) (binding : ℕ) (a : Arrays)
    → ((array_step call binding a).number ≡ 0) ⊎ (((array_step call binding a).number ≡ 0x0500) × ((array_step call binding a).after ≡ a))
unfolding array_step
array_keeps call binding a = answered_keeps (accepted_arrays call binding a) a

pub attribute_keeps : (call : AttributeCall) (a : Attributes)
    → ((attribute_step call a).number ≡ 0) ⊎ (((attribute_step call a).number ≡ 0x0500) × ((attribute_step call a).after ≡ a))
unfolding attribute_step
attribute_keeps (color value) a = inl refl
attribute_keeps (multi_texcoord unit s t) a = go (ltb (unit_of unit) unit_count) _
  where
    go : (b : Bool) (x : Attributes) → ((cond b (answer 0 x) (answer 0x0500 a)).number ≡ 0)
        ⊎ (((cond b (answer 0 x) (answer 0x0500 a)).number ≡ 0x0500) × ((cond b (answer 0 x) (answer 0x0500 a)).after ≡ a))
    go true x = inl refl
    go false x = inr (refl, refl)

-- ---- the client unit stays below 4

module _ (a : Arrays) (low : a.client_active_texture < unit_count) where
  abbrev Stays : Option Arrays → Type 0
  Stays o = (arrays_answered o a).after.client_active_texture < unit_count

  put : (kind : ArrayKind) (p : ArrayPointer) → Stays (put_array kind p a)
  put ArrayKind.Vertex p = low
  put ArrayKind.Color p = low
  put ArrayKind.Normal p = low
  put ArrayKind.TexCoord p = rw (lt-ltb _ _ low) low

  by_kind : (f : ArrayKind → Option Arrays) → ((kind : ArrayKind) → Stays (f kind)) → (o : Option ArrayKind) → Stays (bind o f)
  unfolding bind
  by_kind f h none = low
  by_kind f h (some kind) = h kind

  selected : (unit : ℕ) (b : Bool) → ltb unit unit_count ≡ b → Stays (cond b (some (with_client_unit unit a)) none)
  selected unit true h = ltb-true unit unit_count h
  selected unit false h = low

  stays : (call : ArrayCall) (binding : ℕ) → Stays (accepted_arrays call binding a)
  unfolding accepted_arrays
  stays (vertex_pointer size ty stride pointer) binding = low
  stays (color_pointer size ty stride pointer) binding = low
  stays (normal_pointer ty stride pointer) binding = low
  stays (texcoord_pointer size ty stride pointer) binding = put ArrayKind.TexCoord _
  stays (client_state array on) binding = by_kind _ (λ kind. put kind _) (lookup array_kinds array)
  stays (client_unit unit) binding = selected unit (ltb unit unit_count) refl

pub client_stays : (call : ArrayCall) (binding : ℕ) (a : Arrays) → a.client_active_texture < unit_count → (array_step call binding a).after.client_active_texture < unit_count
unfolding array_step
client_stays call binding a low = stays a low call binding
