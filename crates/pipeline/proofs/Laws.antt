-- What holds of every pipeline call, for the crates above. Assumes nothing.
use mathlib.Core.Path.{◌≡◌, refl}
use mathlib.Core.Bool.{Bool, true, false, cond}
use mathlib.Core.Logic.{◌⊎◌, inl, inr}
use mathlib.Core.Option.{Option, some, none, map, bind}
use Prim.Native.Nat.{ℕ, ◌<◌, ◌≤◌}
use lib.Dec.{ltb, eqb}
use lib.Ieee.{Float, binary32, of_bits, to_unsigned}
use borrow.Author.Tests.{le-leb, lt-ltb, ltb-true}
use Rattle.pipeline.specs.declared.FogMode.{FogMode}
use Rattle.pipeline.specs.declared.TextureUnit.{TextureUnit}
use Rattle.pipeline.specs.declared.Pipeline.{Pipeline}
use Rattle.pipeline.specs.declared.Capability.{Capability}
use Rattle.pipeline.specs.declared.FogParameter.{FogParameter}
use Rattle.number.specs.Tables.{lookup}
use Rattle.pipeline.specs.Enums.{compare_funcs, blend_factors, cull_modes, front_faces, fog_modes, tex_env_modes, fog_parameters, in_ignored_range, capability_of}
use Rattle.pipeline.specs.Pipeline.{fresh_pipeline, PipelineCall, active_texture, capability, tex_env, tex_env_color, depth_func, depth_range, alpha_func, blend_func}
use Rattle.pipeline.specs.Pipeline.{cull_face, front_face, fog, with_active, put_unit, switched, fog_set, accepted_pipeline, pipeline_answered, pipeline_step}
use Rattle.number.specs.Numbers.{whole_part}
use Rattle.refusal.specs.Refusals.{answer}

-- ---- a call is done, or refused with nothing changed

answered_keeps : (o : Option Pipeline) (p : Pipeline) → ((pipeline_answered o p).number ≡ 0) ⊎ (((pipeline_answered o p).number ≡ 0x0500) × ((pipeline_answered o p).after ≡ p))
answered_keeps (some q) p = inl refl
answered_keeps none p = inr (refl, refl)

pub refusal_keeps : (call : PipelineCall) (p : Pipeline) → ((pipeline_step call p).number ≡ 0) ⊎ (((pipeline_step call p).number ≡ 0x0500) × ((pipeline_step call p).after ≡ p))
unfolding pipeline_step
refusal_keeps call p = answered_keeps (accepted_pipeline call p) p

-- ---- the active unit stays below 4

pub fresh_active : fresh_pipeline.active_texture ≡ 0
fresh_active = refl

module _ (p : Pipeline) (low : p.active_texture < 4) where
  abbrev Stays : Option Pipeline → Type 0
  Stays o = (pipeline_answered o p).after.active_texture < 4

  by_choice : {A : Type 0} (f : A → Pipeline) → ((a : A) → (f a).active_texture < 4) → (o : Option A) → Stays (map f o)
  by_choice f h none = low
  by_choice f h (some a) = h a

  by_two : {A : Type 0} (f : A → Option Pipeline) → ((a : A) → Stays (f a)) → (o : Option A) → Stays (bind o f)
  unfolding bind
  by_two f h none = low
  by_two f h (some a) = h a

  by_test : (b : Bool) (o : Option Pipeline) → Stays o → Stays (cond b o (some p))
  by_test true o h = h
  by_test false o h = low

  selected : (unit : ℕ) (b : Bool) → ltb unit 4 ≡ b → Stays (cond b (some (with_active unit p)) none)
  selected unit true h = ltb-true unit 4 h
  selected unit false h = low

  put : (u : TextureUnit) → Stays (put_unit u p)
  put u = rw (lt-ltb _ _ low) low

  by_switch : (what : Capability) (on : Bool) → Stays (switched what on p)
  by_switch Capability.DepthTest on = low
  by_switch Capability.AlphaTest on = low
  by_switch Capability.Blend on = low
  by_switch Capability.CullFace on = low
  by_switch Capability.Texture2D on = put _
  by_switch Capability.Fog on = low
  by_switch Capability.Ignored on = low

  by_fog : (what : FogParameter) (v : Float) → Stays (fog_set what v p)
  by_fog FogParameter.Mode v = by_choice _ (λ m. low) (lookup fog_modes (whole_part v))
  by_fog FogParameter.Density v = low
  by_fog FogParameter.Start v = low
  by_fog FogParameter.End v = low

  stays : (call : PipelineCall) → Stays (accepted_pipeline call p)
  unfolding accepted_pipeline
  stays (active_texture unit) = selected unit (ltb unit 4) refl
  stays (capability cap on) = by_two _ (λ what. by_switch what on) (capability_of cap)
  stays (tex_env pname value) = by_test (eqb pname 0x2200) _ (by_two _ (λ m. put _) (lookup tex_env_modes value))
  stays (tex_env_color color) = put _
  stays (depth_func func) = by_choice _ (λ f. low) (lookup compare_funcs func)
  stays (depth_range near far) = low
  stays (alpha_func func reference) = by_choice _ (λ f. low) (lookup compare_funcs func)
  stays (blend_func src dst) = by_two _ (λ s. by_choice _ (λ d. low) (lookup blend_factors dst)) (lookup blend_factors src)
  stays (cull_face mode) = by_choice _ (λ m. low) (lookup cull_modes mode)
  stays (front_face mode) = by_choice _ (λ f. low) (lookup front_faces mode)
  stays (fog pname value) = by_two _ (λ what. by_fog what value) (lookup fog_parameters pname)

pub active_stays : (call : PipelineCall) (p : Pipeline) → p.active_texture < 4 → (pipeline_step call p).after.active_texture < 4
unfolding pipeline_step
active_stays call p low = stays p low call

-- ---- capabilities by a range, and a fog mode by its whole part

pub in_range : (cap : ℕ) → 0x4000 ≤ cap → cap ≤ 0x400F → in_ignored_range cap ≡ true
in_range cap l h = rw (le-leb 0x4000 cap l, le-leb cap 0x400F h)

pub range_ignored : (cap : ℕ) (on : Bool) (p : Pipeline) → 0x4000 ≤ cap → cap ≤ 0x400F → pipeline_step (capability cap on) p ≡ answer 0 p
unfolding pipeline_step accepted_pipeline bind
range_ignored cap on p l h = rw (in_range cap l h)

-- 2048.9 is 0x0800
pub fog_2048_9 : (p : Pipeline) → (pipeline_step (fog 0x0B65 (of_bits binary32 0x4500_0e66)) p).after.fog.mode ≡ FogMode.Exp
unfolding pipeline_step accepted_pipeline bind of_bits to_unsigned
fog_2048_9 p = refl
