-- The pipeline settings (01: "Pipeline settings"): what they are at first, and what each call makes of them.
use Rattle.std.specs.Prelude.{Bool, false, cond, List, [], ◌∷◌, ℕ, ltb, eqb, set, get_or, Float}
use Rattle.std.proofs.Math.Option.{Option, some, none, map, bind}
use Rattle.number.specs.F32.{f0, f1}
use Rattle.number.specs.Numbers.{clamped_unit, whole_part}
use Rattle.pipeline.specs.declared.CompareFunc.{CompareFunc}
use Rattle.pipeline.specs.declared.BlendFactor.{BlendFactor}
use Rattle.pipeline.specs.declared.CullMode.{CullMode}
use Rattle.pipeline.specs.declared.FrontFace.{FrontFace}
use Rattle.pipeline.specs.declared.FogMode.{FogMode}
use Rattle.pipeline.specs.declared.TexEnvMode.{TexEnvMode}
use Rattle.pipeline.specs.declared.Capability.{Capability}
use Rattle.pipeline.specs.declared.FogParameter.{FogParameter}
use Rattle.pipeline.specs.declared.DepthState.{DepthState}
use Rattle.pipeline.specs.declared.AlphaState.{AlphaState}
use Rattle.pipeline.specs.declared.BlendState.{BlendState}
use Rattle.pipeline.specs.declared.CullState.{CullState}
use Rattle.pipeline.specs.declared.FogState.{FogState}
use Rattle.pipeline.specs.declared.TextureUnit.{TextureUnit}
use Rattle.pipeline.specs.declared.Pipeline.{Pipeline}
use Rattle.refusal.specs.Refusals.{Answer, answer}
use Rattle.number.specs.Tables.{lookup}
use Rattle.pipeline.specs.Enums.{compare_funcs, blend_factors, cull_modes, front_faces, fog_modes, tex_env_modes, fog_parameters, capability_of}

-- ---- at first

abbrev pub fresh_unit : TextureUnit
fresh_unit = record { enabled = false; env_mode = TexEnvMode.Modulate; env_color = f0 ∷ f0 ∷ f0 ∷ f0 ∷ [] }

abbrev pub fresh_pipeline : Pipeline
fresh_pipeline =
    record {
      active_texture = 0;
      units = fresh_unit ∷ fresh_unit ∷ fresh_unit ∷ fresh_unit ∷ [];
      depth = record { test = false; func = CompareFunc.Less; near = f0; far = f1 };
      alpha = record { test = false; func = CompareFunc.Always; reference = f0 };
      blend = record { enabled = false; src = BlendFactor.One; dst = BlendFactor.Zero };
      cull = record { enabled = false; mode = CullMode.Back };
      front_face = FrontFace.Ccw;
      fog = record { enabled = false; mode = FogMode.Exp; density = f1; start = f0; end = f1 };
    }

-- ---- one part replaced

abbrev pub with_active : ℕ → Pipeline → Pipeline
with_active unit p =
    record { active_texture = unit; units = p.units; depth = p.depth; alpha = p.alpha; blend = p.blend; cull = p.cull; front_face = p.front_face; fog = p.fog }

abbrev pub with_units : List TextureUnit → Pipeline → Pipeline
with_units us p =
    record { active_texture = p.active_texture; units = us; depth = p.depth; alpha = p.alpha; blend = p.blend; cull = p.cull; front_face = p.front_face; fog = p.fog }

abbrev pub with_depth : DepthState → Pipeline → Pipeline
with_depth d p =
    record { active_texture = p.active_texture; units = p.units; depth = d; alpha = p.alpha; blend = p.blend; cull = p.cull; front_face = p.front_face; fog = p.fog }

abbrev pub with_alpha : AlphaState → Pipeline → Pipeline
with_alpha a p =
    record { active_texture = p.active_texture; units = p.units; depth = p.depth; alpha = a; blend = p.blend; cull = p.cull; front_face = p.front_face; fog = p.fog }

abbrev pub with_blend : BlendState → Pipeline → Pipeline
with_blend b p =
    record { active_texture = p.active_texture; units = p.units; depth = p.depth; alpha = p.alpha; blend = b; cull = p.cull; front_face = p.front_face; fog = p.fog }

abbrev pub with_cull : CullState → Pipeline → Pipeline
with_cull c p =
    record { active_texture = p.active_texture; units = p.units; depth = p.depth; alpha = p.alpha; blend = p.blend; cull = c; front_face = p.front_face; fog = p.fog }

abbrev pub with_face : FrontFace → Pipeline → Pipeline
with_face f p =
    record { active_texture = p.active_texture; units = p.units; depth = p.depth; alpha = p.alpha; blend = p.blend; cull = p.cull; front_face = f; fog = p.fog }

abbrev pub with_fog : FogState → Pipeline → Pipeline
with_fog f p =
    record { active_texture = p.active_texture; units = p.units; depth = p.depth; alpha = p.alpha; blend = p.blend; cull = p.cull; front_face = p.front_face; fog = f }

-- ---- the texture units

-- the unit that texture calls go to; there are four
abbrev pub active_unit : Pipeline → TextureUnit
active_unit p = get_or p.units p.active_texture fresh_unit

abbrev pub put_unit : TextureUnit → Pipeline → Option Pipeline
put_unit u p = cond (ltb p.active_texture 4) (some (with_units (set p.units p.active_texture u) p)) none

-- ---- the calls

pub data PipelineCall : Type 0 where
  active_texture : (unit : ℕ) → PipelineCall
  capability : (cap : ℕ) (on : Bool) → PipelineCall
  tex_env : (pname value : ℕ) → PipelineCall
  tex_env_color : (color : List Float) → PipelineCall
  depth_func : (func : ℕ) → PipelineCall
  depth_range : (near far : Float) → PipelineCall
  alpha_func : (func : ℕ) (reference : Float) → PipelineCall
  blend_func : (src dst : ℕ) → PipelineCall
  cull_face : (mode : ℕ) → PipelineCall
  front_face : (mode : ℕ) → PipelineCall
  fog : (pname : ℕ) (value : Float) → PipelineCall

-- a capability switched on or off; texture 2D is the active unit's. Ignored ones change nothing
abbrev pub switched : Capability → Bool → Pipeline → Option Pipeline
switched Capability.DepthTest on p = some (with_depth (record { test = on; func = p.depth.func; near = p.depth.near; far = p.depth.far }) p)
switched Capability.AlphaTest on p = some (with_alpha (record { test = on; func = p.alpha.func; reference = p.alpha.reference }) p)
switched Capability.Blend on p = some (with_blend (record { enabled = on; src = p.blend.src; dst = p.blend.dst }) p)
switched Capability.CullFace on p = some (with_cull (record { enabled = on; mode = p.cull.mode }) p)
switched Capability.Texture2D on p = put_unit (record { enabled = on; env_mode = (active_unit p).env_mode; env_color = (active_unit p).env_color }) p
switched Capability.Fog on p = some (with_fog (record { enabled = on; mode = p.fog.mode; density = p.fog.density; start = p.fog.start; end = p.fog.end }) p)
switched Capability.Ignored on p = some p

-- a fog value set; a mode counts by its whole part
abbrev pub fog_set : FogParameter → Float → Pipeline → Option Pipeline
fog_set FogParameter.Mode v p =
    map (λ m. with_fog (record { enabled = p.fog.enabled; mode = m; density = p.fog.density; start = p.fog.start; end = p.fog.end }) p)
    (lookup fog_modes (whole_part v))
fog_set FogParameter.Density v p = some (with_fog (record { enabled = p.fog.enabled; mode = p.fog.mode; density = v; start = p.fog.start; end = p.fog.end }) p)
fog_set FogParameter.Start v p = some (with_fog (record { enabled = p.fog.enabled; mode = p.fog.mode; density = p.fog.density; start = v; end = p.fog.end }) p)
fog_set FogParameter.End v p = some (with_fog (record { enabled = p.fog.enabled; mode = p.fog.mode; density = p.fog.density; start = p.fog.start; end = v }) p)

-- the settings after a call, or none where it is refused: an unknown enumerant, or a unit from 4 on
unfoldable pub accepted_pipeline : PipelineCall → Pipeline → Option Pipeline
accepted_pipeline (active_texture unit) p = cond (ltb unit 4) (some (with_active unit p)) none
accepted_pipeline (capability cap on) p = bind (capability_of cap) (λ what. switched what on p)
-- another pname than TEXTURE_ENV_MODE does nothing
accepted_pipeline (tex_env pname value) p =
    cond (eqb pname 0x2200)
    (bind (lookup tex_env_modes value) (λ m. put_unit (record { enabled = (active_unit p).enabled; env_mode = m; env_color = (active_unit p).env_color }) p))
    (some p)
accepted_pipeline (tex_env_color color) p = put_unit (record { enabled = (active_unit p).enabled; env_mode = (active_unit p).env_mode; env_color = color }) p
accepted_pipeline (depth_func func) p =
    map (λ f. with_depth (record { test = p.depth.test; func = f; near = p.depth.near; far = p.depth.far }) p) (lookup compare_funcs func)
accepted_pipeline (depth_range near far) p = some (with_depth (record { test = p.depth.test; func = p.depth.func; near = clamped_unit near; far = clamped_unit far }) p)
-- the reference is clamped to 0 to 1; NaN stays
accepted_pipeline (alpha_func func reference) p =
    map (λ f. with_alpha (record { test = p.alpha.test; func = f; reference = clamped_unit reference }) p) (lookup compare_funcs func)
accepted_pipeline (blend_func src dst) p =
    bind (lookup blend_factors src)
    (λ s. map (λ d. with_blend (record { enabled = p.blend.enabled; src = s; dst = d }) p) (lookup blend_factors dst))
accepted_pipeline (cull_face mode) p = map (λ m. with_cull (record { enabled = p.cull.enabled; mode = m }) p) (lookup cull_modes mode)
accepted_pipeline (front_face mode) p = map (λ f. with_face f p) (lookup front_faces mode)
accepted_pipeline (fog pname value) p = bind (lookup fog_parameters pname) (λ what. fog_set what value p)

-- ---- the answers

-- a refusal changes nothing
abbrev pub pipeline_answered : Option Pipeline → Pipeline → Answer Pipeline
pipeline_answered (some q) p = answer 0 q
pipeline_answered none p = answer 0x0500 p

-- a call's number, and the settings after it
unfoldable pub pipeline_step : PipelineCall → Pipeline → Answer Pipeline
pipeline_step call p = pipeline_answered (accepted_pipeline call p) p
