-- The numbers of the choices, as the GL ES headers give them.
use Rattle.std.specs.Prelude.{Bool, cond, ◌&&◌, List, [], ◌∷◌, ◌++◌, ℕ, leb}
use Rattle.std.proofs.Math.Option.{Option, some, none, get_or}
use Rattle.number.specs.Tables.{Row, ◌names◌, lookup}
use Rattle.pipeline.specs.declared.CompareFunc.{CompareFunc}
use Rattle.pipeline.specs.declared.BlendFactor.{BlendFactor}
use Rattle.pipeline.specs.declared.CullMode.{CullMode}
use Rattle.pipeline.specs.declared.FrontFace.{FrontFace}
use Rattle.pipeline.specs.declared.FogMode.{FogMode}
use Rattle.pipeline.specs.declared.TexEnvMode.{TexEnvMode}
use Rattle.pipeline.specs.declared.Capability.{Capability}
use Rattle.pipeline.specs.declared.FogParameter.{FogParameter}

abbrev pub compare_funcs : List (Row CompareFunc)
compare_funcs =
    0x0200 names CompareFunc.Never
    ∷ 0x0201 names CompareFunc.Less
    ∷ 0x0202 names CompareFunc.Equal
    ∷ 0x0203 names CompareFunc.Lequal
    ∷ 0x0204 names CompareFunc.Greater
    ∷ 0x0205 names CompareFunc.Notequal
    ∷ 0x0206 names CompareFunc.Gequal
    ∷ 0x0207 names CompareFunc.Always
    ∷ []

abbrev pub blend_factors : List (Row BlendFactor)
blend_factors =
    0 names BlendFactor.Zero
    ∷ 1 names BlendFactor.One
    ∷ 0x0300 names BlendFactor.SrcColor
    ∷ 0x0301 names BlendFactor.OneMinusSrcColor
    ∷ 0x0302 names BlendFactor.SrcAlpha
    ∷ 0x0303 names BlendFactor.OneMinusSrcAlpha
    ∷ 0x0304 names BlendFactor.DstAlpha
    ∷ 0x0305 names BlendFactor.OneMinusDstAlpha
    ∷ 0x0306 names BlendFactor.DstColor
    ∷ 0x0307 names BlendFactor.OneMinusDstColor
    ∷ 0x0308 names BlendFactor.SrcAlphaSaturate
    ∷ []

abbrev pub cull_modes : List (Row CullMode)
cull_modes = 0x0404 names CullMode.Front ∷ 0x0405 names CullMode.Back ∷ 0x0408 names CullMode.FrontAndBack ∷ []

abbrev pub front_faces : List (Row FrontFace)
front_faces = 0x0900 names FrontFace.Cw ∷ 0x0901 names FrontFace.Ccw ∷ []

abbrev pub fog_modes : List (Row FogMode)
fog_modes = 0x0800 names FogMode.Exp ∷ 0x0801 names FogMode.Exp2 ∷ 0x2601 names FogMode.Linear ∷ []

-- BLEND has the number of the capability; COMBINE, 0x8570, is kept as MODULATE
abbrev pub tex_env_modes : List (Row TexEnvMode)
tex_env_modes =
    0x2100 names TexEnvMode.Modulate
    ∷ 0x1E01 names TexEnvMode.Replace
    ∷ 0x2101 names TexEnvMode.Decal
    ∷ 0x0BE2 names TexEnvMode.Blend
    ∷ 0x0104 names TexEnvMode.Add
    ∷ 0x8570 names TexEnvMode.Modulate
    ∷ []

abbrev pub fog_parameters : List (Row FogParameter)
fog_parameters =
    0x0B62 names FogParameter.Density
    ∷ 0x0B63 names FogParameter.Start
    ∷ 0x0B64 names FogParameter.End
    ∷ 0x0B65 names FogParameter.Mode
    ∷ []

abbrev pub switches : List (Row Capability)
switches =
    0x0B71 names Capability.DepthTest
    ∷ 0x0BC0 names Capability.AlphaTest
    ∷ 0x0BE2 names Capability.Blend
    ∷ 0x0B44 names Capability.CullFace
    ∷ 0x0DE1 names Capability.Texture2D
    ∷ 0x0B60 names Capability.Fog
    ∷ []

-- accepted, and nothing changes: lighting, color material, stencil, normalize, dither, scissor, polygon offset fill
abbrev pub ignored : List (Row Capability)
ignored =
    0x0B50 names Capability.Ignored
    ∷ 0x0B57 names Capability.Ignored
    ∷ 0x0B90 names Capability.Ignored
    ∷ 0x0BA1 names Capability.Ignored
    ∷ 0x0BD0 names Capability.Ignored
    ∷ 0x0C11 names Capability.Ignored
    ∷ 0x8037 names Capability.Ignored
    ∷ []

-- caps 0x4000 to 0x400F are accepted and change nothing
abbrev pub in_ignored_range : ℕ → Bool
in_ignored_range cap = leb 0x4000 cap && leb cap 0x400F

abbrev pub capability_of : ℕ → Option Capability
capability_of cap = cond (in_ignored_range cap) (some Capability.Ignored) (lookup (switches ++ ignored) cap)

-- ---- a choice's number

abbrev pub compare_code : CompareFunc → ℕ
compare_code CompareFunc.Never = 0x0200
compare_code CompareFunc.Less = 0x0201
compare_code CompareFunc.Equal = 0x0202
compare_code CompareFunc.Lequal = 0x0203
compare_code CompareFunc.Greater = 0x0204
compare_code CompareFunc.Notequal = 0x0205
compare_code CompareFunc.Gequal = 0x0206
compare_code CompareFunc.Always = 0x0207

abbrev pub blend_code : BlendFactor → ℕ
blend_code BlendFactor.Zero = 0
blend_code BlendFactor.One = 1
blend_code BlendFactor.SrcColor = 0x0300
blend_code BlendFactor.OneMinusSrcColor = 0x0301
blend_code BlendFactor.SrcAlpha = 0x0302
blend_code BlendFactor.OneMinusSrcAlpha = 0x0303
blend_code BlendFactor.DstAlpha = 0x0304
blend_code BlendFactor.OneMinusDstAlpha = 0x0305
blend_code BlendFactor.DstColor = 0x0306
blend_code BlendFactor.OneMinusDstColor = 0x0307
blend_code BlendFactor.SrcAlphaSaturate = 0x0308

abbrev pub cull_code : CullMode → ℕ
cull_code CullMode.Front = 0x0404
cull_code CullMode.Back = 0x0405
cull_code CullMode.FrontAndBack = 0x0408

abbrev pub face_code : FrontFace → ℕ
face_code FrontFace.Cw = 0x0900
face_code FrontFace.Ccw = 0x0901

abbrev pub fog_code : FogMode → ℕ
fog_code FogMode.Exp = 0x0800
fog_code FogMode.Exp2 = 0x0801
fog_code FogMode.Linear = 0x2601

abbrev pub env_code : TexEnvMode → ℕ
env_code TexEnvMode.Modulate = 0x2100
env_code TexEnvMode.Replace = 0x1E01
env_code TexEnvMode.Decal = 0x2101
env_code TexEnvMode.Blend = 0x0BE2
env_code TexEnvMode.Add = 0x0104
