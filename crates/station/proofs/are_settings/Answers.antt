use mathlib.Core.Path.{refl}
use Rattle.pipeline.specs.declared.CompareFunc.{CompareFunc}
use Rattle.pipeline.specs.declared.BlendFactor.{BlendFactor}
use Rattle.pipeline.specs.declared.CullMode.{CullMode}
use Rattle.pipeline.specs.declared.FrontFace.{FrontFace}
use Rattle.pipeline.specs.declared.FogMode.{FogMode}
use Rattle.pipeline.specs.Enums.{compare_funcs, blend_factors, cull_modes, front_faces, fog_modes, compare_code, blend_code, cull_code, face_code, fog_code}
use Rattle.station.proofs.Parts.{own_code, refuses, depth_func_law, alpha_func_law, src, dst, cull_mode, front_face_law, fog_mode, last_setting}
use Rattle.station.proofs.are_settings.Goals as goal

pub returns-then-not-is_enumerant : goal.returns-then-not-is_enumerant
returns-then-not-is_enumerant c = refuses (own_code compare_funcs compare_code CompareFunc.Never refl c.is_enumerant.ensures) c.if-not-is_enumerant.true (depth_func_law _)

pub returns-then-not-is_enumerant-2 : goal.returns-then-not-is_enumerant-2
returns-then-not-is_enumerant-2 c = refuses (own_code compare_funcs compare_code CompareFunc.Never refl c.is_enumerant-2.ensures) c.if-not-is_enumerant-2.true (alpha_func_law _)

pub returns-then-not-is_enumerant-3 : goal.returns-then-not-is_enumerant-3
returns-then-not-is_enumerant-3 c = refuses (own_code blend_factors blend_code BlendFactor.Zero refl c.is_enumerant-3.ensures) c.if-not-is_enumerant-3.true (src _)

pub returns-then-not-is_enumerant-4 : goal.returns-then-not-is_enumerant-4
returns-then-not-is_enumerant-4 c = refuses (own_code blend_factors blend_code BlendFactor.Zero refl c.is_enumerant-4.ensures) c.if-not-is_enumerant-4.true (dst _)

pub returns-then-not-is_enumerant-5 : goal.returns-then-not-is_enumerant-5
returns-then-not-is_enumerant-5 c = refuses (own_code cull_modes cull_code CullMode.Front refl c.is_enumerant-5.ensures) c.if-not-is_enumerant-5.true (cull_mode _)

pub returns-then-not-is_enumerant-6 : goal.returns-then-not-is_enumerant-6
returns-then-not-is_enumerant-6 c = refuses (own_code front_faces face_code FrontFace.Cw refl c.is_enumerant-6.ensures) c.if-not-is_enumerant-6.true (front_face_law _)

pub returns-then-not-is_enumerant-7 : goal.returns-then-not-is_enumerant-7
returns-then-not-is_enumerant-7 c = refuses (own_code fog_modes fog_code FogMode.Exp refl c.is_enumerant-7.ensures) c.if-not-is_enumerant-7.true (fog_mode _)

pub returns : goal.returns
returns c =
    last_setting _
    ((own_code compare_funcs compare_code CompareFunc.Never refl c.is_enumerant.ensures).yes c.if-not-is_enumerant.false)
    ((own_code compare_funcs compare_code CompareFunc.Never refl c.is_enumerant-2.ensures).yes c.if-not-is_enumerant-2.false)
    ((own_code blend_factors blend_code BlendFactor.Zero refl c.is_enumerant-3.ensures).yes c.if-not-is_enumerant-3.false)
    ((own_code blend_factors blend_code BlendFactor.Zero refl c.is_enumerant-4.ensures).yes c.if-not-is_enumerant-4.false)
    ((own_code cull_modes cull_code CullMode.Front refl c.is_enumerant-5.ensures).yes c.if-not-is_enumerant-5.false)
    ((own_code front_faces face_code FrontFace.Cw refl c.is_enumerant-6.ensures).yes c.if-not-is_enumerant-6.false)
    ((own_code fog_modes fog_code FogMode.Exp refl c.is_enumerant-7.ensures).yes c.if-not-is_enumerant-7.false)
    c.are_units.ensures
