-- The context that is kept is had back.
--     back      context_from (kept_of c) ≡ c
--     encodes   what is kept of a context are the numbers of one
-- Assumes nothing.
use mathlib.Core.Path.{◌≡◌, refl, sym, ap, subst, subst⁻¹, ◌∙◌}
use mathlib.Core.List.{List, [], ◌∷◌, map}
use Prim.Native.Nat.{ℕ}
use lib.Dec.{eqb}
use lib.ListN.{length}
use lib.Ieee.{Float}
use Rattle.pipeline.specs.declared.CompareFunc.{CompareFunc}
use Rattle.pipeline.specs.declared.BlendFactor.{BlendFactor}
use Rattle.pipeline.specs.declared.CullMode.{CullMode}
use Rattle.pipeline.specs.declared.FrontFace.{FrontFace}
use Rattle.pipeline.specs.declared.FogMode.{FogMode}
use Rattle.pipeline.specs.declared.TexEnvMode.{TexEnvMode}
use Rattle.pipeline.specs.declared.TextureUnit.{TextureUnit}
use Rattle.pipeline.specs.declared.Pipeline.{Pipeline}
use Rattle.context.specs.declared.MatrixMode.{MatrixMode}
use Rattle.context.specs.declared.Context.{Context}
use Rattle.context.specs.State.{State, Fresh}
use Rattle.pipeline.specs.Pipeline.{fresh_pipeline}
use Rattle.list_runner.specs.declared.ListReply.{ListReply}
use Rattle.list_runner.specs.Run.{MakesList}
use Rattle.station.specs.declared.Kept.{Kept}
use Rattle.station.specs.declared.KeptSettings.{KeptSettings}
use Rattle.station.specs.declared.StationReply.{StationReply}
use Rattle.station.specs.Kept.{mode_code, compare_code, blend_code, cull_code, face_code, fog_code, env_code, mode_from, compare_from, blend_from, cull_from, face_from, fog_from}
use Rattle.station.specs.Kept.{env_from, kept_unit, unit_from, kept_settings, settings_from, kept_of, context_from}
use Rattle.station.specs.Boundary.{Encodes, FreshKept, Refused, Ran}
use Rattle.station.specs.BoundaryCode.{answer_in}

mode_back : (m : MatrixMode) → mode_from (mode_code m) ≡ m
mode_back MatrixMode.Modelview = refl
mode_back MatrixMode.Projection = refl
mode_back MatrixMode.Texture = refl

compare_back : (f : CompareFunc) → compare_from (compare_code f) ≡ f
compare_back CompareFunc.Never = refl
compare_back CompareFunc.Less = refl
compare_back CompareFunc.Equal = refl
compare_back CompareFunc.Lequal = refl
compare_back CompareFunc.Greater = refl
compare_back CompareFunc.Notequal = refl
compare_back CompareFunc.Gequal = refl
compare_back CompareFunc.Always = refl

blend_back : (f : BlendFactor) → blend_from (blend_code f) ≡ f
blend_back BlendFactor.Zero = refl
blend_back BlendFactor.One = refl
blend_back BlendFactor.SrcColor = refl
blend_back BlendFactor.OneMinusSrcColor = refl
blend_back BlendFactor.SrcAlpha = refl
blend_back BlendFactor.OneMinusSrcAlpha = refl
blend_back BlendFactor.DstAlpha = refl
blend_back BlendFactor.OneMinusDstAlpha = refl
blend_back BlendFactor.DstColor = refl
blend_back BlendFactor.OneMinusDstColor = refl
blend_back BlendFactor.SrcAlphaSaturate = refl

cull_back : (m : CullMode) → cull_from (cull_code m) ≡ m
cull_back CullMode.Front = refl
cull_back CullMode.Back = refl
cull_back CullMode.FrontAndBack = refl

face_back : (m : FrontFace) → face_from (face_code m) ≡ m
face_back FrontFace.Cw = refl
face_back FrontFace.Ccw = refl

fog_back : (m : FogMode) → fog_from (fog_code m) ≡ m
fog_back FogMode.Linear = refl
fog_back FogMode.Exp = refl
fog_back FogMode.Exp2 = refl

env_back : (m : TexEnvMode) → env_from (env_code m) ≡ m
env_back TexEnvMode.Modulate = refl
env_back TexEnvMode.Replace = refl
env_back TexEnvMode.Decal = refl
env_back TexEnvMode.Blend = refl
env_back TexEnvMode.Add = refl

unit_back : (u : TextureUnit) → unit_from (kept_unit u) ≡ u
unit_back u = rw (env_back u.env_mode)

units_back : (us : List TextureUnit) → map unit_from (map kept_unit us) ≡ us
units_back [] = refl
units_back (u ∷ us) = rw (unit_back u, units_back us)

settings_back : (p : Pipeline) → settings_from (kept_settings p) ≡ p
unfolding settings_from kept_settings
settings_back p =
    rw (
      units_back p.units,
      compare_back p.depth.func,
      compare_back p.alpha.func,
      blend_back p.blend.src,
      blend_back p.blend.dst,
      cull_back p.cull.mode,
      face_back p.front_face,
      fog_back p.fog.mode,
    )

pub back : (c : Context) → context_from (kept_of c) ≡ c
back c = rw (mode_back c.mode, settings_back c.pipeline)

pub encodes : (c : Context) → Encodes (kept_of c)
encodes c = ap kept_of (back c)

-- ---- what the functions by value promise

-- the numbers of a fresh context, with the fresh settings
pub fresh_kept : {c : Context} {settings : KeptSettings} → Fresh c → settings ≡ kept_settings fresh_pipeline
    → FreshKept (record {
      mode = mode_code MatrixMode.Modelview;
      stacks = c.stacks;
      buffers = c.buffers;
      arrays = c.arrays;
      attributes = c.attributes;
      settings =
          settings;
      error = 0;
    })
fresh_kept {c = c} {settings = settings} f e =
    let state = f.state [] in
    let m : mode_code c.mode ≡ mode_code MatrixMode.Modelview = ap (λ (x : State). mode_code x.mode) state in
    let p : kept_settings c.pipeline ≡ settings = ap (λ (x : State). kept_settings x.pipeline) state ∙ sym e in
    let z : c.error ≡ 0 = ap (λ (x : State). x.error) state in
    subst FreshKept
    (λ i. record { mode = m i; stacks = c.stacks; buffers = c.buffers; arrays = c.arrays; attributes = c.attributes; settings = p i; error = z i })
    (record { fresh = subst⁻¹ Fresh (back c) f; encodes = encodes c })

pub had_run : {k : Kept} {s words bytes : List ℕ} {out : List Float} {c : Context} {l : ListReply} {r : StationReply} {k1 : Kept} {s1 : List ℕ} {out1 : List Float}
    → Encodes k → c ≡ context_from k → MakesList c words bytes s out l s1 out1 → r ≡ answer_in (eqb l.read (length words)) l.number l.value l.made
    → k1 ≡ kept_of l.context
    → Ran k s words bytes out r k1 s1 out1
had_run {s = s} {words = words} {bytes = bytes} {out = out} {l = l} {s1 = s1} {out1 = out1} is e p a e1 =
    record {
      refused = λ n. absurd (n is);
      made = λ _. record { list = l; makes = subst (λ (x : Context). MakesList x words bytes s out l s1 out1) e p; answer = a; kept = e1 };
    }

-- ---- a list on numbers that are no context's

pub run_refused : {k : Kept} {s words bytes : List ℕ} {out : List Float} {n : ℕ} → (Encodes k → ⊥) → n ≡ 1
    → Ran k s words bytes out (record { number = n; value = 0; made = 0 }) k s out
run_refused {k = k} {s = s} {out = out} is e =
    record {
      refused = λ _. rw e (record { answer = refl; kept = refl; store = refl; output = refl });
      made = λ i. absurd (is i);
    }
