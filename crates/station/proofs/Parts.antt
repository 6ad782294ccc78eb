-- Whether numbers are those of a context, part by part. Assumes nothing.
use mathlib.Core.Bool.{Bool, true, false}
use mathlib.Core.List.{List, [], ◌∷◌, map}
use mathlib.Core.Path.{◌≡◌, refl, ap, sym, ◌∙◌}
use Prim.Native.Nat.{ℕ, zero, suc, ◌<◌}
use native.Mathlib.Omega.{arith}
use lib.Dec.{eqb}
use lib.ListN.{length, get_or, drop}
use mathlib.Core.Option.{some}
use mathlib.Core.Option as option
use Rattle.std.specs.Result.{result_unwrap_or}
use borrow.Author.Tests.{eqb-true, eqb-false}
use Rattle.std.specs.Prelude.{Result, Ok, Err, MatchBool}
use Rattle.std.specs.List.{AllWithin, HoldsAt}
use Rattle.number.specs.Decides.{Decides}
use Rattle.number.specs.Tables.{Row, lookup, row_or}
use Rattle.refusal.specs.declared.UnknownEnum.{UnknownEnum}
use Rattle.refusal.specs.EnumerantsCode.{Decodes}
use Rattle.context.proofs.Entries.{part_unsound}
use Rattle.station.specs.declared.KeptUnit.{KeptUnit}
use Rattle.station.specs.declared.KeptSettings.{KeptSettings}
use Rattle.station.specs.declared.Kept.{Kept}
use Rattle.station.specs.Kept.{mode_code, compare_code, blend_code, cull_code, face_code, fog_code, env_code, mode_from, compare_from, blend_from, cull_from, face_from, fog_from}
use Rattle.station.specs.Kept.{env_from, kept_unit, unit_from, kept_settings, settings_from}
use Rattle.station.specs.Boundary.{Encodes}
use Rattle.station.specs.BoundaryCode.{HasCode, IsOwnCode, UnitEncodes, PartsEncode}

-- a number that is asked for itself
pub same : {x y code : ℕ} → x ≡ y → Decides (y ≡ code) (eqb x code)
same {x} {y} {code} e = record { yes = λ t. sym e ∙ eqb-true x code t; no = λ f h. eqb-false x code f (e ∙ h) }

-- the choice of a number, or the first of its table
pub chosen : {A : Type 0} {x : A} (rows : List (Row A)) (code : ℕ) (r : Result A UnknownEnum) (first : A) → x ≡ result_unwrap_or r first
    → Decodes rows code r → x ≡ row_or rows code first
chosen rows code (Ok a) first u e = u ∙ ap (λ o. option.get_or o first) e
chosen rows code (Err x) first u e = u ∙ ap (λ o. option.get_or o first) e

-- a table's choices: the number is the choice's own, as `is_enumerant` says
module _ {A : Type 0} (rows : List (Row A)) (code_of : A → ℕ) (first : A) (known : lookup rows (code_of first) ≡ some first) where
  own : (code : ℕ) (b : Bool) (r : Result A UnknownEnum) → Decodes rows code r → HasCode (λ a n. n ≡ code_of a) code b r
      → Decides (code_of (row_or rows code first) ≡ code) b
  own code b (Ok a) e h = rw (← e) (record { yes = λ t. sym h.1.0 ∙ h.1.1.yes t; no = λ f q. h.1.1.no f (h.1.0 ∙ q) })
  own code b (Err x) e h = rw (← e) (record { yes = λ t. cc; no = λ f q. cc })

  pub own_code : {code : ℕ} {b : Bool} → IsOwnCode (Decodes rows) (λ a n. n ≡ code_of a) code b → Decides (code_of (row_or rows code first) ≡ code) b
  own_code {code} {b} h = own code b h.0 h.1.0 h.1.1

-- a part that is no context's
pub refuses : {P Q : Type 0} {b : Bool} → Decides P b → b ≡ false → (Q → P) → Decides Q false
refuses d e f = part_unsound (λ q. d.no e (f q))

-- ---- the units

each_unit : (us : List KeptUnit) (d : KeptUnit) (i : ℕ) → i < length us → map kept_unit (map unit_from us) ≡ us → UnitEncodes (get_or us i d)
each_unit [] d i h e = absurd (omega (arith, h))
each_unit (u ∷ us) d zero h e = ap (λ (l : List KeptUnit). (get_or l 0 d).env_mode) e
each_unit (u ∷ us) d (suc i) h e = each_unit us d i (omega (arith, h)) (ap (drop 1) e)

unit_same : (u : KeptUnit) → UnitEncodes u → kept_unit (unit_from u) ≡ u
unit_same u h = rw h

all_units : (us : List KeptUnit) → ((d : KeptUnit) (i : ℕ) → i < length us → UnitEncodes (get_or us i d)) → map kept_unit (map unit_from us) ≡ us
all_units [] h = refl
all_units (u ∷ us) h = rw (unit_same u (h u 0 (omega arith)), all_units us (λ d i l. h d (suc i) (omega (arith, l))))

abbrev no_unit : KeptUnit
no_unit = record { enabled = false; env_mode = 0; env_color = [] }

-- each unit is asked, up to the first that is no context's
pub units_asked : (us : List KeptUnit) {b : Bool} → MatchBool b (AllWithin UnitEncodes us 0 (length us)) ((k : ℕ) × (k < length us) × HoldsAt (λ u. UnitEncodes u → ⊥) us k)
    → Decides (map kept_unit (map unit_from us) ≡ us) b
units_asked us {b = true} h = record { yes = λ t. all_units us (λ d i l. h i d (omega arith) l); no = λ f. cc }
units_asked us {b = false} h = record { yes = λ t. cc; no = λ f e. h.2 no_unit (each_unit us no_unit h.0 h.1 e) }

-- ---- the settings

module _ (k : KeptSettings) where
  abbrev pub SettingsEncode : Type 0
  SettingsEncode = kept_settings (settings_from k) ≡ k

  pub depth_func_law : SettingsEncode → compare_code (compare_from k.depth_func) ≡ k.depth_func
  unfolding kept_settings settings_from
  depth_func_law h = ap (λ (x : KeptSettings). x.depth_func) h

  pub alpha_func_law : SettingsEncode → compare_code (compare_from k.alpha_func) ≡ k.alpha_func
  unfolding kept_settings settings_from
  alpha_func_law h = ap (λ (x : KeptSettings). x.alpha_func) h

  pub src : SettingsEncode → blend_code (blend_from k.src) ≡ k.src
  unfolding kept_settings settings_from
  src h = ap (λ (x : KeptSettings). x.src) h

  pub dst : SettingsEncode → blend_code (blend_from k.dst) ≡ k.dst
  unfolding kept_settings settings_from
  dst h = ap (λ (x : KeptSettings). x.dst) h

  pub cull_mode : SettingsEncode → cull_code (cull_from k.cull_mode) ≡ k.cull_mode
  unfolding kept_settings settings_from
  cull_mode h = ap (λ (x : KeptSettings). x.cull_mode) h

  pub front_face_law : SettingsEncode → face_code (face_from k.front_face) ≡ k.front_face
  unfolding kept_settings settings_from
  front_face_law h = ap (λ (x : KeptSettings). x.front_face) h

  pub fog_mode : SettingsEncode → fog_code (fog_from k.fog_mode) ≡ k.fog_mode
  unfolding kept_settings settings_from
  fog_mode h = ap (λ (x : KeptSettings). x.fog_mode) h

  units : SettingsEncode → map kept_unit (map unit_from k.units) ≡ k.units
  unfolding kept_settings settings_from
  units h = ap (λ (x : KeptSettings). x.units) h

  all_settings : compare_code (compare_from k.depth_func) ≡ k.depth_func → compare_code (compare_from k.alpha_func) ≡ k.alpha_func
      → blend_code (blend_from k.src) ≡ k.src → blend_code (blend_from k.dst) ≡ k.dst
      → cull_code (cull_from k.cull_mode) ≡ k.cull_mode → face_code (face_from k.front_face) ≡ k.front_face → fog_code (fog_from k.fog_mode) ≡ k.fog_mode
      → map kept_unit (map unit_from k.units) ≡ k.units → SettingsEncode
  unfolding kept_settings settings_from
  all_settings d a s t c f g u = rw (d, a, s, t, c, f, g, u)

  pub last_setting : {b : Bool} → compare_code (compare_from k.depth_func) ≡ k.depth_func → compare_code (compare_from k.alpha_func) ≡ k.alpha_func
      → blend_code (blend_from k.src) ≡ k.src → blend_code (blend_from k.dst) ≡ k.dst
      → cull_code (cull_from k.cull_mode) ≡ k.cull_mode → face_code (face_from k.front_face) ≡ k.front_face → fog_code (fog_from k.fog_mode) ≡ k.fog_mode
      → Decides (map kept_unit (map unit_from k.units) ≡ k.units) b → Decides SettingsEncode b
  last_setting d a s t c f g u = record { yes = λ e. all_settings d a s t c f g (u.yes e); no = λ e h. u.no e (units h) }

-- ---- the context

pub both : {mode : ℕ} {k : KeptSettings} {b : Bool} → mode_code (mode_from mode) ≡ mode → Decides (SettingsEncode k) b → Decides (PartsEncode mode k) b
both m s = record { yes = λ e. (m, s.yes e); no = λ e h. s.no e h.1 }

pub whole : (k : Kept) → PartsEncode k.mode k.settings → Encodes k
whole k h = rw (h.0, h.1)

pub apart : (k : Kept) → Encodes k → PartsEncode k.mode k.settings
apart k h = (ap (λ (x : Kept). x.mode) h, ap (λ (x : Kept). x.settings) h)
