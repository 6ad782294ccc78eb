-- What only the code needs: the questions and answers in the parts that it has.
use Rattle.std.specs.Prelude.{Bool, false, cond, ◌≡◌, ℕ, Result, Ok, Err}
use Rattle.number.specs.Decides.{Decides}
use Rattle.refusal.specs.declared.UnknownEnum.{UnknownEnum}
use Rattle.station.specs.declared.Kept.{Kept}
use Rattle.station.specs.declared.KeptUnit.{KeptUnit}
use Rattle.station.specs.declared.KeptSettings.{KeptSettings}
use Rattle.station.specs.declared.StationReply.{StationReply}
use Rattle.station.specs.Kept.{mode_code, mode_from, env_code, env_from, kept_settings, settings_from}
use Rattle.station.specs.Boundary.{refusal}

-- mode and settings are a context's; the other parts always are
abbrev pub PartsEncode : ℕ → KeptSettings → Type 0
PartsEncode mode settings = (mode_code (mode_from mode) ≡ mode) × (kept_settings (settings_from settings) ≡ settings)

-- a unit of the settings is one of a context
abbrev pub UnitEncodes : KeptUnit → Type 0
UnitEncodes u = env_code (env_from u.env_mode) ≡ u.env_mode

-- whether the choice found, if any, has that code
abbrev pub HasCode : {A : Type 0} → (A → ℕ → Type 0) → ℕ → Bool → Result A UnknownEnum → Type 0
HasCode from code is (Ok a) = (n : ℕ) × (from a n × Decides (n ≡ code) is)
HasCode from code is (Err e) = is ≡ false

-- the code is a choice's own, by the conversions there and back
abbrev pub IsOwnCode : {A : Type 0} → (ℕ → Result A UnknownEnum → Type 0) → (A → ℕ → Type 0) → ℕ → Bool → Type 0
IsOwnCode {A = A} gives from code is = (r : Result A UnknownEnum) × (gives code r × HasCode from code is r)

-- `answer_of` of the parts of a list's answer; whole: all words were read
abbrev pub answer_in : Bool → ℕ → ℕ → ℕ → StationReply
answer_in whole n value made = cond whole (record { number = n; value = value; made = made }) (record { number = 23; value = 0; made = made })
