-- The current values (01: "Records", "Pointers and attributes"): what they are at first, and what each call makes of them.
use Rattle.std.specs.Prelude.{cond, List, [], ◌∷◌, ℕ, ◌-◌, ltb, Float, set, replicate}
use Rattle.number.specs.F32.{f0, f1}
use Rattle.arrays.specs.Arrays.{unit_count}
use Rattle.arrays.specs.declared.Pair.{Pair}
use Rattle.arrays.specs.declared.Attributes.{Attributes}
use Rattle.refusal.specs.Refusals.{Answer, answer}

abbrev pub no_pair : Pair
no_pair = record { s = f0; t = f0 }

-- colour 1,1,1,1 and all pairs 0,0
abbrev pub fresh_attributes : Attributes
fresh_attributes = record { color = f1 ∷ f1 ∷ f1 ∷ f1 ∷ []; pairs = replicate unit_count no_pair }

pub data AttributeCall : Type 0 where
  color : (value : List Float) → AttributeCall
  multi_texcoord : (unit : ℕ) (s t : Float) → AttributeCall

-- the unit that a code stands for: 0x84C0 plus the unit; less is unit 0
abbrev pub unit_of : ℕ → ℕ
unit_of code = code - 0x84C0

-- a call's number, and the values after it; a refusal, of a unit from 4 on, changes nothing
unfoldable pub attribute_step : AttributeCall → Attributes → Answer Attributes
attribute_step (color value) a = answer 0 (record { color = value; pairs = a.pairs })
attribute_step (multi_texcoord unit s t) a =
    cond (ltb (unit_of unit) unit_count)
    (answer 0 (record { color = a.color; pairs = set a.pairs (unit_of unit) (record { s = s; t = t }) }))
    (answer 0x0500 a)
