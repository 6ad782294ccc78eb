use mathlib.Core.Path.{refl}
use Rattle.context.specs.declared.MatrixMode.{MatrixMode}
use Rattle.context.specs.Rules.{matrix_modes, mode_code}
use Rattle.station.proofs.Parts.{own_code, refuses, both}
use Rattle.station.proofs.is_context.Goals as goal

pub returns-then-is_enumerant : goal.returns-then-is_enumerant
returns-then-is_enumerant c = both ((own_code matrix_modes mode_code MatrixMode.Modelview refl c.is_enumerant.ensures).yes c.if-is_enumerant.true) c.are_settings.ensures

pub returns-else-is_enumerant : goal.returns-else-is_enumerant
returns-else-is_enumerant c =
    rw c.if-is_enumerant.false (refuses (own_code matrix_modes mode_code MatrixMode.Modelview refl c.is_enumerant.ensures) c.if-is_enumerant.false (λ h. h.0))
