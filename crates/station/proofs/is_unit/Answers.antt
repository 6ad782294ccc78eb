use mathlib.Core.Path.{refl}
use Rattle.pipeline.specs.declared.TexEnvMode.{TexEnvMode}
use Rattle.pipeline.specs.Enums.{tex_env_modes, env_code}
use Rattle.station.proofs.Parts.{own_code}
use Rattle.station.proofs.is_unit.Goals as goal

pub returns : goal.returns
returns c = own_code tex_env_modes env_code TexEnvMode.Modulate refl c.is_enumerant.ensures
