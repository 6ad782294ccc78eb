use mathlib.Core.Path.{refl}
use Rattle.std.specs.Prelude.{Ok, Err}
use Rattle.station.proofs.Parts.{same}
use Rattle.station.proofs.is_enumerant.Goals as goal

pub returns-in-Ok : goal.returns-in-Ok
returns-in-Ok g c = (Ok c.in-Ok.a, (c.in-Ok.ensures, (c.from.result, (c.from.ensures, same refl))))

pub returns-in-Err : goal.returns-in-Err
returns-in-Err g c = (Err c.in-Err.field-0, (c.in-Err.ensures, refl))
