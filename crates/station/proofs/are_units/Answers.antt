use Rattle.std.proofs.Common.{rules, tests}
use Rattle.std.proofs.lemmas.Iterator.{cases_from_all, YieldsList-from_slice}
use Rattle.station.specs.BoundaryCode.{UnitEncodes}
use Rattle.station.proofs.Parts.{units_asked}
use Rattle.station.proofs.are_units.Goals as goal

pub returns : goal.returns
returns c =
    units_asked c.args.us
    (cases_from_all _ _ _ UnitEncodes (λ u. UnitEncodes u → ⊥) c.all.ensures.ran (YieldsList-from_slice c.args.us cc) (λ x q k. search (rules, tests))
    (λ x q k. search (rules, tests)))
