-- `list_timed::repeat` meets its contract: the list was made as often as the loop has counted.
use mathlib.Core.Path.{refl, ◌∙◌}
use Rattle.list_timed.proofs.Repeating.{repeats_none, repeats_next}
use Rattle.list_timed.proofs.repeat.Goals as goal

pub loop-init : goal.loop-init
loop-init c = record { made = λ before h. repeats_none h; out = refl }

pub loop-preserved : goal.loop-preserved
loop-preserved c =
    let inv = c.loop.invariant in
    record { made = λ before h. repeats_next inv.out (inv.made before h) c.run_on.ensures; out = c.run_on.auto.out ∙ inv.out }
