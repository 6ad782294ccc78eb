-- `list_runner::run` meets its contract: the calls of a list, after none.
use mathlib.Core.Path.{refl}
use Rattle.history.specs.Demand3.{start}
use Rattle.list_runner.proofs.Running.{continues}
use Rattle.list_runner.proofs.run.Goals as goal

pub returns-then-store-ne-STORE_BYTES : goal.returns-then-store-ne-STORE_BYTES
returns-then-store-ne-STORE_BYTES c = record { refused = λ _. (refl, refl, refl); ran = λ e. absurd (c.if-store-ne-STORE_BYTES.true e) }

pub returns : goal.returns
returns c =
    let whole = c.if-store-ne-STORE_BYTES.false in
    let ran = continues (start c.new.ensures whole) c.run_on.ensures in
    record { refused = λ n. absurd (n whole); ran = λ _. ((ran.read, ran.history), ran.output) }
