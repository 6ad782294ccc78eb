-- `assembly::vector` meets its contract: the last arm is that of the sixth type.
use mathlib.Core.Path.{◌≡◌}
use native.Mathlib.Omega.{arith}
use Rattle.assembly.proofs.Widths.{last_type}
use Rattle.assembly.proofs.vector.Goals as goal

pub components-requires-in_default : goal.components-requires-in_default
components-requires-in_default c =
    let last : c.args.ty ≡ 0x1403 = last_type _ c.requires.1 (λ e. grind arith) (λ e. grind arith) (λ e. grind arith) (λ e. grind arith) (λ e. grind arith) in
    rw last at c.requires

pub returns-in_default : goal.returns-in_default
returns-in_default c =
    let last : c.args.ty ≡ 0x1403 = last_type _ c.requires.1 (λ e. grind arith) (λ e. grind arith) (λ e. grind arith) (λ e. grind arith) (λ e. grind arith) in
    rw last c.components-in_default.ensures
