-- `assembly::component_at` meets its contract: the component's bytes lie in the element's.
use Prim.Native.Nat.{◌*◌, ◌<◌}
use mathlib.Core.Path.{ap, ◌∙◌}
use native.Mathlib.Omega.{arith}
use borrow.Author.Tests.{lt-ltb, le-ltb}
use Rattle.fetch.specs.Decode.{component_bytes, component_of}
use Rattle.assembly.proofs.Addresses.{below}
use Rattle.assembly.proofs.Widths.{width_small, width_known, component_in}
use Rattle.assembly.proofs.component_at.Goals as goal
use Rattle.assembly.proofs.component_at.Goals.{After-component_bytes-width}

-- the offset is small
small : (c : After-component_bytes-width) → c.component_bytes-width.result * c.args.i < 64
small c =
    below 3 (omega (arith, c.component_bytes-width.ensures, width_small c.args.ty)) (omega (arith, c.requires))

pub returns-then-size-i : goal.returns-then-size-i
returns-then-size-i c = simp (le-ltb _ _ c.if-size-i.true)

pub overflow_mul-width : goal.overflow_mul-width
overflow_mul-width c = omega (arith, small c)

pub overflow_cast-width : goal.overflow_cast-width
overflow_cast-width c = omega (arith, small c)

pub number_at-n-requires : goal.number_at-n-requires
number_at-n-requires c =
    let w = component_bytes c.args.ty in
    rw c.component_bytes-width.ensures
    (omega (arith, component_in w c.args.i c.args.size c.if-size-i.false, c.requires.0), width_known c.args.ty c.requires.1)

pub convert-requires : goal.convert-requires
convert-requires c = rw c.component_bytes-width.ensures at c.number_at-n.ensures.1

pub returns : goal.returns
returns c =
    simp (lt-ltb c.args.i c.args.size c.if-size-i.false)
    (c.convert.ensures
    ∙ ap (component_of c.args.ty c.args.normalize) (c.number_at-n.ensures.0 ∙ rw c.component_bytes-width.ensures))
