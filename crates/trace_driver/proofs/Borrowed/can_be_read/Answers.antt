-- `Borrowed::can_be_read` meets its contract.
use Rattle.std.proofs.Common.{eq-eqb, ne_eqb}
use Rattle.std.proofs.lemmas.Bool.{lt-leb, le-leb}
use Rattle.vertex.specs.Index.{type_width}
use Rattle.vertex.proofs.Sources.{width_above}
use Rattle.trace_driver.specs.Permitted.{can_be_read}
use Rattle.trace_driver.proofs.Reading.{known_type, unknown_type}
use Rattle.trace_driver.proofs.Borrowed.can_be_read.Goals as goal
use Rattle.trace_driver.proofs.Borrowed.can_be_read.Goals.{then-element-ne0-via-then-element-ne0, then-element-ne0-via-else-element-ne0+then-pointer-self}

pub returns-in_default : goal.returns-in_default
unfolding can_be_read
returns-in_default c = rw (unknown_type c.args.ty _ c.in_default.ensures)

pub returns-then-element-ne0 : goal.returns-then-element-ne0
unfolding can_be_read
returns-then-element-ne0 c =
    let k = c.in-Ok.kind in
    let known = known_type c.args.ty k c.in-Ok.ensures in
    elim c.then-element-ne0.branch [
      | then-element-ne0-via-then-element-ne0 w ↦ rw (known, ne_eqb (type_width k) 0 (width_above k), ne_eqb c.args.element 0 w.if-element-ne0.true)
      | then-element-ne0-via-else-element-ne0+then-pointer-self w ↦
          rw (known, ne_eqb (type_width k) 0 (width_above k), eq-eqb c.args.element 0 w.if-element-ne0.false, lt-leb c.args.self.base c.args.pointer w.if-pointer-self.true)
    ]

pub returns : goal.returns
unfolding can_be_read
returns c =
    let k = c.in-Ok.kind in
    rw (
      known_type c.args.ty k c.in-Ok.ensures,
      ne_eqb (type_width k) 0 (width_above k),
      eq-eqb c.args.element 0 c.if-element-ne0.false,
      le-leb c.args.self.base c.args.pointer c.if-pointer-self.false,
      c.width.ensures,
    )
