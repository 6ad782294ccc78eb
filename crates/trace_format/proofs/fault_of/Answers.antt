-- `trace::fault_of` meets its contract: the first question that is answered no decides.
use Rattle.std.proofs.Common.{refl, sym, ◌∙◌, true, false}
use Rattle.trace_format.proofs.Records.{fault_is}
use Rattle.trace_format.specs.Trace.{is_joined}
use Rattle.trace_format.proofs.fault_of.Goals as goal
use Rattle.trace_format.proofs.fault_of.Goals.{then-not-is_within-via-then-not-is_within, then-not-is_within-via-else-not-is_within+then-not-is_joined}

pub returns-then-not-has_size : goal.returns-then-not-has_size
returns-then-not-has_size c = fault_is _ _ false _ _ _ c.head_of-h.ensures refl (sym c.if-not-has_size.true ∙ c.has_size.ensures) refl refl refl

pub returns-then-not-is_within : goal.returns-then-not-is_within
returns-then-not-is_within c =
    let size = sym c.if-not-has_size.false ∙ c.has_size.ensures in
    elim c.then-not-is_within.branch [
      | then-not-is_within-via-then-not-is_within w ↦
          fault_is _ _ true false _ _ c.head_of-h.ensures c.limits_of.ensures size (sym w.if-not-is_within.true ∙ c.is_within.ensures) refl refl
      | then-not-is_within-via-else-not-is_within+then-not-is_joined w ↦
          fault_is _ _ true true false _ c.head_of-h.ensures c.limits_of.ensures size
          (sym w.if-not-is_within.false ∙ c.is_within.ensures)
          (sym w.if-not-is_joined.true ∙ w.is_joined.ensures) refl
    ]

pub returns-then-not-has_padding : goal.returns-then-not-has_padding
returns-then-not-has_padding c =
    fault_is _ _ true true true false c.head_of-h.ensures c.limits_of.ensures
    (sym c.if-not-has_size.false ∙ c.has_size.ensures)
    (sym c.if-not-is_within.false ∙ c.is_within.ensures)
    (sym c.if-not-is_joined.false ∙ c.is_joined.ensures)
    (sym c.if-not-has_padding.true ∙ c.has_padding.ensures)

pub returns : goal.returns
returns c =
    fault_is _ _ true true true true c.head_of-h.ensures c.limits_of.ensures
    (sym c.if-not-has_size.false ∙ c.has_size.ensures)
    (sym c.if-not-is_within.false ∙ c.is_within.ensures)
    (sym c.if-not-is_joined.false ∙ c.is_joined.ensures)
    (sym c.if-not-has_padding.false ∙ c.has_padding.ensures)
