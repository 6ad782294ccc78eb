-- `perform` meets its contract. It lends parts of the store and of the output, held within them.
use Rattle.std.proofs.Common.{◌<◌, arith, refl}
use Rattle.list_words.specs.Words.{word_at}
use Rattle.list_words.proofs.Words.{held_count}
use Rattle.trace_session.proofs.Done.{drawn, called, others}
use Rattle.trace_session.proofs.perform.Goals as goal
use Rattle.trace_session.proofs.perform.Goals.{in_default-via-then-record-lt16, in_default-via-else-record-lt16+else-record-lt96+else-record-lt112}

pub returns-in-16-to-95 : goal.returns-in-16-to-95
returns-in-16-to-95 c = called _ _ _ _ _ _ _ _ c.min-end.ensures (omega arith) (omega arith) c.make_call.ensures

pub returns-in-96-to-111 : goal.returns-in-96-to-111
returns-in-96-to-111 c = drawn _ _ _ _ _ _ _ _ _ _ c.room_of-end.ensures c.bytes_at-in-96-to-111.ensures c.bytes_at.ensures (omega arith) (omega arith) c.make_draw.ensures

pub returns-in_default : goal.returns-in_default
returns-in_default c =
    let code = c.args.«record».code in
    let low : code < 0x70 → code < 0x10 = λ h. elim c.in_default.branch [
      | in_default-via-then-record-lt16 w ↦ omega arith
      | in_default-via-else-record-lt16+else-record-lt96+else-record-lt112 w ↦ omega arith
    ] in
    others _ _ _ _ _ _ _ low refl c.inspect.ensures c.fill_areas.ensures.store_after c.fill_areas.ensures.guest_after
