-- `fetch::Memory::find_in_buffer` meets its contract: each way out is a case of the law on parts.
use native.Mathlib.Omega.{arith}
use mathlib.Core.Path.{sym}
use Rattle.fetch.proofs.Parts.{none_zero, none_slot, slot_short, slot_empty, slot_there}
use Rattle.fetch.proofs.Memory.find_in_buffer.Goals as goal
use Rattle.fetch.proofs.Memory.find_in_buffer.Goals.{then-held-at-via-then-held-at, then-held-at-via-else-held-at+then-held-at-2}

pub returns-then-buffer-eq0 : goal.returns-then-buffer-eq0
returns-then-buffer-eq0 c = none_zero c.args.self.now.buffers.slots c.args.self.now.store.now _ _ _ c.if-buffer-eq0.true

pub returns-in_default : goal.returns-in_default
returns-in_default c = none_slot c.args.self.now.buffers.slots c.args.self.now.store.now _ _ _ 16 (sym c.in_default.ensures) (omega arith)

pub returns-then-held-at : goal.returns-then-held-at
returns-then-held-at c =
    let m = c.args.self.now in
    let found = c.in-Some.ensures in
    slot_short m.buffers.slots m.store.now _ _ _ c.if-buffer-eq0.false _ (sym found.1) found.0 _
    c.bytes_in_slot-held.ensures
    (elim c.then-held-at.branch [
      | then-held-at-via-then-held-at w ↦ omega (arith, w.if-held-at.true)
      | then-held-at-via-else-held-at+then-held-at-2 w ↦ omega (arith, w.if-held-at.false, w.if-held-at-2.true)
    ])

pub returns-then-len-eq0 : goal.returns-then-len-eq0
returns-then-len-eq0 c =
    let m = c.args.self.now in
    let found = c.in-Some.ensures in
    slot_empty m.buffers.slots m.store.now _ _ _ c.if-buffer-eq0.false _ (sym found.1) found.0 _
    c.bytes_in_slot-held.ensures
    (omega (arith, c.if-held-at.false, c.if-held-at-2.false)) c.if-len-eq0.true

pub returns : goal.returns
returns c =
    let m = c.args.self.now in
    let found = c.in-Some.ensures in
    slot_there m.buffers.slots m.store.now _ _ _ c.if-buffer-eq0.false _ (sym found.1) found.0 _
    c.bytes_in_slot-held.ensures
    (omega (arith, c.if-held-at.false, c.if-held-at-2.false)) c.if-len-eq0.false
