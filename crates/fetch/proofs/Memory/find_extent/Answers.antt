-- `fetch::Memory::find_extent` meets its contract: each way out is a case of the extent.
use native.Mathlib.Omega.{arith}
use mathlib.Core.Path.{sym}
use borrow.Author.Tests.{eq-eqb, ne_eqb}
use Rattle.fetch.proofs.Extents.{extent_guest, extent_absent, extent_slot}
use Rattle.fetch.proofs.Memory.find_extent.Goals as goal

pub returns-then-buffer-eq0 : goal.returns-then-buffer-eq0
returns-then-buffer-eq0 c = let m = c.args.self.now in extent_guest m.buffers.slots m.store.now m.guest.now m.base c.args.buffer c.if-buffer-eq0.true

pub returns-in_err-k : goal.returns-in_err-k
returns-in_err-k c =
    let m = c.args.self.now in
    rw c.from_residual.ensures
    (extent_absent m.buffers.slots m.store.now m.guest.now m.base c.args.buffer c.if-buffer-eq0.false 16 (sym c.in_err-k.ensures) (omega arith))

pub returns-then-room-eq0 : goal.returns-then-room-eq0
returns-then-room-eq0 c =
    let m = c.args.self.now in
    let found = c.in_ok-k.ensures in
    extent_slot m.buffers.slots m.store.now m.guest.now m.base c.args.buffer c.if-buffer-eq0.false _ (sym found.1) found.0 _
    c.bytes_in_slot-room.ensures _ (rw (eq-eqb _ _ c.if-room-eq0.true))

pub returns-else-room-eq0 : goal.returns-else-room-eq0
returns-else-room-eq0 c =
    let m = c.args.self.now in
    let found = c.in_ok-k.ensures in
    extent_slot m.buffers.slots m.store.now m.guest.now m.base c.args.buffer c.if-buffer-eq0.false _ (sym found.1) found.0 _
    c.bytes_in_slot-room.ensures _ (rw (ne_eqb _ _ c.if-room-eq0.false))
