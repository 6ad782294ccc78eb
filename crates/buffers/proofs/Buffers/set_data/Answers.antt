use Rattle.std.proofs.Common.{rules, ◌≡◌}
use Rattle.refusal.specs.Refusals.{number_in}
use mathlib.Core.Path.{subst}
use Rattle.buffers.specs.ObjectsCode.{FindsBound}
use Rattle.buffers.proofs.Uploads.{data_no_target, data_unbound, data_large, bound_name, data_done}
use Rattle.buffers.proofs.Buffers.set_data.Goals as goal

pub returns-in_err-target : goal.returns-in_err-target
returns-in_err-target c =
    let e : number_in c.from_residual.result ≡ 0x0500 = search rules in
    rw e (data_no_target _ _ _ (c.is_sound.ensures.decides.yes c.if-not-is_sound.false) c.if-store-ne-STORE_BYTES.false _ c.in_err-target.ensures _ _)

pub returns-in_err-k : goal.returns-in_err-k
returns-in_err-k c =
    let e : number_in c.from_residual-in_err-k.result ≡ 0x0502 = search rules in
    rw e
    (data_unbound _ _ _ (c.is_sound.ensures.decides.yes c.if-not-is_sound.false) c.if-store-ne-STORE_BYTES.false _ c.in_ok-target.ensures
    (subst (FindsBound c.args.self.now c.in_ok-target.target) c.in_err-k.ensures.ok_part c.bound_slot.ensures) _ _)

pub returns-then-size-gt-SLOT_BYTES : goal.returns-then-size-gt-SLOT_BYTES
returns-then-size-gt-SLOT_BYTES c =
    data_large _ _ _ (c.is_sound.ensures.decides.yes c.if-not-is_sound.false) c.is_sound.ensures.slots c.if-store-ne-STORE_BYTES.false _ c.in_ok-target.ensures _
    (subst (FindsBound c.args.self.now c.in_ok-target.target) c.in_ok-k.ensures.ok_part c.bound_slot.ensures) _ _ c.if-size-gt-SLOT_BYTES.true

pub returns : goal.returns
returns c =
    let a = c.args in
    let has = subst (FindsBound a.self.now c.in_ok-target.target) c.in_ok-k.ensures.ok_part c.bound_slot.ensures in
    data_done _ _ _ (c.is_sound.ensures.decides.yes c.if-not-is_sound.false) c.is_sound.ensures.slots c.if-store-ne-STORE_BYTES.false _ c.in_ok-target.ensures _ has
    _ _ c.if-size-gt-SLOT_BYTES.false _
    (bound_name _ a.store.now a.target (c.is_sound.ensures.decides.yes c.if-not-is_sound.false) c.is_sound.ensures.slots c.if-store-ne-STORE_BYTES.false _
    c.in_ok-target.ensures _ has)
    _ c.write_padded.ensures
