use Rattle.std.proofs.Common.{rules, arith, ◌≡◌, refl}
use Rattle.refusal.specs.Refusals.{number_in}
use mathlib.Core.Path.{subst}
use Rattle.refusal.specs.EnumerantsCode.{Decodes}
use Rattle.buffers.specs.ObjectsCode.{targets, FindsBound}
use Rattle.buffers.proofs.Uploads.{sub_no_target, sub_unbound, slot_small, sub_short, sub_done}
use Rattle.buffers.proofs.Buffers.set_sub_data.Goals as goal

pub returns-in_default : goal.returns-in_default
returns-in_default c =
    sub_no_target _ _ _ (c.is_sound.ensures.decides.yes c.if-not-is_sound.false) c.if-store-ne-STORE_BYTES.false _
    (subst (Decodes targets c.args.target) c.in_default.is c.try_from.ensures) _ _

pub returns-in_err-k : goal.returns-in_err-k
returns-in_err-k c =
    let e : number_in c.from_residual.result ≡ 0x0502 = search rules in
    rw e
    (sub_unbound _ _ _ (c.is_sound.ensures.decides.yes c.if-not-is_sound.false) c.if-store-ne-STORE_BYTES.false _ c.in-Ok.ensures
    (subst (FindsBound c.args.self.now c.in-Ok.target) c.in_err-k.ensures.ok_part c.bound_slot.ensures) _ _)

pub returns-then-len-at : goal.returns-then-len-at
returns-then-len-at c =
    sub_short _ _ _ (c.is_sound.ensures.decides.yes c.if-not-is_sound.false) c.is_sound.ensures.slots c.if-store-ne-STORE_BYTES.false _ c.in-Ok.ensures _
    (subst (FindsBound c.args.self.now c.in-Ok.target) c.in_ok-k.ensures.ok_part c.bound_slot.ensures) _ _ _ refl c.if-len-at.true

pub write_padded-requires : goal.write_padded-requires
write_padded-requires c =
    let a = c.args in
    let has = subst (FindsBound a.self.now c.in-Ok.target) c.in_ok-k.ensures.ok_part c.bound_slot.ensures in
    omega (
      arith,
      has.0,
      c.if-len-at.false,
      slot_small _ a.store.now a.target (c.is_sound.ensures.decides.yes c.if-not-is_sound.false) c.is_sound.ensures.slots c.if-store-ne-STORE_BYTES.false _ c.in-Ok.ensures _ has,
      c.if-store-ne-STORE_BYTES.false,
    )

pub returns : goal.returns
returns c =
    sub_done _ _ _ (c.is_sound.ensures.decides.yes c.if-not-is_sound.false) c.is_sound.ensures.slots c.if-store-ne-STORE_BYTES.false _ c.in-Ok.ensures _
    (subst (FindsBound c.args.self.now c.in-Ok.target) c.in_ok-k.ensures.ok_part c.bound_slot.ensures) _ _ _ refl c.if-len-at.false _ c.write_padded.ensures
