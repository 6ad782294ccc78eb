use Rattle.std.proofs.Common.{rules, ◌≡◌, ap, sym, ◌∙◌, length, ◌+◌, max}
use Rattle.std.specs.Prelude.{is_ok}
use mathlib.Core.Path.{refl, subst}
use Rattle.number.proofs.Lists.{length_mapped}
use Rattle.buffers.specs.declared.Buffers.{Buffers}
use Rattle.buffers.specs.ObjectsCode.{MakesName, FindsSlot}
use Rattle.std.proofs.Math.Bool.{true, false}
use Rattle.buffers.proofs.Deciding.{slot_missing, slot_there}
use Rattle.buffers.proofs.Naming.{made_zero, made_live, made_full, made_new}
use Rattle.buffers.proofs.Buffers.make_name.Goals as goal
use Rattle.buffers.proofs.Buffers.make_name.Goals.{then-is_none+in_ok-free, else-is_none}

pub returns-then-name-eq0-clause-made : goal.returns-then-name-eq0-clause-made
returns-then-name-eq0-clause-made c = made_zero _ c.requires.0 _ c.if-name-eq0.true

pub returns-in_err-free-clause-made : goal.returns-in_err-free-clause-made
returns-in_err-free-clause-made c =
    let e : is_ok c.from_residual.result ≡ false = search rules in
    rw e
    (made_full _ c.requires.0 _ c.if-name-eq0.false _ refl (slot_missing _ _ _ c.find_slot.ensures c.if-is_none.ensures) _ refl
    (slot_missing _ _ _ c.find_slot-then-is_none.ensures (sym c.in_err-free.ensures.variant)))

pub returns-clause-made : goal.returns-clause-made
returns-clause-made c =
    let a = c.args in
    let made = λ (x : Buffers). MakesName a.self.now a.name true (record {
      slots = x.slots;
      next = c.max-self.result;
      array_buffer = x.array_buffer;
      element_buffer = x.element_buffer;
    }) in
    let next = λ (x : Buffers) (e : c.if-is_none.self ≡ x). c.max-self.ensures ∙ ap (λ (y : Buffers). max y.next (a.name + 1)) e in
    elim c.if-is_none.branch [
      | then-is_none+in_ok-free w ↦
          let sized : length a.self.now.slots ≡ 16 = search (length_mapped, rules) in
          let at = subst (FindsSlot a.self.now.slots 0) w.in_ok-free.ensures.ok_part w.find_slot-then-is_none.ensures in
          subst made (sym w.self-is)
          (made_new _ c.requires.0 _ c.if-name-eq0.false _ refl (slot_missing _ _ _ c.find_slot.ensures w.if-is_none.ensures) _ (sym at.1) sized _ at.0 (next _ w.self-is))
      | else-is_none w ↦
          subst made (sym w.self-is)
          (made_live _ c.requires.0 _ c.if-name-eq0.false _ refl _ (slot_there _ _ _ c.find_slot.ensures w.if-is_none.ensures) (next _ w.self-is))
    ]
