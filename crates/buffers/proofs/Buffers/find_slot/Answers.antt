-- `find_slot` meets its contract: `position` finds the first slot with the name.
use Rattle.std.proofs.Common.{◌≡◌, rules}
use borrow.Author.Tests.{tests}
use Rattle.std.proofs.lemmas.Iterator.{YieldsList-from_slice}
use Rattle.std.proofs.lemmas.Iterator.{IsFirst-from_position}
use Rattle.number.proofs.Lists.{length_mapped}
use Rattle.buffers.specs.declared.Slot.{Slot}
use Rattle.buffers.proofs.Slots.{finds_slot}
use Rattle.buffers.proofs.Buffers.find_slot.Goals as goal

pub returns : goal.returns
returns c =
    let n = c.args.name in
    finds_slot _ _ (search (length_mapped, rules)) _
    (IsFirst-from_position _ _ _ (λ (x : Slot). x.name ≡ n) (λ (x : Slot). x.name ≡ n → ⊥) c.position.ensures.ran (YieldsList-from_slice c.args.self.now.slots cc)
    (λ x q k. search (rules, tests)) (λ x q k. search (rules, tests)))
