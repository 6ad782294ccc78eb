use Rattle.std.proofs.Common.{rules, ◌≡◌, length, ltb}
use Rattle.std.specs.List.{count_by}
use Rattle.number.proofs.Lists.{length_mapped}
use Rattle.buffers.specs.declared.Slot.{Slot}
use Rattle.buffers.proofs.Slots.{live_by}
use Rattle.buffers.proofs.Buffers.live_count.Goals as goal

pub returns : goal.returns
returns c =
    let slots = c.args.self.now.slots in
    let sized : length slots ≡ 16 = search (length_mapped, rules) in
    let e : c.count.result ≡ count_by (λ (x : Slot). ltb 0 x.name) slots = search rules in
    live_by slots sized _ e
