-- `is_sound` decides soundness: every slot before k is sound.
use native.Mathlib.Omega.{arith}
use borrow.Author.Count.{below_more}
use Rattle.number.proofs.Lists.{length_mapped}
use Rattle.std.proofs.Common.{rules, ◌≡◌, length}
use Rattle.buffers.proofs.Deciding.{slot_facts, sound_facts, sound_fails}
use Rattle.buffers.proofs.Buffers.is_sound.Goals as goal
use Rattle.buffers.proofs.Buffers.is_sound.Goals.{then-not-fits-via-then-not-fits, then-not-fits-via-else-not-fits+then-not-is_first}

pub loop-k-init : goal.loop-k-init
loop-k-init c = λ j h. absurd (omega arith)

pub returns-then-not-fits : goal.returns-then-not-fits
returns-then-not-fits c =
    let sized : length c.args.self.now.slots ≡ 16 = search (length_mapped, rules) in
    elim c.then-not-fits.branch [
      | then-not-fits-via-then-not-fits w ↦ sound_fails _ sized
          (λ s. let f = slot_facts _ s c.loop-k.k c.loop-k-test.true in c.fits.ensures.no w.if-not-fits.true (record { small = f.small; below = f.below }))
      | then-not-fits-via-else-not-fits+then-not-is_first w ↦ sound_fails _ sized
          (λ s. w.is_first.ensures.no w.if-not-is_first.true (λ p. (c.loop-k-test.true, (slot_facts _ s c.loop-k.k c.loop-k-test.true).first p)))
    ]

pub loop-k-preserved : goal.loop-k-preserved
loop-k-preserved c =
    let f = c.fits.ensures.yes c.if-not-fits.false in
    below_more _ _ c.loop-k.invariant (record { small = f.small; below = f.below; first = λ p. (c.is_first.ensures.yes c.if-not-is_first.false p).1 })

pub returns-then-is_bindable : goal.returns-then-is_bindable
returns-then-is_bindable c =
    record {
      decides =
          record {
            yes = λ e. sound_facts c.args.self.now (λ j h. c.loop-k.invariant j (omega arith)) (c.is_bindable.ensures.yes c.if-is_bindable.true)
                (c.is_bindable-then-is_bindable.ensures.yes e);
            no = λ e s. c.is_bindable-then-is_bindable.ensures.no e s.element_live;
          };
      slots = search (length_mapped, rules);
    }
