use Prim.Native.Nat.{◌+◌}
use mathlib.Core.Path.{refl, sym, ap, ◌∙◌}
use lib.ListN.{drop}
use Rattle.buffers.specs.Objects.{objects, delete_names}
use Rattle.refusal.specs.Refusals.{answer}
use Rattle.buffers.proofs.Binding.{answers_done}
use Rattle.buffers.proofs.Free.{freed_same, freed_then, freed_free}
use Rattle.buffers.proofs.Removal.{delete_step, delete_end}
use Rattle.buffers.proofs.Buffers.delete.Goals as goal

pub loop-name-init : goal.loop-name-init
loop-name-init c = record { state = λ s. refl; sound = c.is_sound.ensures.decides.yes c.if-not-is_sound.false; slots = freed_same }

pub loop-name-preserved : goal.loop-name-preserved
loop-name-preserved c =
    let names = c.args.names.now in
    let i = c.loop-name.name-index in
    record {
      state = λ s. ap (delete_names (drop (i + 1) names)) (c.delete_name.ensures.state s)
          ∙ sym (delete_step names i (objects c.loop-name.self s) c.loop-name-test.true) ∙ c.loop-name.invariant.state s;
      sound = c.delete_name.ensures.sound;
      slots = freed_then c.loop-name.invariant.slots c.delete_name.ensures.slots;
    }

pub returns : goal.returns
returns c =
    answers_done _ _ (c.is_sound.ensures.decides.yes c.if-not-is_sound.false) _
    (λ s. ap (answer 0)
    (sym (delete_end c.args.names.now c.loop-name.name-index (objects c.loop-name.self s) c.loop-name-test.false) ∙ c.loop-name.invariant.state s))
    c.loop-name.invariant.sound (freed_free c.loop-name.invariant.slots)
