-- `generate` meets its contract: after `counter` turns the other names are still to be made.
use Rattle.std.proofs.Common.{arith, ◌≤◌, ◌+◌, ℕ, List, sym, ◌∙◌, refl, ap}
use borrow.Author.Tests.{lt-ltb, le-ltb}
use Rattle.refusal.specs.Refusals.{answer}
use Rattle.buffers.specs.Objects.{objects, Answers, live_names, gen_answer}
use Rattle.buffers.proofs.Bounds.{never}
use Rattle.buffers.proofs.Laws.{live_law}
use Rattle.buffers.proofs.Binding.{answers_same, answers_done}
use Rattle.buffers.proofs.Free.{filled_free}
use Rattle.buffers.proofs.Generation.{left_all, next_is_made, left_less, left_none, gen_full, gen_past, gen_done}
use Rattle.buffers.proofs.Buffers.generate.Goals as goal
use Rattle.buffers.proofs.Buffers.generate.Goals.{then-n-gt-SLOT_COUNT-via-then-n-gt-SLOT_COUNT, then-n-gt-SLOT_COUNT-via-else-n-gt-SLOT_COUNT+then-live_count-n-gt-SLOT_COUNT}
use Rattle.buffers.proofs.Buffers.generate.Goals.{Else-live_count-n-gt-SLOT_COUNT, After-loop}

few : (c : Else-live_count-n-gt-SLOT_COUNT) (s : List ℕ) →
    let args = c.args in
    live_names (objects args.self.now s) + args.n ≤ 16
few c s = omega (arith, c.live_count.ensures.0, live_law c.args.self.now (c.is_sound.ensures.decides.yes c.if-not-is_sound.false) s, c.if-live_count-n-gt-SLOT_COUNT.false)

pub returns-then-n-gt-SLOT_COUNT : goal.returns-then-n-gt-SLOT_COUNT
returns-then-n-gt-SLOT_COUNT c =
    let sound = c.is_sound.ensures.decides.yes c.if-not-is_sound.false in
    record {
      answers = answers_same _ _ sound 4 (λ s.
          gen_full _ _ (elim c.then-n-gt-SLOT_COUNT.branch [
            | then-n-gt-SLOT_COUNT-via-then-n-gt-SLOT_COUNT w ↦ omega (arith, w.if-n-gt-SLOT_COUNT.true)
            | then-n-gt-SLOT_COUNT-via-else-n-gt-SLOT_COUNT+then-live_count-n-gt-SLOT_COUNT w ↦
                omega (arith, w.live_count.ensures.0, live_law c.args.self.now sound s, w.if-live_count-n-gt-SLOT_COUNT.true)
          ]));
      names = refl;
    }

pub returns-then-self-n : goal.returns-then-self-n
returns-then-self-n c =
    record {
      answers = answers_same _ _ (c.is_sound.ensures.decides.yes c.if-not-is_sound.false) 5
          (λ s. gen_past _ _ (few (goal.at.returns-then-self-n c).Else-live_count-n-gt-SLOT_COUNT s) c.if-self-n.true);
      names = refl;
    }

pub loop-init : goal.loop-init
loop-init c =
    left_all _ (c.is_sound.ensures.decides.yes c.if-not-is_sound.false) _ _ (omega arith) (few (goal.at.loop-init c).Else-live_count-n-gt-SLOT_COUNT)
    c.if-self-n.false

pub prove-unreachable-requires : goal.prove-unreachable-requires
prove-unreachable-requires c =
    never _
    (next_is_made _ _ _ _ c.loop.invariant (omega (arith, c.loop-test.true)) _ _ c.make_name.ensures.made) (sym c.is_ok-made.ensures.value ∙ c.if-prove.true)

pub loop-preserved : goal.loop-preserved
loop-preserved c = left_less _ _ _ _ c.loop.invariant _ (omega (arith, c.loop-test.true)) _ _ c.make_name.ensures.made

done : (c : After-loop) →
    let args = c.args in
    ((s : List ℕ) → live_names (objects args.self.now s) + args.n ≤ 16) →
    Answers args.self.now (λ o. gen_answer o args.n) 0 c.loop.self
done c room =
    answers_done _ _ (c.is_sound.ensures.decides.yes c.if-not-is_sound.false) _
    (λ s. ap (answer 0) (left_none _ _ _ _ c.loop.invariant (omega (arith, c.loop-test.false)) s) ∙ gen_done _ _ (room s) c.if-self-n.false)
    c.loop.invariant.sound (filled_free c.loop.invariant.slots)

pub returns-then-n-eq0 : goal.returns-then-n-eq0
returns-then-n-eq0 c =
    record {
      answers = done (goal.at.returns-then-n-eq0 c).After-loop (few (goal.at.returns-then-n-eq0 c).Else-live_count-n-gt-SLOT_COUNT);
      names = simp (le-ltb 0 c.args.n (omega (arith, c.if-n-eq0.true)));
    }

pub returns-else-n-eq0 : goal.returns-else-n-eq0
returns-else-n-eq0 c =
    record {
      answers = done (goal.at.returns-else-n-eq0 c).After-loop (few (goal.at.returns-else-n-eq0 c).Else-live_count-n-gt-SLOT_COUNT);
      names = simp (lt-ltb 0 c.args.n (omega (arith, c.if-n-eq0.false)));
    }
