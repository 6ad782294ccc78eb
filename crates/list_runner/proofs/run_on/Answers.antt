-- `list_runner::run_on` meets its contract: what is made and what is left are the whole list.
use mathlib.Core.List.{List}
use mathlib.Core.Path.{◌≡◌, refl, sym, ap, ◌∙◌}
use Prim.Native.Nat.{ℕ, ◌+◌, ◌-◌, ◌≤◌}
use native.Mathlib.Omega.{arith}
use lib.Ieee.{Float}
use lib.ListN.{length, take, drop}
use Rattle.stack.specs.Stack.{update}
use Rattle.context.specs.Calls.{matrix, mode}
use Rattle.list_words.specs.Words.{word_at}
use Rattle.list_records.specs.Encoding.{update_of, call_of}
use Rattle.list_runner.proofs.Calls.{is_mode, is_push, is_pop, is_update, is_buffer, is_array, is_attribute, is_pipeline, is_take_error, is_draw_law}
use Rattle.list_runner.proofs.Calls.{performed, performed_draw, placed, currents_placed}
use Rattle.list_runner.proofs.Running.{is_next, is_some, fits_in, none_next, progress_start, progress_next, progress_stop, Stepped, joined, stayed}
use Rattle.list_runner.proofs.run_on.Goals as goal

pub loop-size-init : goal.loop-size-init
loop-size-init c = record { progress = progress_start; inside = omega arith; store = refl; out = refl }

pub bounds-words-read : goal.bounds-words-read
bounds-words-read c = let i = fits_in c.args.words.now c.loop-size.read c.in-Some.ensures in omega (arith, i.0, i.1)

pub overflow_add-record-in-Some : goal.overflow_add-record-in-Some
overflow_add-record-in-Some c = let i = fits_in c.args.words.now c.loop-size.read c.in-Some.ensures in omega (arith, i.1, c.well_formed.1.0)

pub slice_bounds-record-end : goal.slice_bounds-record-end
slice_bounds-record-end c = let i = fits_in c.args.words.now c.loop-size.read c.in-Some.ensures in omega (arith, i.0, i.1)

pub overflow_add-read : goal.overflow_add-read
overflow_add-read c = let i = fits_in c.args.words.now c.loop-size.read c.in-Some.ensures in omega (arith, i.1, c.well_formed.1.0)

pub loop-size-smaller : goal.loop-size-smaller
loop-size-smaller c = let i = fits_in c.args.words.now c.loop-size.read c.in-Some.ensures in omega (arith, i.0, i.1)

pub loop-size-preserved : goal.loop-size-preserved
loop-size-preserved c =
    let words = c.args.words.now in
    let bytes = c.args.bytes.now in
    let at = c.loop-size in
    let size = c.in-Some.size in
    let code = word_at words at.read in
    let v = take (at.read + size - (at.read + 2)) (drop (at.read + 2) words) in
    let room = length at.out in
    let after = c.match-record in
    let step : Stepped at.c at.store at.out (call_of bytes room code v) after.number after.value after.c after.store after.out =
    elim after.branch [
      | goal.in-20 w ↦
          let m = w.push_matrix-r.ensures _ in
          joined (stayed (performed (is_push bytes room code v w.in-20.is) m refl refl)) w.store-is w.out-is (placed m w.c-is) w.number-is w.value-is
      | goal.in-21 w ↦
          let m = w.pop_matrix-r.ensures _ in
          joined (stayed (performed (is_pop bytes room code v w.in-21.is) m refl refl)) w.store-is w.out-is (placed m w.c-is) w.number-is w.value-is
      | goal.in-16 w ↦
          let call = ap mode w.word.ensures ∙ is_mode bytes room code v w.in-16.is in
          let m = w.set_matrix_mode-r.ensures _ in
          joined (stayed (performed call m refl refl)) w.store-is w.out-is w.c-is w.number-is w.value-is
      | goal.in-80 w ↦
          let m = w.make_take_error-r.ensures.does _ in
          let value = w.make_take_error-r.ensures.value in
          joined (stayed (performed (is_take_error bytes room code v w.in-80.is) m refl value)) w.store-is w.out-is (placed m w.c-is) w.number-is w.value-is
      | goal.in-0-to-31 w ↦
          let floats = ap (λ (f : List Float). matrix (update (update_of code f))) w.matrix_floats.ensures in
          let call = floats ∙ is_update bytes room code v (λ e. absurd (omega arith)) (λ e. absurd (omega arith)) (λ e. absurd (omega arith)) (omega arith) in
          let m = w.make_update-r.ensures _ in
          let context = currents_placed m w.currents-m.ensures w.set_currents.ensures w.c-is in
          joined (stayed (performed call m refl refl)) w.store-is w.out-is context w.number-is w.value-is
      | goal.in-32-to-47 w ↦
          let call = is_buffer bytes room code v (omega arith) (omega arith) in
          let m = w.make_buffer-r.ensures in
          joined (performed call m.did refl m.value, w.make_buffer-r.auto.store, refl) w.store-is w.out-is (placed m.did w.c-is) w.number-is w.value-is
      | goal.in-48-to-53 w ↦
          let call = is_array bytes room code v (omega arith) (omega arith) in
          let m = w.array_record-r.ensures _ in
          joined (stayed (performed call m refl refl)) w.store-is w.out-is (placed m w.c-is) w.number-is w.value-is
      | goal.in-54-to-63 w ↦
          let call = is_attribute bytes room code v (omega arith) (omega arith) in
          let m = w.attribute_record-r.ensures _ in
          joined (stayed (performed call m refl refl)) w.store-is w.out-is (placed m w.c-is) w.number-is w.value-is
      | goal.in-64-to-79 w ↦
          let call = is_pipeline bytes room code v (omega arith) (omega arith) in
          let m = w.pipeline_record-r.ensures _ in
          joined (stayed (performed call m refl refl)) w.store-is w.out-is (placed m w.c-is) w.number-is w.value-is
      | goal.in_default-code w ↦
          let call = is_draw_law bytes room code v (omega arith) in
          let m = w.make_draw-r.ensures in
          joined (performed_draw call m, refl, w.make_draw-r.auto.out) w.store-is w.out-is (placed m.did.0 w.c-is) w.number-is w.value-is
    ]
    in
    let next = c.in-Some.ensures in
    let inside = fits_in words at.read next in
    record {
      progress = progress_next at.invariant.progress at.invariant.out (is_next words at.read next) (is_some words at.read next) refl step.0;
      inside = inside.1;
      store = step.1 ∙ at.invariant.store;
      out = step.2 ∙ at.invariant.out;
    }

pub returns : goal.returns
returns c = progress_stop c.loop-size.invariant.progress (none_next c.args.words.now c.loop-size.read c.in_default.ensures)
