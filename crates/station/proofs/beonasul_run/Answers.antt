-- `station::beonasul_run` meets its contract: the list is made on the context of the numbers.
use Rattle.context.specs.Rules.{matrix_modes}
use Rattle.station.proofs.Parts.{chosen, whole, apart}
use Rattle.station.proofs.Back.{had_run, run_refused}
use Rattle.station.proofs.beonasul_run.Goals as goal

pub returns-then-not-is_context : goal.returns-then-not-is_context
returns-then-not-is_context c = run_refused (λ h. c.is_context.ensures.no c.if-not-is_context.true (apart _ h)) c.from.ensures

pub returns : goal.returns
returns c =
    let k = c.args.kept.now in
    let is = c.is_context.ensures.yes c.if-not-is_context.false in
    had_run {
    c = record {
      mode = c.unwrap_or.result;
      stacks = k.stacks;
      buffers = k.buffers;
      arrays = k.arrays;
      attributes = k.attributes;
      pipeline = c.from-2.result;
      error = k.error;
    }
    } {l = c.run_on-r.result} (whole _ is) (rw (chosen matrix_modes k.mode _ _ c.unwrap_or.ensures c.try_from.ensures, c.from-2.ensures)) c.run_on-r.ensures
    c.answer_in.ensures (rw (c.from-3.ensures, c.from-4.ensures))
