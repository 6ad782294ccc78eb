-- `text::shown_bits` meets its contract.
use mathlib.Core.Path.{◌∙◌}
use Rattle.trace_text.proofs.Laws.{shown}
use Rattle.trace_text.proofs.shown_bits.Goals as goal

pub returns : goal.returns
returns c = c.bits_of_f32.ensures ∙ shown c.args.x
