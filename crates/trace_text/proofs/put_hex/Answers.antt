-- `text::put_hex` meets its contract.
use mathlib.Core.Path.{ap, ◌∙◌}
use Rattle.trace_text.specs.Text.{page, put_text}
use Rattle.trace_text.proofs.put_hex.Goals as goal

pub returns : goal.returns
returns c =
    let a = c.args in
    let p = c.put.ensures in
    record { prefix_len = p.prefix_len; result_after = p.result_after ∙ ap (put_text (page a.area.now a.at)) c.hex_digits-text.ensures }
