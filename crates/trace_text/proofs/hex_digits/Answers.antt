-- `text::hex_digits` meets its contract: each element is what the closure gives at its place.
use Rattle.std.proofs.Common.{rules}
use Rattle.trace_text.proofs.Laws.{hex_of}
use Rattle.trace_text.proofs.hex_digits.Goals as goal

pub returns : goal.returns
returns c =
    hex_of c.args.w c.from_fn.result c.from_fn.ensures.items.long
    (search rules)
    (search rules)
    (search rules)
    (search rules)
    (search rules)
    (search rules)
    (search rules)
    (search rules)
