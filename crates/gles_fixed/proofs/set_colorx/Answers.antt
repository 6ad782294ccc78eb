-- `gles_fixed::set_colorx` meets its contract, from that of its float form.
use mathlib.Core.Path.{sym, ◌∙◌}
use borrow.Author.Rules.{rules}
use lib.IntN.{pos}
use lib.Ieee.{nan}
use Rattle.gles_fixed.proofs.Converted.{mapped, converted, entry_fits}
use Rattle.gles_fixed.proofs.set_colorx.Goals as goal

pub returns : goal.returns
returns c =
    let array = c.well_formed.1.0.1 in
    let e = mapped c.args.color c.map.result (c.map.ensures.items.long ∙ sym array.0.1) (λ i l.
    let q = c.map.ensures.items.at i (pos 0) nan (rw array.0.1 at l) in
    let fits = entry_fits c.args.color _ i l array.1 in
    search (rules, converted)) in
    rw e at c.set_color.ensures
