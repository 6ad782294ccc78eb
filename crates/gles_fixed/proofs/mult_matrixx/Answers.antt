-- `gles_fixed::mult_matrixx` meets its contract, from the current matrix of the mode in force.
use mathlib.Core.Path.{refl, sym, ◌∙◌}
use borrow.Author.Rules.{rules}
use lib.IntN.{pos}
use lib.Ieee.{nan}
use Rattle.context.proofs.Entries.{product_does}
use Rattle.gles_fixed.proofs.Converted.{mapped, converted, entry_fits}
use Rattle.gles_fixed.proofs.mult_matrixx.Goals as goal

pub returns : goal.returns
returns c =
    let array = c.well_formed.1.0.1 in
    let e = mapped c.args.m c.map.result (c.map.ensures.items.long ∙ sym array.0.1) (λ i l.
    let q = c.map.ensures.items.at i (pos 0) nan (rw array.0.1 at l) in
    let fits = entry_fits c.args.m _ i l array.1 in
    search (rules, converted)) in
    product_does _ _ _ (λ x. refl) refl refl e refl c.multiply.ensures
