-- `gles_fixed::load_matrixx` meets its contract, from the current matrix of the mode in force.
use mathlib.Core.Path.{refl, sym, ◌∙◌}
use borrow.Author.Rules.{rules}
use lib.IntN.{pos}
use lib.Ieee.{nan}
use Rattle.context.proofs.Entries.{load_does}
use Rattle.gles_fixed.proofs.Converted.{mapped, converted, entry_fits}
use Rattle.gles_fixed.proofs.load_matrixx.Goals as goal

pub returns : goal.returns
returns c =
    let array = c.well_formed.1.0.1 in
    let e = mapped c.args.m c.map.result (c.map.ensures.items.long ∙ sym array.0.1) (λ i l.
    let q = c.map.ensures.items.at i (pos 0) nan (rw array.0.1 at l) in
    let fits = entry_fits c.args.m _ i l array.1 in
    search (rules, converted)) in
    load_does _ _ _ (λ x. refl) refl refl refl (rw e at c.load.ensures)
