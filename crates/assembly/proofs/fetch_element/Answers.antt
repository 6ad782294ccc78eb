-- `assembly::fetch_element` meets its contract: where the element lies, then its components.
use mathlib.Core.Path.{ap, ◌∙◌}
use lib.ListN.{length}
use Rattle.fetch.proofs.Parts.{part_length}
use Rattle.assembly.proofs.Fetching.{found, components_are}
use Rattle.assembly.proofs.fetch_element.Goals as goal

pub element-part-requires : goal.element-part-requires
element-part-requires g c =
    (found c.args.s c.args.store.now c.args.guest.now c.args.e c.requires c.args.index c.find_element.ensures c.in_ok-at.was).0

pub components_by-requires : goal.components_by-requires
components_by-requires g c =
    let l = found c.args.s c.args.store.now c.args.guest.now c.args.e c.requires c.args.index c.find_element.ensures c.in_ok-at.was in
    (ap length c.element-part.ensures ∙ part_length _ _ _ l.0 ∙ l.1, l.2)

pub returns : goal.returns
returns g c =
    components_are c.args.e.array _ c.components_by.ensures c.element-part.ensures
    ((found c.args.s c.args.store.now c.args.guest.now c.args.e c.requires c.args.index c.find_element.ensures c.in_ok-at.was).3 _)
