-- `vertex::stored_indices` meets its contract: the type is known or refused, and then the part is there or missing.
use Rattle.std.proofs.Common.{rules}
use mathlib.Core.Path.{◌≡◌, sym, ap, ◌∙◌}
use native.Mathlib.Omega.{arith}
use Prim.Native.Nat.{ℕ, ◌*◌}
use Rattle.buffers.specs.Objects.{contents_of}
use Rattle.fetch.specs.Fetch.{Part, part_of, part_state}
use Rattle.fetch.specs.FetchCode.{part_in}
use Rattle.fetch.proofs.Parts.{missing_state}
use Rattle.vertex.specs.Index.{index_width, type_width}
use Rattle.vertex.specs.Questions.{part_number}
use Rattle.vertex.specs.SceneCode.{scene_in}
use Rattle.vertex.proofs.Sources.{width_or, width_looked, no_type, part, part_asked, stored_list}
use Rattle.vertex.proofs.stored_indices.Goals as goal
use Rattle.vertex.proofs.stored_indices.Goals.{In_ok-kind, After-part}

pub returns-in_err-kind-clause-number : goal.returns-in_err-kind-clause-number
returns-in_err-kind-clause-number c =
    rw (no_type (scene_in c.args.s c.args.store.now c.args.guest.now) c.args.element c.args.count c.args.ty c.args.pointer
    (width_looked c.args.ty ∙ ap width_or (sym c.in_err-kind.ensures)))
    (search rules)

-- the width of the type that was found
width_found : (c : In_ok-kind) → index_width c.args.ty ≡ type_width c.in_ok-kind.kind
width_found c = width_looked c.args.ty ∙ ap width_or (sym c.in_ok-kind.ensures)

-- the part that the code asks for is the draw's
part_found : (c : After-part) → part_in c.part.result ≡ part (scene_in c.args.s c.args.store.now c.args.guest.now) c.args.element c.args.count c.args.pointer c.in_ok-kind.kind
part_found c =
    c.part.ensures
    ∙ ap (λ (w : ℕ). part_of (contents_of c.args.s.buffers.slots c.args.store.now) c.args.s.base c.args.guest.now c.args.element c.args.pointer (c.args.count * w))
    c.width.ensures

pub returns-in-Ok-clause-number : goal.returns-in-Ok-clause-number
returns-in-Ok-clause-number c =
    let args = c.args in
    let s = scene_in args.s args.store.now args.guest.now in
    let at = goal.at.returns-in-Ok-clause-number c in
    ap (λ (p : Part). part_number args.element (part_state p)) (sym (ap part_in c.in-Ok.is) ∙ part_found at.After-part)
    ∙ sym (part_asked s args.element args.count args.ty args.pointer c.in_ok-kind.kind (width_found at.In_ok-kind) (omega (arith, c)))

pub returns-in-Ok-clause-indices : goal.returns-in-Ok-clause-indices
returns-in-Ok-clause-indices c =
    let args = c.args in
    let s = scene_in args.s args.store.now args.guest.now in
    let at = goal.at.returns-in-Ok-clause-indices c in
    c.list.ensures
    ∙ stored_list s args.element args.count args.ty args.pointer c.in_ok-kind.kind (width_found at.In_ok-kind) (omega (arith, c)) c.in-Ok.bytes.now
    (sym (ap part_in c.in-Ok.is) ∙ part_found at.After-part)

pub returns-in-Err-clause-number : goal.returns-in-Err-clause-number
returns-in-Err-clause-number c =
    let args = c.args in
    let s = scene_in args.s args.store.now args.guest.now in
    let at = goal.at.returns-in-Err-clause-number c in
    c.part_refusal.ensures
    ∙ ap (part_number args.element) (sym (missing_state c.in-Err.missing) ∙ ap part_state (sym (ap part_in c.in-Err.is) ∙ part_found at.After-part))
    ∙ sym (part_asked s args.element args.count args.ty args.pointer c.in_ok-kind.kind (width_found at.In_ok-kind) (omega (arith, c)))
