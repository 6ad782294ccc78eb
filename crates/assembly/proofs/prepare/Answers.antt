-- `assembly::prepare` meets its contract: each way out is a case of the law on prepared arrays.
use Prim.Native.Nat.{ℕ, ◌*◌}
use mathlib.Core.Path.{◌≡◌, refl, sym, ap, subst, ◌∙◌}
use native.Mathlib.Omega.{arith}
use Rattle.buffers.specs.Objects.{contents_of}
use Rattle.fetch.proofs.Extents.{Covers, covers}
use Rattle.fetch.specs.declared.FetchFailure.{FetchFailure}
use Rattle.std.specs.Prelude.{Some, None}
use Rattle.assembly.specs.ElementsCode.{Prepares}
use Rattle.assembly.proofs.Preparing.{of_no_type, of_long, of_absent, of_short, of_whole}
use Rattle.assembly.proofs.prepare.Goals as goal

pub returns-then-width-eq0 : goal.returns-then-width-eq0
returns-then-width-eq0 c =
    let args = c.args in
    let m = args.memory.now in
    let w = c.from-width.ensures ∙ c.component_bytes.ensures in
    subst (Prepares (contents_of m.buffers.slots m.store.now) m.base m.store.now m.guest.now args.array)
    (sym c.without_elements.ensures)
    (of_no_type (contents_of m.buffers.slots m.store.now) m.base m.store.now m.guest.now args.array _ w c.if-width-eq0.true c.step_of-stride.result)

pub returns-then-len-gt-LAST_ADDRESS : goal.returns-then-len-gt-LAST_ADDRESS
returns-then-len-gt-LAST_ADDRESS c =
    let args = c.args in
    let m = args.memory.now in
    let w = c.from-width.ensures ∙ c.component_bytes.ensures in
    subst (Prepares (contents_of m.buffers.slots m.store.now) m.base m.store.now m.guest.now args.array)
    (sym c.without_elements-then-len-gt-LAST_ADDRESS.ensures)
    (of_long (contents_of m.buffers.slots m.store.now) m.base m.store.now m.guest.now args.array _ w c.if-width-eq0.false
    (rw c.from.ensures at c.if-len-gt-LAST_ADDRESS.true) c.step_of-stride.result)

pub returns-in_default : goal.returns-in_default
returns-in_default c =
    let args = c.args in
    let m = args.memory.now in
    let width = c.from-width.result in
    let len = width * c.from.result in
    let w = c.from-width.ensures ∙ c.component_bytes.ensures in
    let l : len ≡ width * args.array.size = ap (λ (k : ℕ). width * k) c.from.ensures in
    let apart = c.step_of-stride.ensures args.array refl (l ∙ ap (λ (k : ℕ). k * args.array.size) w) c.if-len-gt-LAST_ADDRESS.false in
    let extent = covers m.buffers.slots m.store.now m.guest.now m.base args.array.buffer _ c.find_extent.ensures in
    subst (Prepares (contents_of m.buffers.slots m.store.now) m.base m.store.now m.guest.now args.array)
    (sym (c.without_elements-in_default.ensures
    ∙ (λ i. record { array = args.array; failure = Some FetchFailure.NoBuffer; len = 0; stride = apart i; low = 1; last = 0; origin = 0 })))
    (of_absent (contents_of m.buffers.slots m.store.now) m.base m.store.now m.guest.now args.array width w c.if-width-eq0.false
    len l c.if-len-gt-LAST_ADDRESS.false (rw c.in_default.is at extent))

pub returns-then-x-len : goal.returns-then-x-len
returns-then-x-len c =
    let args = c.args in
    let m = args.memory.now in
    let width = c.from-width.result in
    let len = width * c.from.result in
    let w = c.from-width.ensures ∙ c.component_bytes.ensures in
    let l : len ≡ width * args.array.size = ap (λ (k : ℕ). width * k) c.from.ensures in
    let apart = c.step_of-stride.ensures args.array refl (l ∙ ap (λ (k : ℕ). k * args.array.size) w) c.if-len-gt-LAST_ADDRESS.false in
    let extent = covers m.buffers.slots m.store.now m.guest.now m.base args.array.buffer _ c.find_extent.ensures in
    subst (Prepares (contents_of m.buffers.slots m.store.now) m.base m.store.now m.guest.now args.array)
    (sym (c.without_elements-then-x-len.ensures
    ∙ (λ i. record { array = args.array; failure = Some FetchFailure.Unreadable; len = 0; stride = apart i; low = 1; last = 0; origin = 0 })))
    (of_short (contents_of m.buffers.slots m.store.now) m.base m.store.now m.guest.now args.array width w c.if-width-eq0.false
    len l c.if-len-gt-LAST_ADDRESS.false c.in-Some.x (rw c.in-Some.is at extent) c.if-x-len.true)

pub overflow_cast-result-2 : goal.overflow_cast-result-2
overflow_cast-result-2 c =
    let args = c.args in
    let m = args.memory.now in
    let extent = covers m.buffers.slots m.store.now m.guest.now m.base args.array.buffer _ c.find_extent.ensures in
    let there : Covers _ _ c.in-Some.x = rw c.in-Some.is at extent in
    omega (arith, there.near)

pub returns : goal.returns
returns c =
    let args = c.args in
    let m = args.memory.now in
    let width = c.from-width.result in
    let len = width * c.from.result in
    let w = c.from-width.ensures ∙ c.component_bytes.ensures in
    let l : len ≡ width * args.array.size = ap (λ (k : ℕ). width * k) c.from.ensures in
    let apart = c.step_of-stride.ensures args.array refl (l ∙ ap (λ (k : ℕ). k * args.array.size) w) c.if-len-gt-LAST_ADDRESS.false in
    let extent = covers m.buffers.slots m.store.now m.guest.now m.base args.array.buffer _ c.find_extent.ensures in
    let x = c.in-Some.x in
    subst (λ (k : ℕ). Prepares (contents_of m.buffers.slots m.store.now) m.base m.store.now m.guest.now args.array
    (record { array = args.array; failure = None; len = len; stride = k; low = x.low; last = c.last_address.result; origin = x.origin }))
    (sym apart)
    (of_whole (contents_of m.buffers.slots m.store.now) m.base m.store.now m.guest.now args.array width w c.if-width-eq0.false
    len l c.if-len-gt-LAST_ADDRESS.false x (rw c.in-Some.is at extent) c.if-x-len.false _ c.last_address.ensures)
