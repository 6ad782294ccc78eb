-- `assembly::first_failing` meets its contract: no place before i fails.
use mathlib.Core.Path.{sym, ◌∙◌}
use native.Mathlib.Nat.{sub-zero}
use native.Mathlib.Omega.{arith}
use Rattle.buffers.specs.Bounded.{first}
use Rattle.vertex.specs.Questions.{fails}
use Rattle.vertex.specs.SceneCode.{scene_in, index_list}
use Rattle.vertex.proofs.Search.{first_pass, first_found, first_none}
use Rattle.assembly.proofs.Fetching.{position_passes, position_fails}
use borrow.Author.Rules.{rules}
use Rattle.assembly.proofs.first_failing.Goals as goal

pub loop-i-init : goal.loop-i-init
loop-i-init c = (search rules, λ s h. rw sub-zero)

pub loop-i-preserved : goal.loop-i-preserved
loop-i-preserved c =
    let is = index_list c.args.list in (
      omega (arith, c.if-n-i.false),
      λ s h.
          first_pass (fails s is) _ _ c.if-n-i.false
          (position_passes s c.args.store.now is _ h _ _ c.index.ensures (sym c.find_element.ensures ∙ c.in-Ok.is))
          ∙ c.loop-i.invariant.1 s h,
    )

pub returns-then-n-i : goal.returns-then-n-i
unfolding first
returns-then-n-i c =
    let s = scene_in c.args.s c.args.store.now c.args.guest.now in
    let is = index_list c.args.list in
    sym (first_none (fails s is) _ _ c.if-n-i.true) ∙ c.loop-i.invariant.1 s c.prepare-e.ensures

pub returns-in-Err : goal.returns-in-Err
unfolding first
returns-in-Err c =
    let s = scene_in c.args.s c.args.store.now c.args.guest.now in
    let is = index_list c.args.list in
    sym (first_found (fails s is) _ _ c.if-n-i.false
    (position_fails s c.args.store.now is _ c.prepare-e.ensures _ _ c.index.ensures (sym c.find_element.ensures ∙ c.in-Err.is)))
    ∙ c.loop-i.invariant.1 s c.prepare-e.ensures
