-- `text::put_number` meets its contract.
use mathlib.Core.Path.{ap, ◌∙◌}
use Prim.Native.Nat.{◌≤◌}
use native.Mathlib.Omega.{arith}
use lib.ListN.{replicate}
use Rattle.trace_text.specs.Text.{page, put_text, spaced}
use Rattle.trace_text.proofs.Laws.{behind, decimal_is, few}
use Rattle.trace_text.proofs.put_number.Goals as goal

pub returns : goal.returns
returns c =
    let a = c.args in
    let p = c.put.ensures in
    let q = c.put-end in
    let d = c.decimal-k in
    let most : d.result ≤ 20 = few d.result a.n d.ensures.len (omega (arith, c.ranges.n)) in
    let digits = d.ensures.digits ∙ decimal_is d.result a.n d.ensures.len in
    record {
      prefix_len = p.prefix_len;
      result_after = p.result_after ∙ ap (put_text (page a.area.now a.at)) (behind 32 (replicate 20 32) _ _ q.result (omega arith) q.ensures.result_after ∙ ap spaced digits);
    }
