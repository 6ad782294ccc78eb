-- `text::put` meets its contract: the place lies within the bytes, and the text fits or not.
use mathlib.Core.Path.{ap, ◌∙◌}
use mathlib.Core.List.{List}
use Prim.Native.Nat.{ℕ, ◌+◌, ◌≤◌}
use native.Mathlib.Omega.{arith}
use lib.ListN.{length}
use Rattle.io.proofs.Counting.{prefix_len_of_le}
use Rattle.trace_text.specs.Text.{page}
use Rattle.trace_text.proofs.Laws.{put_fits, put_full, placed, longer}
use Rattle.trace_text.proofs.put.Goals as goal

pub returns-then-area-start : goal.returns-then-area-start
returns-then-area-start c =
    let a = c.args in
    let s = c.start_of-start in
    record {
      prefix_len = prefix_len_of_le _ _ (omega arith);
      result_after = put_full a.area.now a.at a.text.now s.result s.ensures (omega arith);
    }

pub returns : goal.returns
returns c =
    let a = c.args in
    let s = c.start_of-start in
    let e = placed a.area.now s.result a.text.now _ c.copy_from_slice.ensures.after in
    let fits = put_fits a.area.now a.at a.text.now s.result s.ensures (omega arith) in
    let within : s.result + length a.text.now ≤ length a.area.now = omega arith in
    record {
      prefix_len = prefix_len_of_le _ _ (omega (arith, ap length e, longer a.area.now s.result a.text.now within));
      result_after = ap (λ (d : List ℕ). page d (s.result + length a.text.now)) e ∙ fits;
    }
