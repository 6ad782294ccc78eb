-- `text::put_float` meets its contract.
use mathlib.Core.Path.{ap, ◌∙◌}
use mathlib.Core.List.{List}
use Prim.Native.Nat.{ℕ}
use Rattle.trace_text.specs.Text.{page, put_text, spaced, hex}
use Rattle.trace_text.proofs.Laws.{eight}
use Rattle.trace_text.proofs.put_float.Goals as goal

pub returns : goal.returns
returns c =
    let a = c.args in
    let p = c.put.ensures in
    let h = c.hex_digits-h in
    let b = c.shown_bits in
    record {
      prefix_len = p.prefix_len;
      result_after = p.result_after ∙ ap (λ (l : List ℕ). put_text (page a.area.now a.at) (spaced l)) (eight h.result b.result h.ensures ∙ ap hex b.ensures);
    }
