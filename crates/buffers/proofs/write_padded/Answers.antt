-- `write_padded` meets its contract: the data, then zeroes.
use Rattle.std.proofs.Common.{◌∙◌, ap, arith}
use Rattle.std.proofs.Math.ListN.{replicate, length-take, length-drop}
use Rattle.buffers.proofs.Bytes.{copied_filled}
use Rattle.buffers.proofs.write_padded.Goals as goal

pub returns : goal.returns
returns c =
    let a = c.args in
    copied_filled a.store.now a.at c.min-n.result a.size a.«data».now _ _ c.requires c.min-n.ensures c.copy_from_slice.ensures.after
    (c.fill.ensures.after (λ y e. e)
    ∙ ap (λ n. replicate n 0) (simp (length-take, length-drop) (omega (arith, c.requires, c.min-n.ensures))))
