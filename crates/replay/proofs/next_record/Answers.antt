-- `next_record` meets its contract.
use Rattle.std.proofs.Common.{ℕ, ap, ◌∙◌}
use Rattle.trace_driver.specs.Permitted.{is_permitted}
use Rattle.replay.proofs.Replaying.{comes}
use Rattle.replay.proofs.next_record.Goals as goal

pub returns : goal.returns
returns c =
    let words = c.record_of.result.words.now in
    comes c.in_ok-h.ensures words c.record_of.ensures.words _
    (c.is_permitted.ensures ∙ ap (λ (code : ℕ). is_permitted c.args.c c.args.v code words) c.record_of.ensures.code) c.if-not-is_permitted.false
