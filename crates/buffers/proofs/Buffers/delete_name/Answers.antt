use Rattle.std.proofs.Common.{rules, arith, sym}
use mathlib.Core.Path.{refl}
use Rattle.number.proofs.Lists.{length_mapped}
use Rattle.buffers.proofs.Removal.{skip_zero, skip_unknown, deleted}
use Rattle.buffers.proofs.Buffers.delete_name.Goals as goal

pub returns-then-name-eq0 : goal.returns-then-name-eq0
returns-then-name-eq0 c = skip_zero _ _ c.requires c.if-name-eq0.true

pub returns-in-Some : goal.returns-in-Some
returns-in-Some c =
    deleted _ _ c.requires c.if-name-eq0.false _ (sym c.in-Some.ensures.1) (search (length_mapped, rules)) c.in-Some.ensures.0 _ refl _ _
    c.cleared-self.ensures c.cleared-self-in-Some.ensures

pub returns-in_default : goal.returns-in_default
returns-in_default c = skip_unknown _ _ c.requires c.if-name-eq0.false _ (sym c.in_default.ensures) (omega arith)
