-- Demand 3 through the boundary: the lists that a host has run on a kept context, one after the other, are one list of calls.
--     history_starts      a fresh context has no calls behind it
--     history_goes_on     a list puts its calls behind those before it, and its draws are by the rules on all of them
-- Assumes nothing.
use mathlib.Core.List.{List, [], ◌++◌}
use mathlib.Core.Path.{◌≡◌, subst⁻¹}
use Prim.Native.Nat.{ℕ}
use lib.ListN.{length}
use lib.Ieee.{Float}
use Rattle.buffers.specs.Objects.{store_bytes}
use Rattle.context.specs.declared.Context.{Context}
use Rattle.context.specs.Calls.{Call}
use Rattle.history.specs.Demand3.{History, start}
use Rattle.list_runner.specs.Lists.{decode}
use Rattle.list_runner.specs.Run.{output_from}
use Rattle.list_runner.proofs.Running.{continues}
use Rattle.station.specs.declared.Kept.{Kept}
use Rattle.station.specs.declared.StationReply.{StationReply}
use Rattle.station.specs.Kept.{context_from}
use Rattle.station.specs.Boundary.{Encodes, FreshKept, Ran}
use Rattle.station.proofs.Back.{back, encodes}

pub history_starts : {k : Kept} {s : List ℕ} → FreshKept k → length s ≡ store_bytes → History [] (context_from k) s
history_starts f e = start f.fresh e

module _ {k k1 : Kept} {s words bytes s1 : List ℕ} {out out1 : List Float} {r : StationReply} (is : Encodes k) (g : Ran k s words bytes out r k1 s1 out1) where
  pub encodes_after : Encodes k1
  encodes_after = subst⁻¹ Encodes (g.made is).kept (encodes (g.made is).list.context)

  pub history_goes_on : {before : List Call} → History before (context_from k) s
      → History (before ++ decode bytes (length out) words) (context_from k1) s1 × (out1 ≡ output_from before (decode bytes (length out) words) out)
  history_goes_on {before = before} h =
      let m = g.made is in
      let q = continues h m.makes in
      let all = before ++ decode bytes (length out) words in (
        subst⁻¹ (λ (x : Kept). History all (context_from x) s1) m.kept (subst⁻¹ (λ (c : Context). History all c s1) (back m.list.context) q.history),
        q.output,
      )
