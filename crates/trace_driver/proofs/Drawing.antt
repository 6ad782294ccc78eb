-- A draw with its arguments said in another way. Assumes nothing.
use mathlib.Core.List.{List}
use mathlib.Core.Path.{◌≡◌, subst}
use Prim.Native.Nat.{ℕ}
use lib.Ieee.{Float}
use Rattle.vertex.specs.Scene.{Source, DrawCall}
use Rattle.context.specs.declared.Context.{Context}
use Rattle.context.specs.declared.DrawReply.{DrawReply}
use Rattle.context.specs.Contract.{draw_call}
use Rattle.history.specs.Demand3.{DrawDid}

pub did_as : {source source' : Source} {mode mode' stages stages' base room : ℕ} {guest s : List ℕ} {c : Context} {out out1 : List Float} {r : DrawReply}
    → source ≡ source' → mode ≡ mode' → stages ≡ stages'
    → DrawDid (draw_call source mode stages base guest room) c s r out out1 → DrawDid (draw_call source' mode' stages' base guest room) c s r out out1
did_as {base = base} {room = room} {guest = guest} {s = s} {c = c} {out = out} {out1 = out1} {r = r} x m t did =
    subst (λ (d : DrawCall). DrawDid d c s r out out1) (λ i. draw_call (x i) (m i) (t i) base guest room) did
