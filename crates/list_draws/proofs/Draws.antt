-- From the words of a draw to the draw. Assumes nothing.
use mathlib.Core.List.{List, ◌++◌}
use mathlib.Core.Path.{◌≡◌, refl, sym, ap, subst}
use Prim.Native.Nat.{ℕ, ◌≤◌, min}
use native.Mathlib.Omega.{arith}
use lib.ListN.{length, take, drop}
use lib.Seq.{length-take-le}
use lib.Ieee.{Float}
use Rattle.vertex.specs.Scene.{Source, DrawCall}
use Rattle.context.specs.declared.Context.{Context}
use Rattle.context.specs.declared.DrawReply.{DrawReply}
use Rattle.context.specs.Contract.{draw_call}
use Rattle.history.specs.Demand3.{DrawDid}
use Rattle.list_draws.specs.declared.DrawWords.{DrawWords}
use Rattle.list_words.specs.Words.{long_at, bytes_at}
use Rattle.list_records.specs.Encoding.{draw_of_words}
use Rattle.list_records.specs.Perform.{DrewIn}
use Rattle.list_draws.specs.Words.{draw_words}

module _ (w : List ℕ) (out : List Float) (d : DrawWords) (e : d ≡ draw_words w (length out)) where
  -- the room is within the output
  room_fits : d.room ≤ length out
  room_fits = let q : d.room ≡ min (long_at w 2) (length out) = ap (λ (x : DrawWords). x.room) e in omega arith

  room_is : d.room ≡ length (take d.room out)
  room_is = sym (length-take-le d.room out room_fits)

  pub drew_in : (bytes guest : List ℕ) → guest ≡ bytes_at bytes (long_at w 5) (long_at w 7) → (source source' : Source) → source ≡ source'
      → {c : Context} {s : List ℕ} {r : DrawReply} {part : List Float}
      → DrawDid (draw_call source d.mode d.stages d.base guest (length (take d.room out))) c s r (take d.room out) part
      → DrewIn (draw_of_words bytes (length out) source' w) c s out r (part ++ drop d.room out)
  drew_in bytes guest g source source' q {c = c} {s = s} {r = r} {part = part} m =
      let there = bytes_at bytes (long_at w 5) (long_at w 7) in
      subst (λ (x : DrawWords). DrewIn (draw_call source' x.mode x.stages x.base there x.room) c s out r (part ++ drop d.room out)) e
      (record {
        part = part;
        did = subst (λ (k : DrawCall). DrawDid k c s r (take d.room out) part) (λ i. draw_call (q i) d.mode d.stages d.base (g i) (sym room_is i)) m;
        room = room_fits;
        output = refl;
      })
