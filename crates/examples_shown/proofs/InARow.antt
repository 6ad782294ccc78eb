-- The two calls in a row. Assumes nothing.
use mathlib.Core.Bool.{false}
use mathlib.Core.List.{List, []}
use mathlib.Core.Path.{refl, ap, subst, ◌∙◌}
use Prim.Native.Nat.{ℕ}
use Rattle.buffers.proofs.Bounds.{never}
use Rattle.arrays.specs.Arrays.{ArrayCall}
use Rattle.context.specs.declared.Context.{Context}
use Rattle.context.specs.State.{Sound, Fresh}
use Rattle.context.specs.Calls.{object, array}
use Rattle.context.specs.Rules.{step}
use Rattle.context.specs.Contract.{Valid, Does}
use Rattle.examples_shown.specs.Shown.{pointed, enabled, with_vertices, HasVertices, HasPositions}

valid : {k : ArrayCall} {c : Context} {s : List ℕ} → Sound c → Valid (object (array k)) c s
valid h = record { sound = h; store = λ e. never false e refl }

pub made : {size ty pointer m n : ℕ} {c a b : Context} → Does (pointed size ty pointer) c m a → Does enabled a n b → HasVertices size ty pointer c b
made d e =
    record {
      sound = λ h. ((e []).follows (valid ((d []).follows (valid h)).sound)).sound;
      state = λ h s. let f = (d s).follows (valid h) in ((e s).follows (valid f.sound)).state ∙ ap (step enabled) f.state;
      unsound = λ q. let stays = ((d []).invalid (λ v. q v.sound)).1 in ((e []).invalid (λ v. q (subst Sound stays v.sound))).1 ∙ stays;
    }

pub from_fresh : {c b : Context} → Fresh c → HasVertices 3 0x1400 4096 c b → HasPositions b
from_fresh f h = record { sound = h.sound f.sound; state = λ s. h.state f.sound s ∙ ap (with_vertices 3 0x1400 4096) (f.state s) }
