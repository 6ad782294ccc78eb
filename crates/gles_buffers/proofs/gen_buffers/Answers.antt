-- `gles_buffers::gen_buffers` meets its contract, from the call on the buffers.
use mathlib.Core.Path.{◌≡◌, refl, ◌∙◌}
use Prim.Native.Nat.{ℕ}
use Rattle.std.specs.Prelude.{Result, Ok, Err}
use Rattle.std.specs.Result.{result_unwrap_or}
use Rattle.refusal.specs.declared.Refusal.{Refusal}
use Rattle.buffers.specs.Objects.{first_in}
use Rattle.context.proofs.Entries.{unsound_apart, buffer_does}
use Rattle.gles_buffers.proofs.gen_buffers.Goals as goal

first_made : (r : Result ℕ Refusal) → result_unwrap_or r 0 ≡ first_in r
first_made (Ok n) = refl
first_made (Err e) = refl

pub returns-then-not-is_sound_apart : goal.returns-then-not-is_sound_apart
returns-then-not-is_sound_apart c =
    rw c.refuse-number.ensures
    (record { does = λ s. unsound_apart _ _ s (c.is_sound_apart.ensures.no c.if-not-is_sound_apart.true); first = refl })

pub returns : goal.returns
returns c =
    let made = c.generate-made in
    rw (c.put_buffers-number.ensures, c.number_of.ensures)
    (record {
      does = buffer_does _ _ _ _ (c.is_sound_apart.ensures.yes c.if-not-is_sound_apart.false) refl made.ensures.answers;
      first = c.unwrap_or.ensures ∙ first_made made.result ∙ made.ensures.names;
    })
