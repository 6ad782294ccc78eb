-- The proof of specs/Settles.antt: a call is valid or it is not, and either way its answer is said. Assumes nothing.
use mathlib.Core.List.{List}
use mathlib.Core.Logic.{⊎_elim}
use mathlib.Core.Option.{Option, some}
use mathlib.Core.Path.{◌≡◌, sym, ap, ◌∙◌}
use Prim.Native.Nat.{ℕ, ◌<◌}
use native.Mathlib.Omega.{arith}
use lib.Ieee.{Float}
use lib.ListN.{length, length-take, length-drop}
use Rattle.vertex.specs.Scene.{DrawCall}
use Rattle.draw.specs.Draw.{Drawing, Drawn, Draws}
use Rattle.buffers.specs.Objects.{slot_count, store_bytes, absent, bytes_of, len_at, slot_of, contents_of, gen_first}
use Rattle.buffers.specs.declared.Slot.{Slot}
use Rattle.buffers.specs.declared.Buffers.{Buffers}
use Rattle.buffers.proofs.Bounds.{never}
use Rattle.buffers.proofs.Slots.{slot_cases, slot_found, contents_none, contents_some}
use Rattle.context.specs.declared.Context.{Context}
use Rattle.context.specs.State.{State, state_of, Sound}
use Rattle.context.specs.Calls.{Call, draw}
use Rattle.context.specs.Rules.{error_code}
use Rattle.context.specs.Contract.{put_buffers, noted, Valid, StillMakes, RefusalKeeps, Follows, Did, Drew}
use Rattle.context.specs.Settles.{Agree, Settles}
use Rattle.context.proofs.Parts.{valid_decided}

-- the state and the stacks have every part of the context but the slots
same_parts : (c c' : Context) (s s' : List ℕ) → state_of c s ≡ state_of c' s' → c.stacks ≡ c'.stacks → put_buffers c'.buffers c ≡ c'
same_parts c c' s s' p q =
    λ i. record {
      mode = (p i).mode;
      stacks = q i;
      buffers = c'.buffers;
      arrays = (p i).objects.arrays;
      attributes = (p i).attributes;
      pipeline = (p i).pipeline;
      error = (p i).error;
    }

-- a refusal that makes no name changes the error slot alone
kept_but_noted : (call : Call) (c : Context) (s : List ℕ) (n : ℕ) {c1 : Context} → (StillMakes call n c s → ⊥) → RefusalKeeps call n c s c1 → c1 ≡ noted n c
kept_but_noted call c s n unmade r = ⊎_elim (λ e. e) (λ m. absurd (unmade m.0)) r

-- a name that holds bytes has a slot
slot_live : (slots : List Slot) (s : List ℕ) (m : ℕ) {bytes : List ℕ} → contents_of slots s m ≡ some bytes → slot_of slots m < slot_count
slot_live slots s m e =
    ⊎_elim (λ f. never (absent (contents_of slots s m)) (ap absent (contents_none slots s m f.1)) (ap absent e)) (λ f. f.0) (slot_cases slots m)

-- a live name's slot has the length of its bytes
live_length : (c : Context) (s : List ℕ) (m : ℕ) → Sound c → length s ≡ store_bytes → 0 < m → slot_of c.buffers.slots m < slot_count
    → length (bytes_of (contents_of c.buffers.slots s m)) ≡ len_at c.buffers.slots (slot_of c.buffers.slots m)
live_length c s m sound size pos h =
    let slots = c.buffers.slots in
    let name = slot_found slots m h in
    let small = sound.buffers.small (slot_of slots m) h (omega arith) in
    ap (λ (x : Option (List ℕ)). length (bytes_of x)) (contents_some slots s m pos h) ∙ simp (length-take, length-drop) (omega arith)

module _ {call : Call} {c c1 c1' : Context} {s s1 s1' : List ℕ} {n n' : ℕ} (d : Did call c s n c1 s1) (d' : Did call c s n' c1' s1') where
  -- the state has the bytes of live names, and so their lengths
  live_agree : Follows call c s n c1 s1 → Follows call c s n' c1' s1' → length s1 ≡ store_bytes → (m : ℕ) → 0 < m → slot_of c1.buffers.slots m < slot_count
      → len_at c1.buffers.slots (slot_of c1.buffers.slots m) ≡ len_at c1'.buffers.slots (slot_of c1'.buffers.slots m)
  live_agree f f' size m pos h =
      let same : contents_of c1.buffers.slots s1 m ≡ contents_of c1'.buffers.slots s1' m =
      ap (λ (x : State). x.objects.buffers.contents m) (f.state ∙ sym f'.state) in
      let size' : length s1' ≡ store_bytes = d'.size ∙ sym d.size ∙ size in
      sym (live_length c1 s1 m f.sound size pos h) ∙ ap (λ (x : Option (List ℕ)). length (bytes_of x)) same
      ∙ live_length c1' s1' m f'.sound size' pos (slot_live c1'.buffers.slots s1' m (sym same ∙ contents_some c1.buffers.slots s1 m pos h))

  valid_agree : Follows call c s n c1 s1 → Follows call c s n' c1' s1' → Agree call c s n n' c1 c1' s1 s1'
  valid_agree f f' =
      let number = f.number ∙ sym f'.number in
      let parts = same_parts c1 c1' s1 s1' (f.state ∙ sym f'.state) (f.stacks ∙ sym f'.stacks) in
      record {
        number = number;
        state = f.state ∙ sym f'.state;
        stacks = f.stacks ∙ sym f'.stacks;
        parts = parts;
        slots = λ e. ap (λ (b : Buffers). put_buffers b c1) (f.slots e ∙ sym (f'.slots e)) ∙ parts;
        free = λ k h z z'. f.free.lengths k h z ∙ sym (f'.free.lengths k h z');
        live = live_agree f f';
        refusal = λ h.
            let r = f.refusal h in
            let r' = f'.refusal (λ e. h (number ∙ e)) in (
              r.1 ∙ sym r'.1,
              λ unmade. kept_but_noted call c s n unmade r.0 ∙ ap (λ (x : ℕ). noted x c) number
                  ∙ sym (kept_but_noted call c s n' (λ m. unmade (m.0, number ∙ m.1)) r'.0),
            );
        size = d.size ∙ sym d'.size;
      }

  invalid_agree : (Valid call c s → ⊥) → Agree call c s n n' c1 c1' s1 s1'
  invalid_agree i =
      let same : c1 ≡ c1' = (d.invalid i).1 ∙ sym (d'.invalid i).1 in
      let store : s1 ≡ s1' = (d.invalid i).2 ∙ sym (d'.invalid i).2 in
      let state : state_of c1 s1 ≡ state_of c1' s1' = (λ j. state_of (same j) (store j)) in
      record {
        number = (d.invalid i).0 ∙ sym (d'.invalid i).0;
        state = state;
        stacks = ap (λ (x : Context). x.stacks) same;
        parts = same_parts c1 c1' s1 s1' state (ap (λ (x : Context). x.stacks) same);
        slots = λ e. same;
        free = λ k h z z'. ap (λ (x : Context). len_at x.buffers.slots k) same;
        live = λ size m pos h. ap (λ (x : Context). len_at x.buffers.slots (slot_of x.buffers.slots m)) same;
        refusal = λ h. (store, λ _. same);
        size = d.size ∙ sym d'.size;
      }

  calls_agree : Agree call c s n n' c1 c1' s1 s1'
  calls_agree = ⊎_elim (λ v. valid_agree (d.follows v) (d'.follows v)) invalid_agree (valid_decided call c s)

drawn_agree : {g : Drawing} {r r' : Drawn} {out out1 out1' : List Float} → Draws g r out out1 → Draws g r' out out1' → (r.count ≡ r'.count) × (out1 ≡ out1')
drawn_agree p q = (p.count ∙ sym q.count, p.output ∙ sym q.output)

draws_agree : {d : DrawCall} {c : Context} {s : List ℕ} {r r' : Drawn} {out out1 out1' : List Float} → Drew d c s r out out1 → Drew d c s r' out out1'
    → (r.count ≡ r'.count) × (out1 ≡ out1')
draws_agree {d = d} {c = c} {s = s} p q =
    ⊎_elim (λ v. drawn_agree (p.drawn v) (q.drawn v)) (λ i. ((p.invalid i).0 ∙ sym (q.invalid i).0, (p.invalid i).1 ∙ sym (q.invalid i).1)) (valid_decided (draw d) c s)

pub settles : Settles
settles =
    record {
      calls = calls_agree;
      draws = draws_agree;
      first = λ {m = m} {c = c} p q. ap (λ (x : ℕ). gen_first x c.buffers.next m) (calls_agree p q).number;
      code = λ {c = c} p q. ap (λ (x : ℕ). error_code x c.error) (calls_agree p q).number;
    }
