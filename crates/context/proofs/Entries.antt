-- From what the inner functions ensure to an entry's contract: one law for each group of calls. Assumes nothing.
use mathlib.Core.Bool.{Bool, true, false, not, cond, ◌&&◌}
use mathlib.Core.List.{List}
use mathlib.Core.Logic.{◌⊎◌, inl, inr, ⊎_elim}
use mathlib.Core.Option.{Option, get_or, some, none}
use mathlib.Core.Path.{◌≡◌, refl, sym, ap, subst, ◌∙◌}
use Prim.Native.Nat.{ℕ, ◌+◌, ◌<◌, max}
use native.Mathlib.Omega.{arith}
use borrow.Author.Tests.{ne_eqb}
use lib.Dec.{eqb, ltb, leb}
use lib.Ieee.{Float}
use lib.ListN.{length}
use Rattle.std.proofs.Common.{Result, Ok, Err}
use Rattle.std.specs.Result.{result_and}
use Rattle.number.specs.Decides.{Decides}
use Rattle.number.specs.Tables.{lookup}
use Rattle.refusal.specs.declared.Refusal.{Refusal}
use Rattle.refusal.specs.Refusals.{refusal_number, number_in, Answer, answer}
use Rattle.matrix.specs.Matrix.{product}
use Rattle.stack.specs.Stack as stack
use Rattle.stack.specs.declared.MatrixStack.{MatrixStack}
use Rattle.stack.proofs.Stacks.{is_two, follows, stack_stays, fresh_sound, fresh_state_law}
use Rattle.buffers.specs.Objects as buffer
use Rattle.buffers.specs.declared.Buffers.{Buffers}
use Rattle.buffers.proofs.Bounds.{never}
use Rattle.buffers.proofs.Free.{free_same}
use Rattle.buffers.proofs.Laws.{live_below}
use Rattle.arrays.specs.Arrays.{unit_count, ArrayCall, array_step, fresh_arrays}
use Rattle.arrays.specs.Attributes.{AttributeCall, attribute_step, fresh_attributes}
use Rattle.arrays.specs.declared.Arrays.{Arrays}
use Rattle.arrays.specs.declared.Attributes.{Attributes}
use Rattle.arrays.proofs.Laws.{array_keeps, attribute_keeps, client_stays}
use Rattle.pipeline.specs.Pipeline.{PipelineCall, pipeline_step, fresh_pipeline}
use Rattle.pipeline.specs.declared.Pipeline.{Pipeline}
use Rattle.pipeline.proofs.Laws.{refusal_keeps, active_stays}
use Rattle.vertex.specs.Scene.{Source, DrawCall}
use Rattle.vertex.specs.SceneCode.{scene_in}
use Rattle.vertex.specs.declared.DrawInputs.{DrawInputs}
use Rattle.draw.specs.Draw.{Drawn, draw_in, Draws}
use Rattle.context.specs.declared.MatrixMode.{MatrixMode}
use Rattle.context.specs.declared.Stacks.{Stacks}
use Rattle.context.specs.declared.Context.{Context}
use Rattle.context.specs.declared.Currents.{Currents}
use Rattle.context.specs.declared.Reply.{Reply}
use Rattle.context.specs.State.{stack_at, state_of, Sound, Fresh}
use Rattle.context.specs.Calls as calls
use Rattle.context.specs.Calls.{BufferCall, gen_buffers, bind_buffer, delete_buffers, buffer_data, buffer_sub_data, Call, is_upload, borrows_store}
use Rattle.context.specs.Rules.{matrix_modes, known_number, mode_after, same_mode, buffer_answer, makes_name, drawing, slot_after}
use Rattle.context.specs.Contract.{put_stack, put_buffers, put_error, noted, Valid, RefusalKeeps, Follows, Did, Does, Drew, draw_call}
use Rattle.context.specs.ContractCode.{SoundApart, current_at, put_current, currents_of, with_current, put_currents, put_mode, put_stacks, put_arrays, put_attributes}
use Rattle.context.specs.ContractCode.{put_pipeline, reply, currents_reply, multiplied, Settled, inputs_for}

-- ---- soundness

-- a test that says no, of what fails or of what a part of it fails
pub part_unsound : {P : Type 0} → (P → ⊥) → Decides P false
part_unsound h = record { yes = λ e. absurd (never false e refl); no = λ _. h }

pub some_unsound : (t : Stacks) (m : MatrixMode) → (stack.Sound (stack_at m t) → ⊥) → Decides ((m : MatrixMode) → stack.Sound (stack_at m t)) false
some_unsound t m h = part_unsound (λ all. h (all m))

pub all_sound : (t : Stacks) {b : Bool} → stack.Sound t.modelview → stack.Sound t.projection → Decides (stack.Sound t.texture) b
    → Decides ((m : MatrixMode) → stack.Sound (stack_at m t)) b
all_sound t p q d = record { yes = λ e. three (d.yes e); no = λ e all. d.no e (all MatrixMode.Texture) }
  where
    three : stack.Sound t.texture → (m : MatrixMode) → stack.Sound (stack_at m t)
    three r MatrixMode.Modelview = p
    three r MatrixMode.Projection = q
    three r MatrixMode.Texture = r

pub apart_sound : (c : Context) {b : Bool} → c.arrays.client_active_texture < unit_count → c.pipeline.active_texture < unit_count
    → Decides ((m : MatrixMode) → stack.Sound (stack_at m c.stacks)) b → Decides (SoundApart c) b
apart_sound c p q d = record { yes = λ e. record { stacks = d.yes e; client_unit_in = p; active_unit_in = q }; no = λ e h. d.no e h.stacks }

pub whole_sound : (c : Context) {b : Bool} → SoundApart c → Decides (buffer.Sound c.buffers) b → Decides (Sound c) b
whole_sound c h d =
    record { yes = λ e. record { stacks = h.stacks; buffers = d.yes e; client_unit_in = h.client_unit_in; active_unit_in = h.active_unit_in }; no = λ e w. d.no e w.buffers }

pub ready : {P Q : Type 0} {b : Bool} → Q → Decides P b → Decides (P × Q) b
ready q d = record { yes = λ e. (d.yes e, q); no = λ e h. d.no e h.0 }

-- no reason of a refusal has the number of done
refused : (r : Refusal) → refusal_number r ≡ 0 → ⊥
refused r e = never (eqb (refusal_number r) 0) (ap (λ (n : ℕ). eqb n 0) e) (above r)
  where
    above : (r : Refusal) → eqb (refusal_number r) 0 ≡ false
    above Refusal.Invalid = refl
    above Refusal.GuestTooLong = refl
    above Refusal.UnknownStage = refl
    above Refusal.NoSlot = refl
    above Refusal.NoName = refl
    above Refusal.TooLarge = refl
    above Refusal.UnreadableIndices = refl
    above Refusal.NoVertices = refl
    above Refusal.NoPosition = refl
    above Refusal.NoTriangles = refl
    above Refusal.NoRoom = refl
    above Refusal.InvalidEnum = refl
    above Refusal.InvalidValue = refl
    above Refusal.InvalidOperation = refl
    above Refusal.StackOverflow = refl
    above Refusal.StackUnderflow = refl

-- ---- calls that are not valid

pub apart : {c : Context} → Sound c → SoundApart c
apart h = record { stacks = h.stacks; client_unit_in = h.client_unit_in; active_unit_in = h.active_unit_in }

pub unsound_apart : (call : Call) (c : Context) (s : List ℕ) → (SoundApart c → ⊥) → Did call c s 1 c s
unsound_apart call c s h = record { invalid = λ _. (refl, refl, refl); follows = λ v. absurd (h (apart v.sound)); size = refl }

pub unsound : (call : Call) (c : Context) (s : List ℕ) → (Sound c → ⊥) → Did call c s 1 c s
unsound call c s h = record { invalid = λ _. (refl, refl, refl); follows = λ v. absurd (h v.sound); size = refl }

-- ---- calls on a sound context that do not borrow the store

pub settled : {c : Context} {r out : Reply} → Sound c → out ≡ r → Settled c r out
settled h e = record { sound = λ _. e; unsound = λ q. absurd (q h) }

pub settled_unsound : {c : Context} {r : Reply} → (Sound c → ⊥) → Settled c r (reply 1 c)
settled_unsound h = record { sound = λ q. absurd (h q); unsound = λ _. refl }

module _ (call : Call) (c : Context) (none-borrowed : borrows_store call ≡ false) where
  valid : (s : List ℕ) → Sound c → Valid call c s
  valid s h = record { sound = h; store = λ e. never (borrows_store call) e none-borrowed }

  pub does : (n : ℕ) (c' : Context) → Sound c → ((s : List ℕ) → Follows call c s n c' s) → Does call c n c'
  does n c' h f s = record { invalid = λ q. absurd (q (valid s h)); follows = λ v. f s; size = refl }

  settled_does : (r out : Reply) → Settled c r out → (Sound c → (s : List ℕ) → Follows call c s r.number r.context s) → Does call c out.number out.context
  settled_does r out g f s =
      record {
        invalid = λ q. let u = g.unsound (λ h. q (valid s h)) in (ap (λ x. x.number) u, ap (λ x. x.context) u, refl);
        follows = λ v. rw (g.sound v.sound) (f v.sound s);
        size = refl;
      }

-- ---- matrix calls

-- what holds of the new stack and of the two others holds of the three
put_all : (P : MatrixMode → MatrixStack → Type 0) (now : MatrixMode) (t : Stacks) (u : MatrixStack) → P now u
    → ((m : MatrixMode) → same_mode m now ≡ false → P m (stack_at m t)) → (m : MatrixMode) → P m (stack_at m (put_stack now u t))
put_all P MatrixMode.Modelview t u new old MatrixMode.Modelview = new
put_all P MatrixMode.Modelview t u new old MatrixMode.Projection = old MatrixMode.Projection refl
put_all P MatrixMode.Modelview t u new old MatrixMode.Texture = old MatrixMode.Texture refl
put_all P MatrixMode.Projection t u new old MatrixMode.Modelview = old MatrixMode.Modelview refl
put_all P MatrixMode.Projection t u new old MatrixMode.Projection = new
put_all P MatrixMode.Projection t u new old MatrixMode.Texture = old MatrixMode.Texture refl
put_all P MatrixMode.Texture t u new old MatrixMode.Modelview = old MatrixMode.Modelview refl
put_all P MatrixMode.Texture t u new old MatrixMode.Projection = old MatrixMode.Projection refl
put_all P MatrixMode.Texture t u new old MatrixMode.Texture = new

same_mode_law : (m : MatrixMode) → same_mode m m ≡ true
same_mode_law MatrixMode.Modelview = refl
same_mode_law MatrixMode.Projection = refl
same_mode_law MatrixMode.Texture = refl

put_same : (m : MatrixMode) (t : Stacks) → put_stack m (stack_at m t) t ≡ t
put_same MatrixMode.Modelview t = refl
put_same MatrixMode.Projection t = refl
put_same MatrixMode.Texture t = refl

module _ (k : stack.MatrixCall) (c : Context) (h : Sound c) where
  abbrev old : MatrixStack
  old = stack_at c.mode c.stacks

  abbrev new : Answer MatrixStack
  new = stack.stack_answer k (stack_at c.mode c.stacks)

  stack_states : (m : MatrixMode) → stack.stack_state_of (stack_at m (put_stack c.mode new.after c.stacks))
      ≡ cond (same_mode m c.mode) (stack.stack_step k (stack.stack_state_of (stack_at m c.stacks))) (stack.stack_state_of (stack_at m c.stacks))
  stack_states =
      put_all
      (λ m x. stack.stack_state_of x ≡ cond (same_mode m c.mode) (stack.stack_step k (stack.stack_state_of (stack_at m c.stacks))) (stack.stack_state_of (stack_at m c.stacks)))
      c.mode c.stacks new.after
      (rw (same_mode_law c.mode) (follows old (h.stacks c.mode) k).1)
      (λ m e. rw e)

  matrix_follows : (s : List ℕ) → Follows (calls.matrix k) c s new.number (noted new.number (put_stacks (put_stack c.mode new.after c.stacks) c)) s
  matrix_follows s =
      let f = follows old (h.stacks c.mode) k in
      record {
        number = f.0;
        state = λ i. record {
          mode = c.mode;
          stacks = λ m. stack_states m i;
          objects = (state_of c s).objects;
          attributes = c.attributes;
          pipeline = c.pipeline;
          error = slot_after (f.0 i) c.error;
        };
        sound = record {
          stacks = put_all (λ m. stack.Sound) c.mode c.stacks new.after f.2 (λ m e. h.stacks m);
          buffers = h.buffers;
          client_unit_in = h.client_unit_in;
          active_unit_in = h.active_unit_in;
        };
        stacks = refl;
        slots = λ _. refl;
        free = free_same;
        refusal = λ q.
            (inl (ap (λ t. noted new.number (put_stacks t c)) (ap (λ x. put_stack c.mode x c.stacks) (stack_stays k old q) ∙ put_same c.mode c.stacks)), refl);
      }

module _ (u : stack.MatrixUpdate) (c : Context) where
  abbrev in_force : MatrixStack
  in_force = stack_at c.mode c.stacks

  abbrev kept : Currents
  kept = currents_of c.stacks

  -- the stacks with the answer put back, from the current matrices alone
  put_current_law : (m : MatrixMode) (t : Stacks) (e : List Float)
      → put_stack m (with_current (record { entries = e }) (stack_at m t)) t ≡ put_currents (put_current m e (currents_of t)) t
  put_current_law MatrixMode.Modelview t e = refl
  put_current_law MatrixMode.Projection t e = refl
  put_current_law MatrixMode.Texture t e = refl

  current_at_law : (m : MatrixMode) (t : Stacks) → (stack_at m t).current.entries ≡ current_at m (currents_of t)
  current_at_law MatrixMode.Modelview t = refl
  current_at_law MatrixMode.Projection t = refl
  current_at_law MatrixMode.Texture t = refl

  abbrev replied : Answer MatrixStack → Reply
  replied a = reply a.number (noted a.number (put_stacks (put_stack c.mode a.after c.stacks) c))

  update_settled : (r out : Reply) → Settled c r out → (Sound c → r ≡ replied (stack.stack_answer (stack.update u) in_force))
      → Does (calls.matrix (stack.update u)) c out.number out.context
  update_settled r out g e =
      settled_does (calls.matrix (stack.update u)) c refl _ out (record { sound = λ h. g.sound h ∙ e h; unsound = g.unsound }) (matrix_follows (stack.update u) c)

  -- a call that updates a matrix, by its new value
  update_does : (m : Currents) (out : Reply) → stack.update_number u ≡ 0 → m ≡ put_current c.mode (stack.updated u (current_at c.mode kept)) kept
      → Settled c (reply 0 (noted 0 (put_stacks (put_currents m c.stacks) c))) out → Does (calls.matrix (stack.update u)) c out.number out.context
  update_does m out z e g =
      update_settled _ out g (λ h.
      ap (λ (t : Stacks). reply 0 (noted 0 (put_stacks t c)))
      (ap (λ x. put_currents x c.stacks) e ∙ sym (put_current_law c.mode c.stacks (stack.updated u (current_at c.mode kept)))
      ∙ ap (λ (x : List Float). put_stack c.mode (with_current (record { entries = stack.updated u x }) in_force) c.stacks) (sym (current_at_law c.mode c.stacks)))
      ∙ sym (ap replied (is_two in_force (h.stacks c.mode) (stack.update u)
      ∙ ap (λ (n : ℕ). cond (eqb n 0) (stack.stack_answered 0 (stack.changed (stack.update u) in_force)) (stack.stack_answered n in_force)) z))
      )

  -- the value may be had from a copy of the current matrices
  abbrev Updated : Reply → Currents → Type 0
  Updated out m = Settled c (reply 0 (noted 0 (put_stacks (put_currents m c.stacks) c))) out

  pub load_does : (b : List Float) → ((x : List Float) → b ≡ stack.updated u x) → stack.update_number u ≡ 0 → {cs m : Currents} {out : Reply} → cs ≡ kept
      → m ≡ put_current c.mode b cs → Updated out m → Does (calls.matrix (stack.update u)) c out.number out.context
  load_does b f z {out = out} e q g = update_does _ out z (q ∙ (λ i. put_current c.mode (f (current_at c.mode kept) i) (e i))) g

  pub product_does : (b : List Float) → ((x : List Float) → product x b ≡ stack.updated u x) → stack.update_number u ≡ 0 → {cs m : Currents} {a : List Float} {out : Reply}
      → cs ≡ kept → a ≡ b → m ≡ put_current c.mode (product (current_at c.mode cs) a) cs → Updated out m → Does (calls.matrix (stack.update u)) c out.number out.context
  product_does b f z {out = out} e d q g =
      update_does _ out z
      (q ∙ (λ i. put_current c.mode (product (current_at c.mode (e i)) (d i)) (e i)) ∙ ap (λ (x : List Float). put_current c.mode x kept) (f (current_at c.mode kept))) g

  -- one that is refused with a number of its own
  pub update_refused : (n : ℕ) (m : Currents) (out : Reply) → n ≡ stack.update_number u → (n ≡ 0 → ⊥) → m ≡ kept
      → Settled c (reply n (noted n (put_stacks (put_currents m c.stacks) c))) out → Does (calls.matrix (stack.update u)) c out.number out.context
  update_refused n m out z q e g =
      update_settled _ out g (λ h.
      ap (λ (x : Currents). reply n (noted n (put_stacks (put_currents x c.stacks) c))) e
      ∙ ap (λ (t : Stacks). reply n (noted n (put_stacks t c))) (sym (put_same c.mode c.stacks))
      ∙ sym (ap replied (is_two in_force (h.stacks c.mode) (stack.update u)
      ∙ ap (λ (x : ℕ). cond (eqb x 0) (stack.stack_answered 0 (stack.changed (stack.update u) in_force)) (stack.stack_answered x in_force)) (sym z)
      ∙ ap (λ b. cond b (stack.stack_answered 0 (stack.changed (stack.update u) in_force)) (stack.stack_answered n in_force)) (ne_eqb n 0 q)))
      )

  -- the same where a check of the factor comes first
  pub checked_does : (b : List Float) → ((x : List Float) → product x b ≡ stack.updated u x)
      → (r : Result Unit Refusal) {a : List Float} {m : Result (List Float) Refusal} {out : Reply}
      → number_in r ≡ stack.update_number u → a ≡ b → m ≡ result_and r (Ok a) → Settled c (currents_reply (multiplied m c) c) out
      → Does (calls.matrix (stack.update u)) c out.number out.context
  checked_does b f (Ok x) {out = out} z d e g =
      product_does b f (sym z) refl d refl (subst (λ (x : Result (List Float) Refusal). Settled c (currents_reply (multiplied x c) c) out) e g)
  checked_does b f (Err r) {out = out} z d e g =
      update_refused (refusal_number r) kept out z (refused r) refl
      (subst (λ (x : Result (List Float) Refusal). Settled c (currents_reply (multiplied x c) c) out) e g)

-- ---- calls that change one part of the context. Each law is of whatever a call replies: a sound context what the rule answers, with its number
-- noted, an unsound one 1. The law after it is the same of a sound one alone

-- mode calls
pub mode_does : (code : ℕ) (c : Context) (n : ℕ) (m : MatrixMode) (out : Reply)
    → answer n m ≡ answer (known_number (lookup matrix_modes code)) (mode_after code c.mode) → Settled c (reply n (noted n (put_mode m c))) out
    → Does (calls.mode code) c out.number out.context
mode_does code c n m out e g =
    settled_does (calls.mode code) c refl _ out (subst (λ (x : Answer MatrixMode). Settled c (reply x.number (noted x.number (put_mode x.after c))) out) e g)
    (λ h s. record {
      number = refl;
      state = refl;
      sound = record { stacks = h.stacks; buffers = h.buffers; client_unit_in = h.client_unit_in; active_unit_in = h.active_unit_in };
      stacks = refl;
      slots = λ _. refl;
      free = free_same;
      refusal = λ q. (inl (stays (lookup matrix_modes code) q), refl);
    })
  where
    new : Option MatrixMode → Answer MatrixMode
    new x = answer (known_number x) (get_or x c.mode)

    stays : (x : Option MatrixMode) → ((new x).number ≡ 0 → ⊥) → noted (new x).number (put_mode (new x).after c) ≡ noted (new x).number c
    stays (some x) q = absurd (q refl)
    stays none q = refl

pub sound_mode_does : (code : ℕ) (c : Context) (n : ℕ) (m : MatrixMode) → Sound c
    → answer n m ≡ answer (known_number (lookup matrix_modes code)) (mode_after code c.mode) → Does (calls.mode code) c n (noted n (put_mode m c))
sound_mode_does code c n m h e = mode_does code c n m (reply n (noted n (put_mode m c))) e (settled h refl)

-- push and pop, on the stack of the mode in force
pub stack_does : (k : stack.MatrixCall) (c : Context) (m : MatrixMode) (n : ℕ) (t : MatrixStack) (out : Reply) → c.mode ≡ m
    → answer n t ≡ stack.stack_answer k (stack_at m c.stacks) → Settled c (reply n (noted n (put_stacks (put_stack m t c.stacks) c))) out
    → Does (calls.matrix k) c out.number out.context
stack_does k c m n t out e q g =
    settled_does (calls.matrix k) c refl _ out
    (subst (λ (x : MatrixMode × Answer MatrixStack). Settled c (reply x.1.number (noted x.1.number (put_stacks (put_stack x.0 x.1.after c.stacks) c))) out)
    (λ i. ((sym e) i, (q ∙ ap (λ x. stack.stack_answer k (stack_at x c.stacks)) (sym e)) i)) g)
    (matrix_follows k c)

pub sound_stack_does : (k : stack.MatrixCall) (c : Context) (m : MatrixMode) (n : ℕ) (t : MatrixStack) → Sound c → c.mode ≡ m
    → answer n t ≡ stack.stack_answer k (stack_at m c.stacks) → Does (calls.matrix k) c n (noted n (put_stacks (put_stack m t c.stacks) c))
sound_stack_does k c m n t h e q = stack_does k c m n t (reply n (noted n (put_stacks (put_stack m t c.stacks) c))) e q (settled h refl)

-- pointer, client state and client unit calls
pub arrays_do : (k : ArrayCall) (c : Context) (n : ℕ) (a : Arrays) (out : Reply) → answer n a ≡ array_step k c.buffers.array_buffer c.arrays
    → Settled c (reply n (noted n (put_arrays a c))) out → Does (calls.object (calls.array k)) c out.number out.context
arrays_do k c n a out e g =
    settled_does (calls.object (calls.array k)) c refl _ out
    (subst (λ (x : Answer Arrays). Settled c (reply x.number (noted x.number (put_arrays x.after c))) out) e g)
    (λ h s. record {
      number = refl;
      state = refl;
      sound = record {
        stacks = h.stacks;
        buffers = h.buffers;
        client_unit_in = client_stays k c.buffers.array_buffer c.arrays h.client_unit_in;
        active_unit_in = h.active_unit_in;
      };
      stacks = refl;
      slots = λ _. refl;
      free = free_same;
      refusal = λ q. ⊎_elim (λ z. absurd (q z)) (λ z. (inl (ap (λ x. noted new.number (put_arrays x c)) z.1), refl)) (array_keeps k c.buffers.array_buffer c.arrays);
    })
  where
    new : Answer Arrays
    new = array_step k c.buffers.array_buffer c.arrays

pub sound_arrays_do : (k : ArrayCall) (c : Context) (n : ℕ) (a : Arrays) → Sound c → answer n a ≡ array_step k c.buffers.array_buffer c.arrays
    → Does (calls.object (calls.array k)) c n (noted n (put_arrays a c))
sound_arrays_do k c n a h e = arrays_do k c n a (reply n (noted n (put_arrays a c))) e (settled h refl)

-- calls on the current values
pub attributes_do : (k : AttributeCall) (c : Context) (n : ℕ) (a : Attributes) (out : Reply) → answer n a ≡ attribute_step k c.attributes
    → Settled c (reply n (noted n (put_attributes a c))) out → Does (calls.attribute k) c out.number out.context
attributes_do k c n a out e g =
    settled_does (calls.attribute k) c refl _ out
    (subst (λ (x : Answer Attributes). Settled c (reply x.number (noted x.number (put_attributes x.after c))) out) e g)
    (λ h s. record {
      number = refl;
      state = refl;
      sound = record { stacks = h.stacks; buffers = h.buffers; client_unit_in = h.client_unit_in; active_unit_in = h.active_unit_in };
      stacks = refl;
      slots = λ _. refl;
      free = free_same;
      refusal = λ q. ⊎_elim (λ z. absurd (q z)) (λ z. (inl (ap (λ x. noted new.number (put_attributes x c)) z.1), refl)) (attribute_keeps k c.attributes);
    })
  where
    new : Answer Attributes
    new = attribute_step k c.attributes

pub sound_attributes_do : (k : AttributeCall) (c : Context) (n : ℕ) (a : Attributes) → Sound c → answer n a ≡ attribute_step k c.attributes
    → Does (calls.attribute k) c n (noted n (put_attributes a c))
sound_attributes_do k c n a h e = attributes_do k c n a (reply n (noted n (put_attributes a c))) e (settled h refl)

-- pipeline calls
pub pipeline_does : (k : PipelineCall) (c : Context) (n : ℕ) (p : Pipeline) (out : Reply) → answer n p ≡ pipeline_step k c.pipeline
    → Settled c (reply n (noted n (put_pipeline p c))) out → Does (calls.pipeline k) c out.number out.context
pipeline_does k c n p out e g =
    settled_does (calls.pipeline k) c refl _ out
    (subst (λ (x : Answer Pipeline). Settled c (reply x.number (noted x.number (put_pipeline x.after c))) out) e g)
    (λ h s. record {
      number = refl;
      state = refl;
      sound = record { stacks = h.stacks; buffers = h.buffers; client_unit_in = h.client_unit_in; active_unit_in = active_stays k c.pipeline h.active_unit_in };
      stacks = refl;
      slots = λ _. refl;
      free = free_same;
      refusal = λ q. ⊎_elim (λ z. absurd (q z)) (λ z. (inl (ap (λ x. noted new.number (put_pipeline x c)) z.1), refl)) (refusal_keeps k c.pipeline);
    })
  where
    new : Answer Pipeline
    new = pipeline_step k c.pipeline

pub sound_pipeline_does : (k : PipelineCall) (c : Context) (n : ℕ) (p : Pipeline) → Sound c → answer n p ≡ pipeline_step k c.pipeline
    → Does (calls.pipeline k) c n (noted n (put_pipeline p c))
sound_pipeline_does k c n p h e = pipeline_does k c n p (reply n (noted n (put_pipeline p c))) e (settled h refl)

-- ---- take_error

pub take_error_does : (c : Context) → Sound c → Does calls.take_error c 0 (put_error 0 c)
take_error_does c h =
    does calls.take_error c refl 0 (put_error 0 c) h (λ s. record {
      number = refl;
      state = refl;
      sound = record { stacks = h.stacks; buffers = h.buffers; client_unit_in = h.client_unit_in; active_unit_in = h.active_unit_in };
      stacks = refl;
      slots = λ _. refl;
      free = free_same;
      refusal = λ q. absurd (q refl);
    })

-- ---- buffer calls

-- the state after bind at a refused target is the one before it, or the name is made
named_same : (o : buffer.Objects) (n : ℕ) → (buffer.absent (o.contents n) ≡ false → n < o.next)
    → (buffer.named o n ≡ o) ⊎ ((not (eqb n 0) && buffer.absent (o.contents n)) ≡ true)
unfolding buffer.named
named_same o n below = go (eqb n 0) (buffer.absent (o.contents n)) refl
  where
    go : (x y : Bool) → buffer.absent (o.contents n) ≡ y → (cond x o (cond y (buffer.make o n) (buffer.lift o n)) ≡ o) ⊎ ((not x && y) ≡ true)
    go true y e = inl refl
    go false true e = inr refl
    go false false e =
        let lifted : max o.next (n + 1) ≡ o.next = omega (arith, below e) in
        inl (λ i. record { next = lifted i; contents = o.contents; array = o.array; element = o.element })

-- a refused call that does not borrow the store leaves the objects, or is a bind that still makes its name
refused_same : (k : BufferCall) (o : buffer.Objects) → ((n : ℕ) → buffer.absent (o.contents n) ≡ false → n < o.next) → is_upload k ≡ false
    → ((buffer_answer k o).number ≡ 0 → ⊥) → ((buffer_answer k o).after ≡ o) ⊎ ((makes_name k o ≡ true) × ((buffer_answer k o).number ≡ 0x0500))
unfolding buffer.gen_answer buffer.bind_answer
refused_same (gen_buffers n) o below e q = go (ltb 16 (buffer.live_names o + n)) (ltb 4294967295 (o.next + n)) q
  where
    with_answer : (x y : Bool) → Answer buffer.Objects
    with_answer x y = cond x (answer 4 o) (cond y (answer 5 o) (answer 0 (buffer.gen_names n o)))

    go : (x y : Bool) → ((with_answer x y).number ≡ 0 → ⊥) → ((with_answer x y).after ≡ o) ⊎ ((false ≡ true) × ((with_answer x y).number ≡ 0x0500))
    go true y q = inl refl
    go false true q = inl refl
    go false false q = absurd (q refl)
refused_same (bind_buffer target name) o below e q = go (leb 4294967295 name) (not (buffer.room_for o name)) (eqb target 0x8892) (eqb target 0x8893) q
  where
    with_answer : (w x y z : Bool) → Answer buffer.Objects
    with_answer w x y z =
        cond w (answer 5 o) (cond x (answer 4 o) (cond y (answer 0 (buffer.bind_array (buffer.named o name) name))
        (cond z (answer 0 (buffer.bind_element (buffer.named o name) name)) (answer 0x0500 (buffer.named o name)))))

    go : (w x y z : Bool) → ((with_answer w x y z).number ≡ 0 → ⊥)
        → ((with_answer w x y z).after ≡ o) ⊎ (((not (eqb name 0) && buffer.absent (o.contents name)) ≡ true) × ((with_answer w x y z).number ≡ 0x0500))
    go true x y z q = inl refl
    go false true y z q = inl refl
    go false false true z q = absurd (q refl)
    go false false false true q = absurd (q refl)
    go false false false false q = ⊎_elim (λ s. inl s) (λ m. inr (m, refl)) (named_same o name (below name))
refused_same (delete_buffers names) o below e q = absurd (q refl)
refused_same (buffer_data target size bytes usage) o below e q = never true refl e
refused_same (buffer_sub_data target offset bytes) o below e q = never true refl e

module _ (k : BufferCall) (c : Context) (n : ℕ) (b : Buffers) where
  -- an answer of the buffers is the context's
  buffer_follows : (s s' : List ℕ) → Sound c → answer n (buffer.objects b s') ≡ buffer_answer k (buffer.objects c.buffers s) → buffer.Sound b
      → buffer.FreeSlots c.buffers.slots b.slots → ((n ≡ 0 → ⊥) → RefusalKeeps (calls.object (calls.buffer k)) n c s (noted n (put_buffers b c)) × (s' ≡ s))
      → Follows (calls.object (calls.buffer k)) c s n (noted n (put_buffers b c)) s'
  buffer_follows s s' h e sound free kept =
      record {
        number = ap (λ x. x.number) e;
        state = λ i. record {
          mode = c.mode;
          stacks = (state_of c s).stacks;
          objects = record { buffers = (e i).after; arrays = c.arrays };
          attributes = c.attributes;
          pipeline = c.pipeline;
          error = slot_after (e i).number c.error;
        };
        sound = record { stacks = h.stacks; buffers = sound; client_unit_in = h.client_unit_in; active_unit_in = h.active_unit_in };
        stacks = refl;
        slots = λ e. never true refl e;
        free = free;
        refusal = kept;
      }

  -- where the buffers stay and the number is 1, so does the context
  unchanged : n ≡ 1 → b ≡ c.buffers → noted n (put_buffers b c) ≡ c
  unchanged e f = (λ i. noted (e i) (put_buffers (f i) c))

  module _ (h : SoundApart c) where
    whole : buffer.Sound c.buffers → Sound c
    whole q = record { stacks = h.stacks; buffers = q; client_unit_in = h.client_unit_in; active_unit_in = h.active_unit_in }

    pub buffer_does : is_upload k ≡ false → buffer.Answers c.buffers (buffer_answer k) n b → Does (calls.object (calls.buffer k)) c n (noted n (put_buffers b c))
    buffer_does e a s =
        record {
          invalid = λ q. let u = a.unsound (λ p. q (record { sound = whole p; store = λ t. never (is_upload k) t e })) in (u.0, unchanged u.0 u.1, refl);
          follows = λ v.
              let number = ap (λ (x : Answer buffer.Objects). x.number) (a.ruled v.sound.buffers s) in
              buffer_follows s s v.sound (a.ruled v.sound.buffers s) (a.kept v.sound.buffers) a.free (λ q. (
                ⊎_elim
                    (λ same. inl (ap (λ x. noted n (put_buffers x c)) (a.stays q s same)))
                    (λ m. inr ((m.0, number ∙ m.1), refl))
                    (refused_same k (buffer.objects c.buffers s) (live_below c.buffers v.sound.buffers s) e (λ z. q (number ∙ z))),
                refl,
              ));
          size = refl;
        }

    pub upload_did : (s s' : List ℕ) → is_upload k ≡ true → buffer.AnswersIn c.buffers s (buffer_answer k) n b s'
        → Did (calls.object (calls.buffer k)) c s n (noted n (put_buffers b c)) s'
    upload_did s s' e a =
        record {
          invalid = λ q.
              let u = a.invalid (λ p l. q (record { sound = whole p; store = λ _. l })) in
              let kept = a.stays (λ z. omega arith) in
              (u, unchanged u kept.0, kept.1);
          follows = λ v. buffer_follows s s' v.sound (a.ruled v.sound.buffers (v.store e)) (a.kept v.sound.buffers) a.free
              (λ q. (inl (ap (λ x. noted n (put_buffers x c)) (a.stays q).0), (a.stays q).1));
          size = a.size;
        }

-- ---- draws

-- a draw that is not valid
pub draw_unready : (d : DrawCall) (c : Context) (s : List ℕ) (out : List Float) → (Sound c × (length s ≡ buffer.store_bytes) → ⊥)
    → Did (calls.draw d) c s 1 c s × Drew d c s (record { number = 1; count = 0 }) out out
draw_unready d c s out h = (
  record { invalid = λ _. (refl, refl, refl); follows = λ v. absurd (h (v.sound, v.store refl)); size = refl },
  record { invalid = λ _. (refl, refl); drawn = λ v. absurd (h (v.sound, v.store refl)) },
)

-- a draw that goes by the draw rules
pub draw_did : (d : DrawCall) (c : Context) (s : List ℕ) (r : Drawn) (out out' : List Float) → Sound c × (length s ≡ buffer.store_bytes)
    → Draws (drawing (state_of c s).stacks (state_of c s).objects (state_of c s).attributes d) r out out'
    → Did (calls.draw d) c s r.number (noted r.number c) s × Drew d c s r out out'
draw_did d c s r out out' h e = (
  record {
    invalid = λ q. absurd (q (record { sound = h.0; store = λ _. h.1 }));
    follows = λ v. record {
      number = e.number;
      state = λ i. record {
        mode = c.mode;
        stacks = (state_of c s).stacks;
        objects = (state_of c s).objects;
        attributes = c.attributes;
        pipeline = c.pipeline;
        error = slot_after (e.number i) c.error;
      };
      sound = record { stacks = v.sound.stacks; buffers = v.sound.buffers; client_unit_in = v.sound.client_unit_in; active_unit_in = v.sound.active_unit_in };
      stacks = refl;
      slots = λ _. refl;
      free = free_same;
      refusal = λ q. (inl refl, refl);
    };
    size = refl;
  },
  record { invalid = λ q. absurd (q (record { sound = h.0; store = λ _. h.1 })); drawn = λ v. e },
)

-- the same, from what the inner draw makes of the context's draw inputs
pub draw_from_law : (source : Source) (mode stages base : ℕ) (guest : List ℕ) (c : Context) (s : List ℕ) (x : DrawInputs) (r : Drawn) (out out' : List Float)
    → x ≡ inputs_for c base stages
    → Sound c × (length s ≡ buffer.store_bytes) → Draws (draw_in (scene_in x s guest) c.buffers.element_buffer mode source (length out)) r out out'
    → Did (calls.draw (draw_call source mode stages base guest (length out))) c s r.number (noted r.number c) s
    × Drew (draw_call source mode stages base guest (length out)) c s r out out'
draw_from_law source mode stages base guest c s x r out out' e h d =
    draw_did (draw_call source mode stages base guest (length out)) c s r out out' h
    (subst (λ y. Draws (draw_in (scene_in y s guest) c.buffers.element_buffer mode source (length out)) r out out') e d)

-- ---- a fresh context

pub new_fresh : (t : MatrixStack) (b : Buffers) (a : Arrays) (v : Attributes) (p : Pipeline) → t ≡ stack.fresh_stack → buffer.IsFresh b → a ≡ fresh_arrays → v ≡ fresh_attributes
    → p ≡ fresh_pipeline
    → Fresh (record {
      mode = MatrixMode.Modelview;
      stacks = record { modelview = t; projection = t; texture = t };
      buffers = b;
      arrays = a;
      attributes = v;
      pipeline = p;
      error = 0;
    })
new_fresh t b a v p e f g h q =
    record {
      sound = record {
        stacks = λ m. rw (every m) fresh_sound;
        buffers = f.sound;
        client_unit_in = rw g (omega arith);
        active_unit_in = rw q (omega arith);
      };
      state = λ s i. record {
        mode = MatrixMode.Modelview;
        stacks = λ m. (ap stack.stack_state_of (every m) ∙ fresh_state_law) i;
        objects = record { buffers = f.state s i; arrays = g i };
        attributes = h i;
        pipeline = q i;
        error = 0;
      };
      stacks = every;
      lengths = f.lengths;
    }
  where
    every : (m : MatrixMode) → stack_at m (record { modelview = t; projection = t; texture = t }) ≡ stack.fresh_stack
    every MatrixMode.Modelview = e
    every MatrixMode.Projection = e
    every MatrixMode.Texture = e
