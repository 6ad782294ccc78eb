-- The proof of specs/Demand3.antt. Assumes nothing.
use mathlib.Core.List.{List}
use mathlib.Core.Logic.{⊎_elim}
use mathlib.Core.Path.{◌≡◌, refl, sym, ap, subst, ◌∙◌}
use Prim.Native.Nat.{ℕ, zero, suc, ◌*◌, ◌<◌, ◌≤◌}
use native.Mathlib.Omega.{arith}
use lib.ListN.{length, take, drop}
use lib.Seq.{take-append_seam}
use lib.Ieee.{Float}
use Rattle.buffers.specs.Objects.{store_bytes}
use Rattle.vertex.specs.Scene.{DrawState, DrawCall, Scene, scene_of}
use Rattle.vertex.specs.Index.{index_total}
use Rattle.corners.specs.Places.{triangle_count, primitive_of}
use Rattle.assembly.specs.Triangles.{Triangle, words_of}
use Rattle.draw.specs.Draw.{Drawing, Drawn, draw_of, Draws}
use Rattle.corners.proofs.Places.{count_le}
use Rattle.assembly.proofs.Triangles.{length_words}
use Rattle.draw.proofs.Counts.{refused_none, accepted_count}
use Rattle.context.specs.declared.Context.{Context}
use Rattle.context.specs.declared.DrawReply.{DrawReply}
use Rattle.context.specs.State.{State, fresh_state, state_of, Sound}
use Rattle.context.specs.Calls.{Call}
use Rattle.context.specs.Rules.{drawing, step}
use Rattle.context.specs.Contract.{drawn_of}
use Rattle.history.specs.Demand3.{logs, draw_replayed, History, start, then, DrawDid, Demand3, Counts}
use Rattle.history.proofs.Replay.{run, run_more, run_draw}

-- ---- what a list of calls leaves stands for the state that the rules run to

pub record Reached (l : List Call) (c : Context) (s : List ℕ) : Type 0 where
  pub sound : Sound c
  pub size : length s ≡ store_bytes
  pub state : state_of c s ≡ run l fresh_state

pub reached : {l : List Call} {c : Context} {s : List ℕ} → History l c s → Reached l c s
unfolding run
reached (start {s = s} fresh size) = record { sound = fresh.sound; size = size; state = fresh.state s }
reached (then {l = l} {k = k} h d) =
    let g = reached h in
    let f = d.follows (record { sound = g.sound; store = λ _. g.size }) in
    record { sound = f.sound; size = d.size ∙ g.size; state = f.state ∙ ap (λ t. step k t) g.state ∙ sym (run_more l k fresh_state) }

-- ---- the claims

abbrev draws : State → DrawCall → Drawing
draws s d = drawing s.stacks s.objects s.attributes d

replays : {l : List Call} {c : Context} {s : List ℕ} {d : DrawCall} {out out1 : List Float} {r : DrawReply}
    → History l c s → DrawDid d c s r out out1 → Draws (draw_replayed (logs l) d) (drawn_of r) out out1
replays {l = l} {c = c} {s = s} {d = d} {out = out} {out1 = out1} {r = r} h m =
    let g = reached h in
    let e : draws (state_of c s) d ≡ draw_replayed (logs l) d = ap (λ t. draws t d) g.state ∙ run_draw l d in
    subst (λ (x : Drawing). Draws x (drawn_of r) out out1) e (m.1.drawn (record { sound = g.sound; store = λ _. g.size }))

-- two answers of one drawing
same_drawn : {g : Drawing} {r r' : Drawn} {out out1 out' out1' : List Float} → Draws g r out out1 → Draws g r' out' out1'
    → (r.number ≡ r'.number) × (r.count ≡ r'.count) × (take (51 * r.count) out1 ≡ take (51 * r'.count) out1')
same_drawn {g = g} {r = r} {r' = r'} {out = out} {out1 = out1} {out' = out'} {out1' = out1'} p q =
    (p.number ∙ sym q.number, p.count ∙ sym q.count, words r out out1 p ∙ sym (words r' out' out1' q))
  where
    words : (a : Drawn) (o o1 : List Float) → Draws g a o o1 → take (51 * a.count) o1 ≡ words_of g.triangles
    words a o o1 w = rw (w.count, w.output) (rw (sym (length_words g.triangles)) (take-append_seam (words_of g.triangles) (drop (length (words_of g.triangles)) o)))

same_draws : {l l' : List Call} {c c' : Context} {s s' : List ℕ} {d : DrawCall} {out out1 out' out1' : List Float} {r r' : DrawReply}
    → History l c s → History l' c' s' → logs l ≡ logs l' → DrawDid d c s r out out1 → DrawDid d c' s' r' out' out1'
    → (r.number ≡ r'.number) × (r.count ≡ r'.count) × (take (51 * r.count) out1 ≡ take (51 * r'.count) out1')
same_draws {d = d} {out = out} {out1 = out1} {r = r} h h' e m m' = same_drawn (subst (λ g. Draws (draw_replayed g d) (drawn_of r) out out1) e (replays h m)) (replays h' m')

-- the count of a drawing, by the law of crate draw
counts_of : (g : DrawState) (d : DrawCall) (r : DrawReply) (out out1 : List Float) → Draws (draw_of g d) (drawn_of r) out out1 → Counts d r
counts_of g d r out out1 w =
    record {
      refused = refused;
      empty = λ z. none r.number refl z;
      modes = λ e. (accepted e).1;
      lists = λ e q. in_mode e q;
      strips_and_fans = λ e q. ⊎_elim (in_mode e) (in_mode e) q;
    }
  where
    s : Scene
    s = scene_of g d

    refused : (r.number ≡ 0 → ⊥) → r.count ≡ 0
    refused h = w.count ∙ ap (λ (ts : List Triangle). length ts) (refused_none s g.element d.mode d.source d.room (λ e. h (w.number ∙ e)))

    accepted : r.number ≡ 0 → (r.count ≡ triangle_count (primitive_of d.mode) (index_total d.source)) × (0 < index_total d.source → (4 ≤ d.mode) × (d.mode ≤ 6))
    accepted e = let a = accepted_count s g.element d.mode d.source d.room (sym w.number ∙ e) in (w.count ∙ a.0, a.1)

    -- the count, where the mode is known
    in_mode : {mode : ℕ} → r.number ≡ 0 → d.mode ≡ mode → r.count ≡ triangle_count (primitive_of mode) (index_total d.source)
    in_mode e q = (accepted e).0 ∙ ap (λ (m : ℕ). triangle_count (primitive_of m) (index_total d.source)) q

    none : (n : ℕ) → r.number ≡ n → index_total d.source ≡ 0 → r.count ≡ 0
    none zero e z =
        let n = index_total d.source in
        let c : r.count ≤ n = subst (λ (k : ℕ). k ≤ n) (sym (accepted e).0) (count_le (primitive_of d.mode) n) in
        omega arith
    none (suc n) e z = refused (λ f. absurd (omega arith))

pub demand_3 : Demand3
demand_3 = record { replays = replays; equal_logs = same_draws; counts = λ h m. counts_of _ _ _ _ _ (replays h m) }
