-- Demand 3 (01: "Strands and fold"), whole: what is claimed of a list of calls. proofs/Demand3.antt proves it.
--   1. the five logs of a list of calls
--   2. the replay of the logs from fresh
--   3. a list of calls, and what it leaves; crate entries shows that the functions of the crates gles_.. make such lists
--   4. the claims
use Rattle.std.specs.Prelude.{cond, ◌⊎◌, ◌≡◌, ℕ, ◌*◌, ◌-◌, ◌/◌, ◌<◌, ◌≤◌, length, take, Float}
use mathlib.Core.List.{List, [], ◌∷◌, ◌++◌, foldl}
use Rattle.stack.specs.Stack.{MatrixCall, StackState, stack_step}
use Rattle.buffers.specs.Objects.{store_bytes}
use Rattle.arrays.specs.Attributes.{AttributeCall, attribute_step}
use Rattle.arrays.specs.declared.Attributes.{Attributes}
use Rattle.vertex.specs.Scene.{DrawCall}
use Rattle.vertex.specs.Index.{index_total}
use Rattle.draw.specs.Draw.{Drawing, Draws}
use Rattle.context.specs.declared.MatrixMode.{MatrixMode}
use Rattle.context.specs.declared.Context.{Context}
use Rattle.context.specs.declared.DrawReply.{DrawReply}
use Rattle.context.specs.State.{ObjectState, fresh_state, Fresh}
use Rattle.context.specs.Calls.{ObjectCall, Call, matrix, mode, object, attribute, pipeline, take_error, draw}
use Rattle.context.specs.Rules.{mode_after, same_mode, object_step, drawing}
use Rattle.context.specs.Contract.{Did, Drew, drawn_of}

-- ---- 1. the five logs (01: strands), in the calls' order

-- the matrix calls made while `which` is the mode in force; `in_force` is the mode before the list
unfoldable pub matrix_log : MatrixMode → MatrixMode → List Call → List MatrixCall
matrix_log which in_force [] = []
matrix_log which in_force (matrix k ∷ l) = cond (same_mode which in_force) (k ∷ matrix_log which in_force l) (matrix_log which in_force l)
matrix_log which in_force (mode code ∷ l) = matrix_log which (mode_after code in_force) l
matrix_log which in_force (object k ∷ l) = matrix_log which in_force l
matrix_log which in_force (attribute k ∷ l) = matrix_log which in_force l
matrix_log which in_force (pipeline k ∷ l) = matrix_log which in_force l
matrix_log which in_force (take_error ∷ l) = matrix_log which in_force l
matrix_log which in_force (draw d ∷ l) = matrix_log which in_force l

-- the buffer, pointer, client state and client unit calls
unfoldable pub object_log : List Call → List ObjectCall
object_log [] = []
object_log (matrix k ∷ l) = object_log l
object_log (mode code ∷ l) = object_log l
object_log (object k ∷ l) = k ∷ object_log l
object_log (attribute k ∷ l) = object_log l
object_log (pipeline k ∷ l) = object_log l
object_log (take_error ∷ l) = object_log l
object_log (draw d ∷ l) = object_log l

-- the current colour and multi_texcoord calls
unfoldable pub attribute_log : List Call → List AttributeCall
attribute_log [] = []
attribute_log (matrix k ∷ l) = attribute_log l
attribute_log (mode code ∷ l) = attribute_log l
attribute_log (object k ∷ l) = attribute_log l
attribute_log (attribute k ∷ l) = k ∷ attribute_log l
attribute_log (pipeline k ∷ l) = attribute_log l
attribute_log (take_error ∷ l) = attribute_log l
attribute_log (draw d ∷ l) = attribute_log l

pub record Logs : Type 0 where
  pub matrices : MatrixMode → List MatrixCall
  pub objects : List ObjectCall
  pub attributes : List AttributeCall

-- modelview is in force while there is no mode call
abbrev pub logs : List Call → Logs
logs l = record { matrices = λ which. matrix_log which MatrixMode.Modelview l; objects = object_log l; attributes = attribute_log l }

-- ---- 2. the replay (01: the fold): each log from fresh by itself, by the rules; the calls' answers are not used

abbrev pub replay_matrices : StackState → List MatrixCall → StackState
replay_matrices t l = foldl (λ u k. stack_step k u) t l

abbrev pub replay_objects : ObjectState → List ObjectCall → ObjectState
replay_objects o l = foldl (λ p k. object_step k p) o l

abbrev pub replay_attributes : Attributes → List AttributeCall → Attributes
replay_attributes a l = foldl (λ b k. (attribute_step k b).after) a l

-- number and triangles of a draw, by the draw rules on the five states that the replays end in
abbrev pub draw_replayed : Logs → DrawCall → Drawing
draw_replayed g d =
    drawing (λ which. replay_matrices (fresh_state.stacks which) (g.matrices which)) (replay_objects fresh_state.objects g.objects)
    (replay_attributes fresh_state.attributes g.attributes) d

-- ---- 3. a list of calls, by the contract alone (crates/context/specs/Contract.antt)

-- `History l c s`: the calls of l, one after the other, accepted or refused, from a fresh context and any store of 65,536 bytes, left the context c and s in the store
pub data History : List Call → Context → List ℕ → Type 0 where
  start : {c : Context} {s : List ℕ} → Fresh c → length s ≡ store_bytes → History [] c s
  then : {l : List Call} {k : Call} {n : ℕ} {c c1 : Context} {s s1 : List ℕ} → History l c s → Did k c s n c1 s1 → History (l ++ (k ∷ [])) c1 s1

-- one more draw: on context c and a store that holds s the draw d answers r, and the output out becomes out1
abbrev pub DrawDid : DrawCall → Context → List ℕ → DrawReply → List Float → List Float → Type 0
DrawDid d c s r out out1 = Did (draw d) c s r.number r.context s × Drew d c s (drawn_of r) out out1

-- ---- 4. the claims

-- what a draw counts: 0 where it is refused or has no index; else floor(n/3) triangles of a list, max(n-2, 0) of a strip or a fan
pub record Counts (d : DrawCall) (r : DrawReply) : Type 0 where
  pub refused : (r.number ≡ 0 → ⊥) → r.count ≡ 0
  pub empty : index_total d.source ≡ 0 → r.count ≡ 0
  pub modes : r.number ≡ 0 → 0 < index_total d.source → (4 ≤ d.mode) × (d.mode ≤ 6)
  pub lists : r.number ≡ 0 → d.mode ≡ 4 → r.count ≡ index_total d.source / 3
  pub strips_and_fans : r.number ≡ 0 → (d.mode ≡ 5) ⊎ (d.mode ≡ 6) → r.count ≡ index_total d.source - 2

pub record Demand3 : Type 0 where
  -- after any list of calls one more draw, of any kind and with any arguments, gives the number, count and triangles that the replayed logs give
  pub replays : {l : List Call} {c : Context} {s : List ℕ} {d : DrawCall} {out out1 : List Float} {r : DrawReply}
      → History l c s → DrawDid d c s r out out1 → Draws (draw_replayed (logs l) d) (drawn_of r) out out1
  -- lists with equal logs give the same number, count and triangles, whatever the outputs held before
  pub equal_logs : {l l' : List Call} {c c' : Context} {s s' : List ℕ} {d : DrawCall} {out out1 out' out1' : List Float} {r r' : DrawReply}
      → History l c s → History l' c' s' → logs l ≡ logs l' → DrawDid d c s r out out1 → DrawDid d c' s' r' out' out1'
      → (r.number ≡ r'.number) × (r.count ≡ r'.count) × (take (51 * r.count) out1 ≡ take (51 * r'.count) out1')
  pub counts : {l : List Call} {c : Context} {s : List ℕ} {d : DrawCall} {out out1 : List Float} {r : DrawReply}
      → History l c s → DrawDid d c s r out out1 → Counts d r
