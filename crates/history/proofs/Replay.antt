-- The state after a list of calls is the replay of its logs. Assumes nothing.
use mathlib.Core.Bool.{Bool, true, false, cond}
use mathlib.Core.List.{List, [], ◌∷◌, ◌++◌}
use mathlib.Core.Path.{◌≡◌, refl, ◌∙◌}
use Rattle.stack.specs.Stack.{MatrixCall, StackState, stack_step}
use Rattle.vertex.specs.Scene.{DrawCall}
use Rattle.context.specs.declared.MatrixMode.{MatrixMode}
use Rattle.context.specs.State.{State, fresh_state}
use Rattle.context.specs.Calls.{Call, matrix, mode, object, attribute, pipeline, take_error, draw}
use Rattle.context.specs.Rules.{same_mode, drawing, step}
use Rattle.history.specs.Demand3.{matrix_log, object_log, attribute_log, logs, replay_matrices, replay_objects, replay_attributes, draw_replayed}

-- the whole state after a list of calls
unfoldable pub run : List Call → State → State
run [] s = s
run (k ∷ l) s = run l (step k s)

-- one more call at the end
pub run_more : (l : List Call) (k : Call) (s : State) → run (l ++ (k ∷ [])) s ≡ step k (run l s)
unfolding run
run_more [] k s = refl
run_more (j ∷ l) k s = run_more l k (step j s)

-- a matrix call falls to the log of the mode in force
replay_cond : (b : Bool) (k : MatrixCall) (t : StackState) (l : List MatrixCall) → replay_matrices (cond b (stack_step k t) t) l ≡ replay_matrices t (cond b (k ∷ l) l)
replay_cond true k t l = refl
replay_cond false k t l = refl

run_matrices : (which : MatrixMode) (l : List Call) (s : State) → (run l s).stacks which ≡ replay_matrices (s.stacks which) (matrix_log which s.mode l)
unfolding run matrix_log
run_matrices which [] s = refl
run_matrices which (matrix k ∷ l) s = run_matrices which l (step (matrix k) s) ∙ replay_cond (same_mode which s.mode) k (s.stacks which) (matrix_log which s.mode l)
run_matrices which (mode code ∷ l) s = run_matrices which l (step (mode code) s)
run_matrices which (object k ∷ l) s = run_matrices which l (step (object k) s)
run_matrices which (attribute k ∷ l) s = run_matrices which l (step (attribute k) s)
run_matrices which (pipeline k ∷ l) s = run_matrices which l (step (pipeline k) s)
run_matrices which (take_error ∷ l) s = run_matrices which l (step take_error s)
run_matrices which (draw d ∷ l) s = run_matrices which l (step (draw d) s)

run_objects : (l : List Call) (s : State) → (run l s).objects ≡ replay_objects s.objects (object_log l)
unfolding run object_log
run_objects [] s = refl
run_objects (matrix k ∷ l) s = run_objects l (step (matrix k) s)
run_objects (mode code ∷ l) s = run_objects l (step (mode code) s)
run_objects (object k ∷ l) s = run_objects l (step (object k) s)
run_objects (attribute k ∷ l) s = run_objects l (step (attribute k) s)
run_objects (pipeline k ∷ l) s = run_objects l (step (pipeline k) s)
run_objects (take_error ∷ l) s = run_objects l (step take_error s)
run_objects (draw d ∷ l) s = run_objects l (step (draw d) s)

run_attributes : (l : List Call) (s : State) → (run l s).attributes ≡ replay_attributes s.attributes (attribute_log l)
unfolding run attribute_log
run_attributes [] s = refl
run_attributes (matrix k ∷ l) s = run_attributes l (step (matrix k) s)
run_attributes (mode code ∷ l) s = run_attributes l (step (mode code) s)
run_attributes (object k ∷ l) s = run_attributes l (step (object k) s)
run_attributes (attribute k ∷ l) s = run_attributes l (step (attribute k) s)
run_attributes (pipeline k ∷ l) s = run_attributes l (step (pipeline k) s)
run_attributes (take_error ∷ l) s = run_attributes l (step take_error s)
run_attributes (draw d ∷ l) s = run_attributes l (step (draw d) s)

-- the draw rules on the state after the list are the draw rules on the replayed logs
pub run_draw : (l : List Call) (d : DrawCall) → drawing (run l fresh_state).stacks (run l fresh_state).objects (run l fresh_state).attributes d ≡ draw_replayed (logs l) d
run_draw l d = λ i. drawing (λ which. run_matrices which l fresh_state i) (run_objects l fresh_state i) (run_attributes l fresh_state i) d
