-- The matrix stack (01: "Records", "Matrices", "Strands and fold").
use Rattle.std.specs.Prelude.{cond, List, [], ◌∷◌, ◌++◌, ◌≡◌, ℕ, ◌+◌, ◌-◌, ◌≤◌, ltb, eqb, Float, length, get_or, take, set, replicate}
use Rattle.refusal.specs.Refusals.{Answer, answer}
use Rattle.matrix.specs.Matrix.{product, identity, frustum_of, ortho_of, translation, scaling, rotation, frustum_number, ortho_number}
use Rattle.stack.specs.declared.Matrix.{Matrix}
use Rattle.stack.specs.declared.MatrixStack.{MatrixStack}

-- how many matrices a stack saves
abbrev pub limit : ℕ
limit = 15

-- sound: at most the allowed matrices saved (`places` is true of every stack that a program holds: the array has its length)
pub record Sound (s : MatrixStack) : Type 0 where
  pub places : length s.saved ≡ limit
  pub within : s.depth ≤ limit

-- ---- the calls on a stack

-- a call that gives the current matrix a new value
pub data MatrixUpdate : Type 0 where
  load_identity : MatrixUpdate
  load mult : List Float → MatrixUpdate
  translate scale : Float → Float → Float → MatrixUpdate
  rotate : Float → Float → Float → Float → Float → MatrixUpdate
  frustum ortho : Float → Float → Float → Float → Float → Float → MatrixUpdate

pub data MatrixCall : Type 0 where
  update : MatrixUpdate → MatrixCall
  push pop : MatrixCall

-- the new value: every call but the loads multiplies on the right
abbrev pub updated : MatrixUpdate → List Float → List Float
updated load_identity m = identity
updated (load a) m = a
updated (mult a) m = product m a
updated (translate x y z) m = product m (translation x y z)
updated (scale x y z) m = product m (scaling x y z)
updated (rotate c s x y z) m = product m (rotation c s x y z)
updated (frustum l r b t n f) m = product m (frustum_of l r b t n f)
updated (ortho l r b t n f) m = product m (ortho_of l r b t n f)

abbrev pub update_number : MatrixUpdate → ℕ
update_number load_identity = 0
update_number (load a) = 0
update_number (mult a) = 0
update_number (translate x y z) = 0
update_number (scale x y z) = 0
update_number (rotate c s x y z) = 0
update_number (frustum l r b t n f) = frustum_number l r b t n f
update_number (ortho l r b t n f) = ortho_number l r b t n f

-- the number that a call answers while so many matrices are saved
abbrev pub stack_number : MatrixCall → ℕ → ℕ
stack_number (update u) saved = update_number u
stack_number push saved = cond (ltb saved limit) 0 0x0503
stack_number pop saved = cond (ltb 0 saved) 0 0x0504

-- ---- what a stack stands for, and the rules on it

-- a current matrix and the saved ones, the last saved at the end
pub record StackState : Type 0 where
  pub current : Matrix
  pub saved : List Matrix

abbrev pub stack_state_of : MatrixStack → StackState
stack_state_of s = record { current = s.current; saved = take s.depth s.saved }

abbrev pub fresh_stack_state : StackState
fresh_stack_state = record { current = record { entries = identity }; saved = [] }

abbrev pub with_entries : MatrixUpdate → Matrix → Matrix
with_entries u m = record { entries = updated u m.entries }

-- a matrix of no entries, where a list has no matrix
abbrev pub no_matrix : Matrix
no_matrix = record { entries = [] }

-- push appends a copy of the current matrix; pop takes the last back
abbrev pub stack_effect : MatrixCall → StackState → StackState
stack_effect (update u) t = record { current = with_entries u t.current; saved = t.saved }
stack_effect push t = record { current = t.current; saved = t.saved ++ (t.current ∷ []) }
stack_effect pop t = record { current = get_or t.saved (length t.saved - 1) no_matrix; saved = take (length t.saved - 1) t.saved }

-- a refused call changes nothing
unfoldable pub stack_step : MatrixCall → StackState → StackState
stack_step k t = cond (eqb (stack_number k (length t.saved)) 0) (stack_effect k t) t

-- ---- the same on the record, every place of it: what the functions promise

abbrev pub stack_answered : ℕ → MatrixStack → Answer MatrixStack
stack_answered n s = answer n s

abbrev pub changed : MatrixCall → MatrixStack → MatrixStack
changed (update u) s = record { current = with_entries u s.current; saved = s.saved; depth = s.depth }
changed push s = record { current = s.current; saved = set s.saved s.depth s.current; depth = s.depth + 1 }
changed pop s = record { current = get_or s.saved (s.depth - 1) no_matrix; saved = s.saved; depth = s.depth - 1 }

-- an unsound stack gives 1, and a refused call changes nothing
unfoldable pub stack_answer : MatrixCall → MatrixStack → Answer MatrixStack
stack_answer k s =
    cond (ltb limit s.depth) (stack_answered 1 s)
    (cond (eqb (stack_number k s.depth) 0) (stack_answered 0 (changed k s)) (stack_answered (stack_number k s.depth) s))

abbrev pub fresh_stack : MatrixStack
fresh_stack = record { current = record { entries = identity }; saved = replicate limit (record { entries = identity }); depth = 0 }
