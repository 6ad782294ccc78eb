-- The stacks outside the context (TRACE.md: "Outer stacks, unsound contexts, state").
use Rattle.std.specs.Prelude.{Bool, cond, ◌&&◌, List, [], ◌∷◌, ℕ, ◌+◌, ◌*◌, ltb, leb, drop, get_or, set}
use Rattle.number.specs.Tables.{Row, ◌names◌, row_or}
use Rattle.list_words.specs.Words.{word_at, matrix_floats}
use Rattle.stack.specs.Stack.{MatrixCall, limit, stack_answered, stack_answer, no_matrix}
use Rattle.stack.specs.declared.Matrix.{Matrix}
use Rattle.stack.specs.declared.MatrixStack.{MatrixStack}
use Rattle.refusal.specs.Refusals.{Answer}
use Rattle.trace_format.specs.Fill.{tabulate}

-- ---- the stack of a STACK_SET record: slot, count, the current matrix, the saved ones, the oldest first. A word past the end is 0

-- the matrix in the sixteen words from a place on
abbrev pub matrix_at : List ℕ → ℕ → Matrix
matrix_at w place = record { entries = matrix_floats (drop place w) }

abbrev pub saved_at : List ℕ → ℕ → Matrix
saved_at w k = matrix_at w (18 + 16 * k)

abbrev pub stack_of : List ℕ → MatrixStack
stack_of w = record { current = matrix_at w 2; saved = tabulate (saved_at w) limit; depth = word_at w 1 }

-- ---- what a record on a stack answers, and the stack after it

-- STACK_SET: the stack of its words; STACK_PUSH and STACK_POP: the rules of the stack
abbrev pub record_rows : List ℕ → MatrixStack → List (Row (Answer MatrixStack))
record_rows w s =
    0x70 names stack_answered 0 (stack_of w)
    ∷ 0x71 names stack_answer MatrixCall.push s
    ∷ 0x72 names stack_answer MatrixCall.pop s
    ∷ []

-- any other leaves it
unfoldable pub stack_record : ℕ → List ℕ → MatrixStack → Answer MatrixStack
stack_record code w s = row_or (record_rows w s) code (stack_answered 0 s)

-- ---- the four stacks after a record: its first word is the slot

abbrev pub stack_slots : ℕ
stack_slots = 4

-- a stack of nothing, where a list has no stack
abbrev pub no_stack : MatrixStack
no_stack = record { current = no_matrix; saved = []; depth = 0 }

-- the opcodes of records on them
abbrev pub is_stack_record : ℕ → Bool
is_stack_record code = leb 0x70 code && ltb code 0x74

unfoldable pub outer_stacks_after : ℕ → List ℕ → List MatrixStack → List MatrixStack
outer_stacks_after code w stacks =
    cond (is_stack_record code && ltb (word_at w 0) stack_slots) (set stacks (word_at w 0) (stack_record code w (get_or stacks (word_at w 0) no_stack)).after) stacks
