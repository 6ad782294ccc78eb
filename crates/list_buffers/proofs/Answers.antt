-- What the buffer call of a record answers. Assumes nothing.
use mathlib.Core.List.{List}
use mathlib.Core.Path.{◌≡◌, sym, subst}
use Prim.Native.Nat.{ℕ}
use Rattle.context.specs.declared.Context.{Context}
use Rattle.context.specs.Calls.{BufferCall, buffer, Call, object}
use Rattle.context.specs.Contract.{Did}
use Rattle.list_records.specs.declared.CallReply.{CallReply}
use Rattle.list_records.specs.Perform.{buffer_value, reply_of}

pub did_is : {k k' : Call} {c c1 : Context} {n : ℕ} {s s1 : List ℕ} → k ≡ k' → Did k c s n c1 s1 → Did k' c s n c1 s1
did_is {c = c} {c1 = c1} {n = n} {s = s} {s1 = s1} e d = subst (λ (j : Call). Did j c s n c1 s1) e d

-- what a buffer call answers, where the record stands for it
abbrev pub Answers : BufferCall → Context → List ℕ → CallReply → List ℕ → Type 0
Answers k c s r s1 = Did (object (buffer k)) c s r.number r.context s1 × (r.value ≡ buffer_value k c r.number)

pub answers_is : {k k' : BufferCall} {c : Context} {s s1 : List ℕ} {r : CallReply} → k ≡ k' → Answers k c s r s1 → Answers k' c s r s1
answers_is {c = c} {s = s} {s1 = s1} {r = r} e a = subst (λ (k : BufferCall). Answers k c s r s1) e a

-- one that has no value
pub replied_is : {k : BufferCall} {c c1 : Context} {s s1 : List ℕ} {n : ℕ} {r : CallReply}
    → r ≡ reply_of n 0 c1 → Did (object (buffer k)) c s n c1 s1 → 0 ≡ buffer_value k c n → Answers k c s r s1
replied_is {k = k} {c = c} {s = s} {s1 = s1} e m v = subst (λ (x : CallReply). Answers k c s x s1) (sym e) (m, v)
