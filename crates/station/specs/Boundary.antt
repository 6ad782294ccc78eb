-- What the functions of the boundary promise.
use Rattle.std.specs.Prelude.{cond, List, ◌≡◌, ℕ, eqb, length, Float}
use Rattle.buffers.specs.Objects.{store_bytes}
use Rattle.context.specs.State.{Fresh}
use Rattle.list_runner.specs.declared.ListReply.{ListReply}
use Rattle.list_runner.specs.Run.{MakesList}
use Rattle.station.specs.declared.Kept.{Kept}
use Rattle.station.specs.declared.StationReply.{StationReply}
use Rattle.station.specs.declared.Layout.{Layout}
use Rattle.station.specs.Kept.{kept_of, context_from}

-- what both sides must agree on: the version of the boundary, and the bytes of a kept context, of a reply and of a store
abbrev pub layout : Layout
layout = record { version = 1; context = 3640; reply = 24; store = store_bytes }

-- the numbers are those of a context
abbrev pub Encodes : Kept → Type 0
Encodes k = kept_of (context_from k) ≡ k

pub record FreshKept (k : Kept) : Type 0 where
  pub fresh : Fresh (context_from k)
  pub encodes : Encodes k

-- ---- a list of calls

-- numbers that are no context's: number 1, and no call is made
abbrev pub refusal : StationReply
refusal = record { number = 1; value = 0; made = 0 }

-- the answer of a list of n words: number and value of its last call, or 23 and 0 where words are left that are no record
abbrev pub answer_of : ℕ → ListReply → StationReply
answer_of n l =
    cond (eqb l.read n) (record { number = l.number; value = l.value; made = l.made }) (record { number = 23; value = 0; made = l.made })

-- nothing is changed
pub record Refused (k : Kept) (s : List ℕ) (out : List Float) (r : StationReply) (k1 : Kept) (s1 : List ℕ) (out1 : List Float) : Type 0 where
  pub answer : r ≡ refusal
  pub kept : k1 ≡ k
  pub store : s1 ≡ s
  pub output : out1 ≡ out

-- the calls of the list were made on the context of k, and k1 is what the last of them left
pub record Made (k : Kept) (s words bytes : List ℕ) (out : List Float) (r : StationReply) (k1 : Kept) (s1 : List ℕ) (out1 : List Float) : Type 0 where
  pub list : ListReply
  pub makes : MakesList (context_from k) words bytes s out list s1 out1
  pub answer : r ≡ answer_of (length words) list
  pub kept : k1 ≡ kept_of list.context

pub record Ran (k : Kept) (s words bytes : List ℕ) (out : List Float) (r : StationReply) (k1 : Kept) (s1 : List ℕ) (out1 : List Float) : Type 0 where
  pub refused : (Encodes k → ⊥) → Refused k s out r k1 s1 out1
  pub made : Encodes k → Made k s words bytes out r k1 s1 out1
