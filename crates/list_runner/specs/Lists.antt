-- Lists of calls as words and bytes: records one after the other. In a list a record is its code, the number n of its words, and n words.
use Rattle.std.specs.Prelude.{cond, List, [], ◌∷◌, ℕ, zero, suc, ◌+◌, ◌-◌, eqb, ltb, leb, length, take, drop}
use Rattle.std.proofs.Math.Option.{Option, some, none}
use Rattle.context.specs.Calls.{Call}
use Rattle.list_words.specs.Words.{word_at}
use Rattle.list_records.specs.Encoding.{is_record, record_call}

-- the words of the record at the start of a list, its code and their number included; 0 where it is not all there
abbrev pub record_length : List ℕ → ℕ
record_length words = cond (leb (2 + word_at words 1) (length words)) (2 + word_at words 1) 0

-- the same of a record that has a call, else 0
unfoldable pub next_size : List ℕ → ℕ
next_size words = cond (ltb (record_length words) 2) 0 (cond (is_record (word_at words 0) (record_length words - 2)) (record_length words) 0)

-- the call of the record at the start of a list
unfoldable pub first_call : List ℕ → ℕ → List ℕ → Option Call
first_call bytes room words =
    cond (eqb (record_length words) 0) none (record_call bytes room (word_at words 0) (take (word_at words 1) (drop 2 words)))

abbrev pub onward : {A : Type 0} → Option Call → (Call → A) → A → A
onward (some k) more stop = more k
onward none more stop = stop

-- at most n calls: the list ends where no record follows
unfoldable pub decode_to : ℕ → List ℕ → ℕ → List ℕ → List Call
decode_to zero bytes room words = []
decode_to (suc n) bytes room words = onward (first_call bytes room words) (λ k. k ∷ decode_to n bytes room (drop (record_length words) words)) []

-- how many words they take
unfoldable pub words_to : ℕ → List ℕ → ℕ → List ℕ → ℕ
words_to zero bytes room words = 0
words_to (suc n) bytes room words = onward (first_call bytes room words) (λ k. record_length words + words_to n bytes room (drop (record_length words) words)) 0

-- a list has no more records than words
abbrev pub decode : List ℕ → ℕ → List ℕ → List Call
decode bytes room words = decode_to (length words) bytes room words

abbrev pub words_read : List ℕ → ℕ → List ℕ → ℕ
words_read bytes room words = words_to (length words) bytes room words
