-- One record after the other: what a list of calls leaves. Assumes nothing.
use mathlib.Core.Bool.{Bool, true, false, cond, true≢false}
use mathlib.Core.List.{List, [], ◌∷◌, ◌++◌, append_assoc, append-nil}
use mathlib.Core.Option.{some, none}
use mathlib.Core.Path.{◌≡◌, refl, sym, ap, subst, ◌∙◌}
use Prim.Native.Nat.{ℕ, zero, suc, ◌+◌, ◌-◌, ◌*◌, ◌<◌, ◌≤◌}
use native.Mathlib.Omega.{arith}
use native.Mathlib.Nat.{zero-add, add-zero, add_assoc}
use borrow.Author.Tests.{lt-ltb, le-ltb, eq-eqb, ne_eqb, ltb-true, ltb-false, leb-true, le-leb, lt-leb}
use lib.Dec.{ltb, leb}
use lib.ListN.{length, take, drop, length-append, length-take, length-drop, take-append-drop}
use lib.Seq.{get_or-drop, drop-drop, drop-append-le, length-take-le}
use lib.Ieee.{Float}
use Rattle.std.proofs.lemmas.List.{take_all}
use Rattle.assembly.specs.Triangles.{Triangle, words_of}
use Rattle.draw.specs.Draw.{output_of}
use Rattle.draw.proofs.Counts.{drawn_fits}
use Rattle.context.specs.declared.Context.{Context}
use Rattle.context.specs.Calls.{Call, matrix, mode, object, attribute, pipeline, take_error, draw}
use Rattle.context.specs.Contract.{Did}
use Rattle.history.specs.Demand3.{logs, draw_replayed, History, then}
use Rattle.history.proofs.Demand3.{demand_3}
use Rattle.list_words.specs.Words.{word_at}
use Rattle.list_records.specs.Encoding.{call_of, is_record, record_call}
use Rattle.list_records.specs.Perform.{is_draw, Performed, called, drew}
use Rattle.list_runner.specs.declared.ListReply.{ListReply}
use Rattle.list_runner.specs.Lists.{record_length, next_size, first_call, onward, decode_to, words_to, decode, words_read}
use Rattle.list_runner.specs.Run.{InTurn, no_call, one_more, MakesList, output_after, output_from}

-- ---- the record at a place

module _ (words : List ℕ) (place size : ℕ) (e : size ≡ record_length (drop place words)) where
  -- a record that is there has its words
  pub record_is : (size ≡ 0 → ⊥) → (size ≡ 2 + word_at (drop place words) 1) × (2 + word_at (drop place words) 1 ≤ length (drop place words))
  record_is n = go (leb (2 + word_at (drop place words) 1) (length (drop place words))) refl e
    where
      go : (b : Bool) → leb (2 + word_at (drop place words) 1) (length (drop place words)) ≡ b → size ≡ cond b (2 + word_at (drop place words) 1) 0
          → (size ≡ 2 + word_at (drop place words) 1) × (2 + word_at (drop place words) 1 ≤ length (drop place words))
      go true f q = (q, leb-true _ _ f)
      go false f q = absurd (n q)

  pub record_inside : (size ≡ 0 → ⊥) → (2 ≤ size) × (place + size ≤ length words)
  record_inside n = let r = record_is n in (omega (arith, r.0), omega (arith, r.0, r.1, length-drop place words))

  module _ (bytes : List ℕ) (room : ℕ) where
    pub no_record : size ≡ 0 → none ≡ first_call bytes room (drop place words)
    unfolding first_call
    no_record z = rw (eq-eqb (record_length (drop place words)) 0 (sym e ∙ z))

    pub a_record : (size ≡ 0 → ⊥) → (code : ℕ) → code ≡ word_at words place
        → record_call bytes room code (take (place + size - (place + 2)) (drop (place + 2) words)) ≡ first_call bytes room (drop place words)
    unfolding first_call
    a_record n code ec =
        let r = record_is n in
        let q : place + size - (place + 2) ≡ word_at (drop place words) 1 = omega (arith, r.0) in
        let k : word_at (drop place words) 0 ≡ code = get_or-drop place words 0 0 ∙ ap (λ (i : ℕ). word_at words i) (add-zero place) ∙ sym ec in
        rw (ne_eqb (record_length (drop place words)) 0 (λ z. n (e ∙ z)), k, drop-drop 2 place words)
        (ap (λ (m : ℕ). record_call bytes room code (take m (drop (place + 2) words))) q)

-- ---- the next record

-- a record has two words at least
length_zero : (l : List ℕ) → record_length l < 2 → record_length l ≡ 0
length_zero l h = go (leb (2 + word_at l 1) (length l)) h
  where
    go : (b : Bool) → cond b (2 + word_at l 1) 0 < 2 → cond b (2 + word_at l 1) 0 ≡ 0
    go true k = absurd (omega arith)
    go false k = refl

-- words that are no record's have no call
not_a_record : (words : List ℕ) (place : ℕ) (bytes : List ℕ) (room : ℕ)
    → 2 ≤ record_length (drop place words) → is_record (word_at (drop place words) 0) (record_length (drop place words) - 2) ≡ false
    → first_call bytes room (drop place words) ≡ none
unfolding first_call
not_a_record words place bytes room h f =
    let l = drop place words in
    let some_words : record_length l ≡ 0 → ⊥ = λ z. absurd (omega arith) in
    let r = record_is words place (record_length l) refl some_words in
    let w = take (word_at l 1) (drop 2 l) in
    let long : record_length l - 2 ≡ length w = omega (arith, r.0, r.1, length-take (word_at l 1) (drop 2 l), length-drop 2 l) in
    rw (ne_eqb (record_length l) 0 some_words) (ap (λ b. cond b (some (call_of bytes room (word_at l 0) w)) none) (ap (is_record (word_at l 0)) (sym long) ∙ f))

size_cases : (r : ℕ) (b k : Bool) (size : ℕ) → size ≡ cond b 0 (cond k r 0) → (size ≡ 0 → ⊥) → (size ≡ r) × (b ≡ false) × (k ≡ true)
size_cases r true k size e n = absurd (n e)
size_cases r false true size e n = (e, refl, refl)
size_cases r false false size e n = absurd (n e)

module _ (words bytes : List ℕ) (place size room : ℕ) (e : size ≡ next_size (drop place words)) where
  abbrev rest : List ℕ
  rest = drop place words

  next_is : (size ≡ 0 → ⊥) → (size ≡ record_length rest) × (2 ≤ record_length rest) × (is_record (word_at rest 0) (record_length rest - 2) ≡ true)
  unfolding next_size
  next_is n =
      let r = size_cases (record_length rest) (ltb (record_length rest) 2) (is_record (word_at rest 0) (record_length rest - 2)) size e n in
      (r.0, ltb-false (record_length rest) 2 r.1, r.2)

  pub next_inside : (size ≡ 0 → ⊥) → (2 ≤ size) × (place + size ≤ length words)
  next_inside n = record_inside words place size (next_is n).0 n

  pub next_some : (size ≡ 0 → ⊥) → (code : ℕ) → code ≡ word_at words place
      → first_call bytes room rest ≡ some (call_of bytes room code (take (place + size - (place + 2)) (drop (place + 2) words)))
  next_some n code ec =
      let r = next_is n in
      let inside = next_inside n in
      let w = take (place + size - (place + 2)) (drop (place + 2) words) in
      let k : word_at rest 0 ≡ code = get_or-drop place words 0 0 ∙ ap (λ (i : ℕ). word_at words i) (add-zero place) ∙ sym ec in
      let taken = length-take (place + size - (place + 2)) (drop (place + 2) words) in
      let long : record_length rest - 2 ≡ length w = omega (arith, r.0, inside.0, inside.1, taken, length-drop (place + 2) words) in
      let is : is_record code (length w) ≡ true = (λ i. is_record (sym k i) (sym long i)) ∙ r.2 in
      sym (a_record words place size r.0 bytes room n code ec) ∙ ap (λ b. cond b (some (call_of bytes room code w)) none) is

  size_is : size ≡ cond (ltb (record_length rest) 2) 0 (cond (is_record (word_at rest 0) (record_length rest - 2)) (record_length rest) 0)
  unfolding next_size
  size_is = e

  pub next_none : size ≡ 0 → first_call bytes room rest ≡ none
  next_none z = go (ltb (record_length rest) 2) (is_record (word_at rest 0) (record_length rest - 2)) refl refl size_is
    where
      go : (b k : Bool) → ltb (record_length rest) 2 ≡ b → is_record (word_at rest 0) (record_length rest - 2) ≡ k
          → size ≡ cond b 0 (cond k (record_length rest) 0) → first_call bytes room rest ≡ none
      go true k f g q = sym (no_record words place (record_length rest) refl bytes room (length_zero rest (ltb-true (record_length rest) 2 f)))
      go false true f g q = absurd (omega (arith, ltb-false (record_length rest) 2 f))
      go false false f g q = not_a_record words place bytes room (ltb-false (record_length rest) 2 f) g

-- what is left of a list, as the code lends it
module _ (words : List ℕ) (place : ℕ) where
  rest_is : take (length words - place) (drop place words) ≡ drop place words
  rest_is = take_all (length words - place) (drop place words) (omega (arith, length-drop place words))

  pub none_next : next_size (take (length words - place) (drop place words)) ≡ 0 → next_size (drop place words) ≡ 0
  none_next e = rw rest_is at e

  module _ {size : ℕ} (h : (size ≡ next_size (take (length words - place) (drop place words))) × (2 ≤ size)) where
    pub is_next : size ≡ next_size (drop place words)
    is_next = rw rest_is at h.0

    pub is_some : size ≡ 0 → ⊥
    is_some z = absurd (omega (arith, h.1))

    pub fits_in : (2 ≤ size) × (place + size ≤ length words)
    fits_in = next_inside words [] place size 0 is_next is_some

-- ---- the output of a call

-- triangles in the first f32 of an output are triangles in the output
within : (ts : List Triangle) (room : ℕ) (out : List Float) → 51 * length ts ≤ length (take room out) → output_of ts (take room out) ++ drop room out ≡ output_of ts out
within ts room out h =
    let n = 51 * length ts in
    append_assoc (words_of ts) (drop n (take room out)) (drop room out)
    ∙ ap (λ (l : List Float). words_of ts ++ l) (sym (drop-append-le n (take room out) (drop room out) h) ∙ ap (λ (l : List Float). drop n l) (take-append-drop room out))

pub output_is : {l : List Call} {c c1 : Context} {s s1 : List ℕ} {out out1 : List Float} {n value : ℕ} {k : Call}
    → History l c s → Performed c s out n value c1 s1 out1 k → out1 ≡ output_after (logs l) k out
output_is {l = l} {out = out} {out1 = out1} {k = k} h (called m f v e) = go k f
  where
    go : (j : Call) → is_draw j ≡ false → out1 ≡ output_after (logs l) j out
    go (matrix j) f = e
    go (mode code) f = e
    go (object j) f = e
    go (attribute j) f = e
    go (pipeline j) f = e
    go take_error f = e
    go (draw d) f = absurd (true≢false f)
output_is {l = l} {out = out} h (drew {d = d} m e) =
    let w = demand_3.replays h m.did in
    let ts = (draw_replayed (logs l) d).triangles in
    let fits = subst (λ (k : ℕ). 51 * length ts ≤ k) (sym (length-take-le d.room out m.room)) (drawn_fits _ _ _ _ _) in
    m.output ∙ ap (λ (p : List Float). p ++ drop d.room out) w.output
    ∙ within ts d.room out fits

-- ---- the loop over records

performed_did : {c c1 : Context} {s s1 : List ℕ} {out out1 : List Float} {n value : ℕ} {k : Call} → Performed c s out n value c1 s1 out1 k → Did k c s n c1 s1
performed_did (called d f v e) = d
performed_did {c = c} {c1 = c1} {s = s} {n = n} {k = k} (drew m e) = subst (λ (t : List ℕ). Did k c s n c1 t) (sym e) m.did.0

-- after one of several ways a call was made, and the lengths stay
abbrev pub Stepped : Context → List ℕ → List Float → Call → ℕ → ℕ → Context → List ℕ → List Float → Type 0
Stepped c s out k n v c1 s1 out1 = Performed c s out n v c1 s1 out1 k × (length s1 ≡ length s) × (length out1 ≡ length out)

pub stayed : {c c1 : Context} {s : List ℕ} {out : List Float} {k : Call} {n v : ℕ} → Performed c s out n v c1 s out k → Stepped c s out k n v c1 s out
stayed p = (p, refl, refl)

pub joined : {c c1 c2 : Context} {s s1 s2 : List ℕ} {out out1 out2 : List Float} {k : Call} {n n2 v v2 : ℕ}
    → Stepped c s out k n v c1 s1 out1 → s2 ≡ s1 → out2 ≡ out1 → c2 ≡ c1 → n2 ≡ n → v2 ≡ v → Stepped c s out k n2 v2 c2 s2 out2
joined {c = c} {s = s} {out = out} {k = k} p e f g q w =
    subst (λ (x : Context × List ℕ × List Float × ℕ × ℕ). Stepped c s out k x.3 x.4 x.0 x.1 x.2) (λ i. (sym g i, sym e i, sym f i, sym q i, sym w i)) p

-- what has been made, and what is left to make, are the whole list
pub record Progress (c₀ : Context) (s₀ words bytes : List ℕ) (out₀ : List Float) (place made n v : ℕ) (c : Context) (s : List ℕ) (out : List Float) : Type 0 where
  pub before : List Call
  pub turn : InTurn c₀ s₀ out₀ before n v c s out
  pub left : ℕ
  pub calls : before ++ decode_to left bytes (length out₀) (drop place words) ≡ decode bytes (length out₀) words
  pub read : place + words_to left bytes (length out₀) (drop place words) ≡ words_read bytes (length out₀) words
  pub count : length before ≡ made
  pub whole : made + left ≡ length words
  pub behind : made ≤ place

module _ {c₀ : Context} {s₀ words bytes : List ℕ} {out₀ : List Float} {place made n0 v0 : ℕ} {c : Context} {s : List ℕ} {out : List Float}
    (g : Progress c₀ s₀ words bytes out₀ place made n0 v0 c s out) where
  -- one call more
  progress_made : {m n value : ℕ} {k : Call} {c1 : Context} {s1 : List ℕ} {out1 : List Float} → g.left ≡ suc m → 1 ≤ record_length (drop place words)
      → first_call bytes (length out₀) (drop place words) ≡ some k → Performed c s out n value c1 s1 out1 k
      → Progress c₀ s₀ words bytes out₀ (place + record_length (drop place words)) (made + 1) n value c1 s1 out1
  unfolding decode_to words_to
  progress_made {m = m} {k = k} z l f p =
      let room = length out₀ in
      let size = record_length (drop place words) in
      let on : drop size (drop place words) ≡ drop (place + size) words = drop-drop size place words in
      let more : decode_to (suc m) bytes room (drop place words) ≡ k ∷ decode_to m bytes room (drop (place + size) words) =
      ap (λ o. onward o (λ j. j ∷ decode_to m bytes room (drop size (drop place words))) []) f ∙ ap (λ (l : List ℕ). k ∷ decode_to m bytes room l) on
      in
      let taken : words_to (suc m) bytes room (drop place words) ≡ size + words_to m bytes room (drop (place + size) words) =
      ap (λ o. onward o (λ j. size + words_to m bytes room (drop size (drop place words))) 0) f ∙ ap (λ (l : List ℕ). size + words_to m bytes room l) on
      in
      record {
        before = g.before ++ (k ∷ []);
        turn = one_more g.turn p;
        left = m;
        calls =
            append_assoc g.before (k ∷ []) (decode_to m bytes room (drop (place + size) words)) ∙ ap (λ (l : List Call). g.before ++ l) (sym more)
            ∙ ap (λ (n : ℕ). g.before ++ decode_to n bytes room (drop place words)) (sym z) ∙ g.calls;
        read =
            add_assoc place size (words_to m bytes room (drop (place + size) words)) ∙ ap (λ (n : ℕ). place + n) (sym taken)
            ∙ ap (λ (n : ℕ). place + words_to n bytes room (drop place words)) (sym z) ∙ g.read;
        count = omega (arith, length-append g.before (k ∷ []), g.count);
        whole = omega (arith, z, g.whole);
        behind = omega (arith, l, g.behind);
      }

module _ {c₀ : Context} {s₀ words bytes : List ℕ} {out₀ : List Float} where
  -- the next call is made
  pub progress_next : {place made size n0 v0 n v : ℕ} {c c1 : Context} {s s1 : List ℕ} {out out1 : List Float}
      → Progress c₀ s₀ words bytes out₀ place made n0 v0 c s out → length out ≡ length out₀
      → size ≡ next_size (drop place words) → (size ≡ 0 → ⊥) → {code : ℕ} → code ≡ word_at words place
      → Performed c s out n v c1 s1 out1 (call_of bytes (length out) code (take (place + size - (place + 2)) (drop (place + 2) words)))
      → Progress c₀ s₀ words bytes out₀ (place + size) (made + 1) n v c1 s1 out1
  progress_next {place = place} {made = made} {size = size} {n = n} {v = v} {c = c} {c1 = c1} {s = s} {s1 = s1} {out = out} {out1 = out1} g h e nz {code = code} ec p =
      let w = take (place + size - (place + 2)) (drop (place + 2) words) in
      let q = subst (λ (r : ℕ). Performed c s out n v c1 s1 out1 (call_of bytes r code w)) h p in
      let length_is = (next_is words bytes place size (length out₀) e nz).0 in
      let inside = next_inside words bytes place size (length out₀) e nz in
      let some_left : g.left ≡ suc (g.left - 1) = omega (arith, inside.0, inside.1, g.whole, g.behind) in
      subst (λ (x : ℕ). Progress c₀ s₀ words bytes out₀ (place + x) (made + 1) n v c1 s1 out1) (sym length_is)
      (progress_made g some_left (omega (arith, inside.0, length_is)) (next_some words bytes place size (length out₀) e nz code ec) q)

  -- before the first call
  pub progress_start : Progress c₀ s₀ words bytes out₀ 0 0 0 0 c₀ s₀ out₀
  progress_start = record { before = []; turn = no_call; left = length words; calls = refl; read = zero-add _; count = refl; whole = zero-add _; behind = omega arith }

  -- after the last: nothing of what is left has a call
  pub progress_stop : {place made n v : ℕ} {c : Context} {s : List ℕ} {out : List Float} → Progress c₀ s₀ words bytes out₀ place made n v c s out
      → next_size (drop place words) ≡ 0
      → MakesList c₀ words bytes s₀ out₀ (record { read = place; made = made; number = n; value = v; context = c }) s out
  unfolding decode_to words_to
  progress_stop {place = place} {made = made} {n = n} {v = v} {c = c} {s = s} {out = out} g z =
      let room = length out₀ in
      let ended = none_left g.left in
      let all : g.before ≡ decode bytes room words = sym (append-nil g.before) ∙ ap (λ (l : List Call). g.before ++ l) (sym ended.0) ∙ g.calls in
      record {
        read = sym (add-zero place) ∙ ap (λ (k : ℕ). place + k) (sym ended.1) ∙ g.read;
        count = sym g.count ∙ ap (λ (l : List Call). length l) all;
        made = subst (λ (l : List Call). InTurn c₀ s₀ out₀ l n v c s out) all g.turn;
      }
    where
      none_left : (left : ℕ) → (decode_to left bytes (length out₀) (drop place words) ≡ []) × (words_to left bytes (length out₀) (drop place words) ≡ 0)
      none_left zero = (refl, refl)
      none_left (suc m) =
          let f = next_none words bytes place 0 (length out₀) (sym z) refl in
          let k = record_length (drop place words) in (
            ap (λ o. onward o (λ j. j ∷ decode_to m bytes (length out₀) (drop k (drop place words))) []) f,
            ap (λ o. onward o (λ j. k + words_to m bytes (length out₀) (drop k (drop place words))) 0) f,
          )

-- ---- a list after other calls from fresh

-- The calls of a list are made after other calls, up to the first words that are no record.
pub record Continues (before : List Call) (words bytes : List ℕ) (out : List Float) (r : ListReply) (s1 : List ℕ) (out1 : List Float) : Type 0 where
  pub read : r.read ≡ words_read bytes (length out) words
  pub history : History (before ++ decode bytes (length out) words) r.context s1
  pub output : out1 ≡ output_from before (decode bytes (length out) words) out

-- the output of one list after another
pub output_append : (before a b : List Call) (out : List Float) → output_from before (a ++ b) out ≡ output_from (before ++ a) b (output_from before a out)
unfolding output_from
output_append before [] b out = ap (λ (l : List Call). output_from l b out) (sym (append-nil before))
output_append before (k ∷ a) b out =
    output_append (before ++ (k ∷ [])) a b (output_after (logs before) k out)
    ∙ ap (λ (l : List Call). output_from l b (output_from (before ++ (k ∷ [])) a (output_after (logs before) k out))) (append_assoc before (k ∷ []) a)

in_turn : {before : List Call} {c : Context} {s : List ℕ} {out : List Float} {l : List Call} {n v : ℕ} {c1 : Context} {s1 : List ℕ} {out1 : List Float}
    → History before c s → InTurn c s out l n v c1 s1 out1 → History (before ++ l) c1 s1 × (out1 ≡ output_from before l out)
unfolding output_from
in_turn {before = before} {c = c} {s = s} h no_call = (subst (λ (l : List Call). History l c s) (sym (append-nil before)) h, refl)
in_turn {before = before} {out = out} h (one_more {l = l} {k = k} {c2 = c2} {s2 = s2} t p) =
    let q = in_turn h t in (
      subst (λ (m : List Call). History m c2 s2) (append_assoc before l (k ∷ [])) (then q.0 (performed_did p)),
      output_is q.0 p ∙ ap (λ (o : List Float). output_after (logs (before ++ l)) k o) q.1 ∙ sym (output_append before l (k ∷ []) out),
    )

pub continues : {before : List Call} {c : Context} {words bytes s s1 : List ℕ} {out out1 : List Float} {r : ListReply}
    → History before c s → MakesList c words bytes s out r s1 out1
    → Continues before words bytes out r s1 out1
continues h m = let q = in_turn h m.made in record { read = m.read; history = q.0; output = q.1 }
