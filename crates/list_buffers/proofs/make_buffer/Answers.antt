-- `list_buffers::make_buffer` meets its contract: each arm is its row.
use Rattle.number.proofs.Tables.{last_row}
use Rattle.list_buffers.proofs.Answers.{Answers, answers_is, replied_is}
use mathlib.Core.Path.{refl, sym, ap, ◌∙◌}
use Rattle.list_records.specs.Encoding.{buffer_rows, buffer_of}
use Rattle.context.specs.Calls.{gen_buffers, bind_buffer}
use Rattle.list_buffers.proofs.make_buffer.Goals as goal

pub returns-in-32 : goal.returns-in-32
unfolding buffer_of
returns-in-32 c =
    let a = c.args in
    let arm = c.in-32.is in
    let long-at = c.long_at.ensures in
    let made = c.make_gen.ensures in
    let h : Answers (buffer_of a.record.bytes.now a.record.code a.record.words.now) a.c a.store.now c.make_gen.result a.store.now =
    answers_is (ap gen_buffers long-at ∙ (λ i. buffer_of a.record.bytes.now (sym arm i) a.record.words.now)) (made.did _, made.value)
    in record { did = h.0; value = h.1 }

pub returns-in-33 : goal.returns-in-33
unfolding buffer_of
returns-in-33 c =
    let a = c.args in
    let arm = c.in-33.is in
    let word_at = c.word.ensures in
    let word-at2 = c.word-in-33.ensures in
    let h : Answers (buffer_of a.record.bytes.now a.record.code a.record.words.now) a.c a.store.now c.into.result a.store.now =
    answers_is ((λ i. bind_buffer (word_at i) (word-at2 i)) ∙ (λ i. buffer_of a.record.bytes.now (sym arm i) a.record.words.now))
    (replied_is c.into.ensures (c.bind_buffer.ensures _) refl)
    in record { did = h.0; value = h.1 }

pub returns-in-34 : goal.returns-in-34
unfolding buffer_of
returns-in-34 c =
    let a = c.args in
    let arm = c.in-34.is in
    let h : Answers (buffer_of a.record.bytes.now a.record.code a.record.words.now) a.c a.store.now c.into-in-34.result a.store.now =
    answers_is (λ i. buffer_of a.record.bytes.now (sym arm i) a.record.words.now) (replied_is c.into-in-34.ensures (c.delete_buffers.ensures _) refl)
    in record { did = h.0; value = h.1 }

pub returns-in-35 : goal.returns-in-35
unfolding buffer_of
returns-in-35 c =
    let a = c.args in
    let arm = c.in-35.is in
    let make-data = c.make_data.ensures in
    let h : Answers (buffer_of a.record.bytes.now a.record.code a.record.words.now) a.c a.store.now c.into-in-35.result c.make_data.new.store =
    answers_is (λ i. buffer_of a.record.bytes.now (sym arm i) a.record.words.now) (replied_is c.into-in-35.ensures make-data refl)
    in record { did = h.0; value = h.1 }

pub returns-in_default : goal.returns-in_default
unfolding buffer_of
returns-in_default c =
    let a = c.args in
    let arm = c.in_default.in_default-own.rest in
    let make-sub-data = c.make_sub_data.ensures in
    let h : Answers (buffer_of a.record.bytes.now a.record.code a.record.words.now) a.c a.store.now c.into-in_default.result c.make_sub_data.new.store =
    answers_is (last_row (buffer_rows a.record.bytes.now a.record.words.now) _ _ arm) (replied_is c.into-in_default.ensures make-sub-data refl)
    in record { did = h.0; value = h.1 }
