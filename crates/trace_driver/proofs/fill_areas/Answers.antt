-- `driver::fill_areas` meets its contract: each arm is its row.
use Rattle.std.proofs.Common.{sym, ap}
use Rattle.number.proofs.Tables.{last_row}
use Rattle.trace_driver.specs.Settings.{page_bytes, store_rows, store_after, guest_rows, guest_after}
use Rattle.trace_driver.proofs.fill_areas.Goals as goal

pub returns-in-3 : goal.returns-in-3
unfolding store_after guest_after
returns-in-3 c = record { store_after = rw (c.in-3.is, sym c.word-a.ensures) c.fill.ensures; guest_after = rw c.in-3.is }

pub returns-in-4 : goal.returns-in-4
unfolding store_after guest_after
returns-in-4 c =
    record {
      store_after = rw (c.in-4.is, sym c.word-a.ensures, sym c.word-b.ensures, sym c.bytes_at-bytes.ensures) (ap page_bytes c.put.ensures.result_after);
      guest_after = rw c.in-4.is;
    }

pub returns-in-6 : goal.returns-in-6
unfolding store_after guest_after
returns-in-6 c =
    record { store_after = rw c.in-6.is; guest_after = rw (c.in-6.is, sym c.word-b.ensures, sym c.bytes_at.ensures) (ap page_bytes c.put-in-6.ensures.result_after) }

pub returns-in-7 : goal.returns-in-7
unfolding store_after guest_after
returns-in-7 c = record { store_after = rw c.in-7.is; guest_after = rw (c.in-7.is, sym c.word-b.ensures, sym c.word.ensures) c.fill-in-7.ensures }

pub returns-in_default : goal.returns-in_default
unfolding store_after guest_after
returns-in_default c =
    let a = c.args in
    let r = a.«record» in
    record {
      store_after = last_row (store_rows r.words.now r.bytes.now a.store.now) _ _ c.in_default.in_default-own.rest.0.0;
      guest_after = last_row (guest_rows r.words.now r.bytes.now a.guest.now) _ _ ((tt, c.in_default.in_default-own.rest.0.1), c.in_default.in_default-own.rest.1);
    }
