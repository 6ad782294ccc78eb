-- `unsound_buffers` meets its contract: each arm is its row.
use Rattle.number.proofs.Tables.{last_row}
use Rattle.buffers.specs.Objects.{slot_count}
use Rattle.buffers.specs.Live.{NextLive}
use Rattle.trace_unsound.specs.Kinds.{unsound_buffer_rows, buffers_made}
use Rattle.trace_unsound.proofs.Names.{least_found}
use Rattle.trace_unsound.proofs.unsound_buffers.Goals as goal
use Rattle.trace_unsound.proofs.unsound_buffers.Goals.{After-last_name-last}

least : (c : After-last_name-last) → NextLive c.args.b.slots 0 slot_count c.unwrap_or-k.result
least c = rw c.unwrap_or-k.ensures (least_found _ _ _ c.next_live.ensures)

pub returns-in-6 : goal.returns-in-6
unfolding buffers_made
returns-in-6 c =
    record {
      slot_of_least = _;
      least = least (goal.at.returns-in-6 c).After-last_name-last;
      last = _;
      greatest = c.last_name-last.ensures;
      result = rw (c.in-6.is, c.put_slot.ensures, c.slot_name-name.ensures);
    }

pub returns-in-7 : goal.returns-in-7
unfolding buffers_made
returns-in-7 c =
    record {
      slot_of_least = _;
      least = least (goal.at.returns-in-7 c).After-last_name-last;
      last = _;
      greatest = c.last_name-last.ensures;
      result = rw (c.in-7.is, c.put_slot-in-7.ensures, c.other_than.ensures, c.slot_name-name.ensures);
    }

pub returns-in-9 : goal.returns-in-9
unfolding buffers_made
returns-in-9 c = record { slot_of_least = _; least = least (goal.at.returns-in-9 c).After-last_name-last; last = _; greatest = c.last_name-last.ensures; result = rw c.in-9.is }

pub returns-in-10 : goal.returns-in-10
unfolding buffers_made
returns-in-10 c = record { slot_of_least = _; least = least (goal.at.returns-in-10 c).After-last_name-last; last = _; greatest = c.last_name-last.ensures; result = rw c.in-10.is }

pub returns-in-11 : goal.returns-in-11
unfolding buffers_made
returns-in-11 c = record { slot_of_least = _; least = least (goal.at.returns-in-11 c).After-last_name-last; last = _; greatest = c.last_name-last.ensures; result = rw c.in-11.is }

pub returns-in_default : goal.returns-in_default
unfolding buffers_made
returns-in_default c =
    record {
      slot_of_least = _;
      least = least (goal.at.returns-in_default c).After-last_name-last;
      last = _;
      greatest = c.last_name-last.ensures;
      result = last_row (unsound_buffer_rows _ _ c.args.b) _ _ c.in_default.in_default-own.rest;
    }
