-- `driver::matrix_at` meets its contract.
use Rattle.trace_driver.proofs.matrix_at.Goals as goal

pub returns : goal.returns
returns c = rw (c.matrix_floats.ensures, c.words_from.ensures)
