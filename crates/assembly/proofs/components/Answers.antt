-- `assembly::components` meets its contract: each component is what `component_at` gives.
use Rattle.fetch.specs.Decode.{vector_of}
use Rattle.assembly.proofs.components.Goals as goal

pub returns : goal.returns
unfolding vector_of
returns g c =
    λ i. record {
      x = c.component_at-x.ensures i;
      y = c.component_at-y.ensures i;
      z = c.component_at-z.ensures i;
      w = c.component_at-w.ensures i;
    }
