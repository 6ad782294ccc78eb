-- `assembly::coordinates` meets its contract: the first two components of the fetch, or those of the origin.
use mathlib.Core.List.{List}
use mathlib.Core.Path.{ap, ◌∙◌}
use lib.Ieee.{Float}
use Rattle.fetch.specs.Fetch.{Fetched}
use Rattle.vertex.specs.Vertex.{components_or, origin, pair_from}
use Rattle.assembly.proofs.coordinates.Goals as goal

pub returns : goal.returns
returns c =
    ap (λ (l : List Float). pair_from l) (c.components_or-v.ensures ∙ ap (λ (x : Fetched). components_or x origin) c.fetch_element.ensures)
