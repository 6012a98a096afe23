-- The sides of a vertex set, as a check of a cut goes over them.
use Rattle.std.specs.Prelude.{ℕ, Bool, List}
use Rattle.decomposition.specs.declared.Side.{Side}
use Rattle.decomposition.specs.declared.Side.TheVariants.{Entering, Leaving}
use Rattle.decomposition.specs.Graph.{Graph, is_source, is_sink}
use Rattle.decomposition.specs.Certificates.{is_entering, is_leaving}

-- the side on the other hand
abbrev pub opposite : Side → Side
opposite Entering = Leaving
opposite Leaving = Entering

-- whether an edge enters the vertex set, or leaves it
abbrev pub crosses : Graph → Side → List ℕ → ℕ → Bool
crosses g Entering xs e = is_entering g xs e
crosses g Leaving xs e = is_leaving g xs e

-- whether nothing that enters a vertex can go on, or nothing that leaves it has come
abbrev pub is_end : Graph → Side → ℕ → Bool
is_end g Entering v = is_sink g v
is_end g Leaving v = is_source g v
