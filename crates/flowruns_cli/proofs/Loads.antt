-- A lightest decomposition attains the least load.
use Rattle.std.proofs.Common.{◌≡◌, ℕ, List, arith}
use Rattle.decomposition.specs.Graph.{Graph}
use Rattle.run_weight.specs.Loads.{load, IsLeastLoad, IsLightest}

pub load-least : (g : Graph) (flow : ℕ → ℕ) (r : List ℕ) (least : ℕ) (a : List (List ℕ × ℕ)) → IsLeastLoad g flow r least → IsLightest g flow r a → load a r ≡ least
load-least g flow r least a is light =
    let reached = is.reached in
    omega (arith, is.least a light.decomposes, light.least reached.0 reached.1, reached.2)
