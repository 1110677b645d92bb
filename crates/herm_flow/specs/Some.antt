-- Some of the elements of a list.
use Rattle.std.specs.Prelude.{List, [], ◌∷◌}

-- some of these, in their order
pub data AreSome {X : Type 0} : List X → List X → Type 0 where
  none : AreSome [] []
  taken : (x : X) (some all : List X) → AreSome some all → AreSome (x ∷ some) (x ∷ all)
  left_out : (x : X) (some all : List X) → AreSome some all → AreSome some (x ∷ all)
