-- The messages that wait, and room for more.
use Rattle.std.specs.Prelude.{ℕ, List}
use Rattle.herm_letters.specs.declared.parcel.Parcel.{Parcel}

-- messages in order, and for how many more memory has been taken
pub record QueueState : Type 0 where
  pub parcels : List Parcel
  pub room : ℕ
