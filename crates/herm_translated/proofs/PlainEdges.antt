-- The one edge of a block that goes on to the next one.
use Rattle.std.proofs.Common.{◌≡◌, ℕ, List, [], ◌∷◌, true, refl, sym, ap, true≢false}
use Rattle.std.proofs.lemmas.Bool.{eqb-true}
use Rattle.herm_model.specs.Outcomes.{Outcome, ok}
use Rattle.herm_model.specs.Paths.{Path}
use Rattle.herm_translated.specs.Departures.{Arrival, to_block, Departure}
use Rattle.herm_translated.specs.CodeBlocks.{is_plain_edge, is_one_plain}

plain-edge : (next : ℕ) (o : Outcome) (ps : List Path) (ss : List ℕ) (a : Arrival) → is_plain_edge next o ps ss a ≡ true → (o ≡ ok) × (ps ≡ []) × (ss ≡ []) × (a ≡ to_block next)
plain-edge next ok [] [] (to_block n) e = (refl, refl, refl, ap to_block (eqb-true n next e))
plain-edge next o ps ss a e = absurd (true≢false (sym e))

-- it is the only one, and arrives at the next block with nothing to drop
pub record IsOnePlain (next : ℕ) (ds : List Departure) : Type 0 where
  pub edge : Departure
  pub only : ds ≡ edge ∷ []
  pub outcome : edge.outcome ≡ ok
  pub drops : edge.drops ≡ []
  pub slots : edge.slots ≡ []
  pub arrival : edge.arrival ≡ to_block next

pub one-plain : (next : ℕ) (ds : List Departure) → is_one_plain next ds ≡ true → IsOnePlain next ds
one-plain next [] e = absurd (true≢false (sym e))
one-plain next (d ∷ []) e =
    let p = plain-edge next d.outcome d.drops d.slots d.arrival e in
    record { edge = d; only = refl; outcome = p.0; drops = p.1; slots = p.2; arrival = p.3 }
one-plain next (d ∷ c ∷ ds) e = absurd (true≢false (sym e))
