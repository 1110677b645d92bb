use Rattle.std.proofs.Common.{◌≡◌, ◌++◌, map, drop}
use Rattle.herm_letters.proofs.parcel.push_traces.Given as goal

abbrev pub invariant-parcels : goal.invariant-parcels
invariant-parcels l = l.texts.items ++ map (λ p. p.trace) (drop l.parcel-index l.parcels) ≡ l.fn.texts.items ++ map (λ p. p.trace) l.parcels
