-- Why a polymorph was not made.
use Rattle.herm_parcels.specs.declared.poly.PolyFault.{PolyFault}
use Rattle.herm_parcels.specs.declared.poly.PolyFault.TheVariants.{Deep, Memory}

-- it would be too deep
abbrev pub IsDeep : {V : Type 0} → PolyFault V → Type 0
IsDeep (Deep v) = Unit {0}
IsDeep (Memory v) = ⊥

-- the content that is handed back
abbrev pub handed_back : {V : Type 0} → PolyFault V → V
handed_back (Deep v) = v
handed_back (Memory v) = v
