use Rattle.herm_compile.proofs.TokenFacts.{fault_within}
use Rattle.herm_compile.proofs.phase.file_fault.Goals as goal

pub place_at-place-requires-clause-short : goal.place_at-place-requires-clause-short
place_at-place-requires-clause-short c = rw c.fault_offset.ensures (fault_within _ _ c.requires).1

pub place_at-place-requires-clause-within : goal.place_at-place-requires-clause-within
place_at-place-requires-clause-within c = rw c.fault_offset.ensures (fault_within _ _ c.requires).0
