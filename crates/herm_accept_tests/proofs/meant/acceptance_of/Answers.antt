use Rattle.herm_accept_tests.proofs.meant.acceptance_of.Goals as goal

pub accept-requires-clause-typed : goal.accept-requires-clause-typed
accept-requires-clause-typed c = rw c.as_slice.ensures.value c.requires.typed.modules
