use Rattle.herm_codegen_tests.proofs.meant.image_of.Goals as goal

pub accept-requires-clause-typed : goal.accept-requires-clause-typed
accept-requires-clause-typed c = rw c.as_slice.ensures.value c.requires.typed.modules
