use Rattle.std.proofs.Common.{◌≡◌, inl, inr, [], ◌∷◌, Some, refl, ap, subst}
use Rattle.std.specs.Prelude.{slice_get, IsTrue}
use Rattle.herm_model.specs.Calls.{is_returned}
use Rattle.herm_model.specs.Lists.{IsIn}
use Rattle.herm_model.specs.Types.{Parameter, Raised, callmessage, inport, outport, by_in, by_inout, by_out}
use Rattle.herm_model.specs.WellFormedTables.{KeepsReturned}
use Rattle.herm_model.proofs.DecidedTables.{none-well_formed}
use Rattle.herm_instructions.proofs.DecidedCode.{test-images}
use Rattle.herm_instructions.specs.examples.ExampleImages.{example_defined}
use Rattle.herm_code_machine.specs.examples.CallingCode.{answering_code, asks, keeps_of_call, kept_parameter}
use Rattle.herm_code_machine.proofs.examples.calling_code_meets_the_laws.Goals as goal

kept-back : KeepsReturned (callmessage (record { mode = by_in; content = 2 } ∷ record { mode = by_inout; content = 2 } ∷ []) keeps_of_call)
kept-back r (inl is) i h = by (subst (λ (r : Raised). IsIn i r.kept) is h)
  where
    by : IsIn i (1 ∷ []) → (p : Parameter) × (slice_get (record { mode = by_in; content = 2 } ∷ record { mode = by_inout; content = 2 } ∷ []) i ≡ Some p) × IsTrue (is_returned p.mode)
    by (inl same) = (record { mode = by_inout; content = 2 }, ap (slice_get (record { mode = by_in; content = 2 } ∷ record { mode = by_inout; content = 2 } ∷ [])) same, refl)
    by (inr h) = absurd h
kept-back r (inr h) i g = absurd h

pub returns : goal.returns
returns c =
    let kept = (none-well_formed 8 example_defined).0 refl in
    let answered = (none-well_formed 8 (callmessage (record { mode = by_out; content = 2 } ∷ []) [] ∷ inport 8 [] ∷ outport 9 ∷ [])).0 refl in
    record {
      kept = record { good = (test-images 8 kept_parameter kept).0 refl; table = kept };
      answered = record { good = (test-images 8 (asks answering_code) answered).0 refl; table = answered };
      kept_main = refl;
      answered_main = refl;
      calls = record { given = (tt, (refl, tt)); declared = refl; returned = kept-back };
    }
