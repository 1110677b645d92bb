use Rattle.std.proofs.Common.{◌≡◌, [], map, length, sym, ap, subst, ◌∙◌, arith, eqb-true}
use Rattle.herm_model.specs.TypedPrograms.{IsTypedProgram}
use Rattle.herm_syntax.specs.View.{module_view}
use Rattle.herm_naming.specs.Numbers.{place_of}
use Rattle.herm_naming.specs.Meaning.{meaning, main_name, main_number}
use Rattle.herm_naming.proofs.Unrefused.{unrefused-typed}
use Rattle.herm_numbers.specs.Faults.{name_fault_view}
use Rattle.herm_resolve.specs.Refused.{places_from, nowhere, AreRefusalsOf}
use Rattle.herm_resolve.proofs.Refusing.{empty}
use Rattle.herm_resolve.proofs.program.program_or_faults.Goals as goal

pub returns-clause-typed : goal.returns-clause-typed
returns-clause-typed c =
    let T = c.args.known.now.types.now in
    let ms = map module_view c.args.modules.now in
    let z = eqb-true _ 0 (sym c.is_empty.ensures ∙ c.if-not-is_empty.false) in
    let none : c.judged.new.faults.items ≡ [] = empty c.judged.new.faults.items (omega (arith, z)) in
    let refusals : AreRefusalsOf T c.args.modules.now [] = subst (λ fs. AreRefusalsOf T c.args.modules.now (map name_fault_view fs)) none c.in_ok-processes.ensures.refusals in
    let main : c.number-main.result ≡ main_number ms = c.number-main.ensures ∙ ap (place_of main_name) c.requires.of.names in
    subst (λ ps. IsTypedProgram (length T.exceptions) T.shapes ps c.number-main.result) (sym c.in_ok-processes.ensures.meaning)
    (subst (λ m. IsTypedProgram (length T.exceptions) T.shapes (meaning T ms) m) (sym main)
    (unrefused-typed T ms (places_from 0 c.args.modules.now) nowhere c.requires.ready.well c.in_ok-processes.ensures.placed refusals))

pub returns-clause-program : goal.returns-clause-program
returns-clause-program c =
    let z = eqb-true _ 0 (sym c.is_empty.ensures ∙ c.if-not-is_empty.false) in
    let none : c.judged.new.faults.items ≡ [] = empty c.judged.new.faults.items (omega (arith, z)) in
    record {
      processes = c.in_ok-processes.ensures.meaning;
      main = c.number-main.ensures ∙ ap (place_of main_name) c.requires.of.names;
      named = c.in_ok-processes.ensures.named;
      numbered = c.in_ok-processes.ensures.numbered;
      of = c.in_ok-processes.ensures.of none;
    }
