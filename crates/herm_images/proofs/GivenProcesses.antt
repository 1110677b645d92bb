-- Checked processes, each with what its check gives, and the image of a program of them.
use Rattle.std.proofs.Common.{◌≡◌, suc, List, [], ◌∷◌, map, length, inl, inr, refl, sym, ap, ap₂, subst, ◌∙◌}
use Rattle.herm_model.specs.Lists.{IsIn}
use Rattle.herm_model.specs.Types.{TypeTable}
use Rattle.herm_model.specs.TypedPrograms.{IsTypedProgram}
use Rattle.herm_meaning.specs.Names.{NamedTable}
use Rattle.herm_typed.specs.declared.statements.TypedProcess.{TypedProcess}
use Rattle.herm_typed.specs.View.{typed_process_view}
use Rattle.herm_typestate.specs.declared.labels.Labels.{Labels}
use Rattle.herm_flow.specs.declared.flow.Flow.{Flow}
use Rattle.herm_coerce.specs.declared.coercions.Coercions.{Coercions}
use Rattle.herm_resolve.specs.declared.program.Program.{Program}
use Rattle.herm_accept.specs.declared.accepting.Accepted.{Accepted}
use Rattle.herm_accept.specs.Accepted.{AreAccepted}
use Rattle.herm_instructions.specs.GoodCode.{IsGood}
use Rattle.herm_instructions.specs.Images.{Image}
use Rattle.herm_code.specs.View.{CodeImage, image_view}
use Rattle.herm_translated.specs.Translated.{image_for}
use Rattle.herm_good_images.specs.CheckedModules.{AreCheckedModules}
use Rattle.herm_good_images.proofs.ImagesGood.{images-good}
use Rattle.herm_simulation.proofs.TranslatedModules.{checked-code_does}
use Rattle.herm_blocks.specs.declared.checked.CheckedProcess.{CheckedProcess}
use Rattle.herm_blocks.specs.CheckedProcesses.{checked_view, HasFlow}
use Rattle.herm_images.specs.CheckedPrograms.{checked_modules, program_view, modules_of_program, image_of, StandsForProgram, process_names}
use Rattle.herm_images.proofs.AcceptedModules.{accepted-checked}

-- there are as many flows, labels and coercions as processes
pub record AreAlike (ps : List TypedProcess) (fs : List Flow) (ls : List Labels) (cs : List Coercions) : Type 0 where
  pub flows : length fs ≡ length ps
  pub labels : length ls ≡ length ps
  pub coercions : length cs ≡ length ps

pub accepted-alike : (table : TypeTable) (ps : List TypedProcess) (fs : List Flow) (ls : List Labels) (cs : List Coercions) → AreAccepted table ps fs ls cs → AreAlike ps fs ls cs
accepted-alike table [] [] [] [] h = record { flows = refl; labels = refl; coercions = refl }
accepted-alike table (p ∷ ps) (f ∷ fs) (l ∷ ls) (c ∷ cs) h =
    let rest = accepted-alike table ps fs ls cs h.1 in
    record { flows = ap suc rest.flows; labels = ap suc rest.labels; coercions = ap suc rest.coercions }
accepted-alike table ps fs ls cs h = absurd h

-- The checked processes are these, each with what its check gives.
pub record AreGiven (ps : List TypedProcess) (a : Accepted) (all : List CheckedProcess) : Type 0 where
  pub processes : map (λ c. c.process.now) all ≡ ps
  pub flows : map (λ c. c.flow.now) all ≡ a.flows.items
  pub labels : map (λ c. c.labels.now) all ≡ a.labels.items
  pub coercions : map (λ c. c.coercions.now) all ≡ a.coercions.items

-- of lists that are these
pub given-by : {all : List CheckedProcess} {ps qs : List TypedProcess} {fs : List Flow} {ls : List Labels} {cs : List Coercions} (a : Accepted)
    → map (λ c. c.process.now) all ≡ ps → ps ≡ qs → map (λ c. c.flow.now) all ≡ fs → fs ≡ a.flows.items → map (λ c. c.labels.now) all ≡ ls → ls ≡ a.labels.items → map (λ c. c.coercions.now) all ≡ cs → cs ≡ a.coercions.items
    → AreGiven qs a all
given-by a p p' f f' l l' c c' = record { processes = p ∙ p'; flows = f ∙ f'; labels = l ∙ l'; coercions = c ∙ c' }

module _ (table : TypeTable) where
  views : (all : List CheckedProcess) → map (checked_view table) all ≡ checked_modules table (map (λ c. c.process.now) all) (map (λ c. c.labels.now) all) (map (λ c. c.coercions.now) all)
  views [] = refl
  views (c ∷ all) = ap (checked_view table c ∷◌) (views all)

  flows-there : (all : List CheckedProcess) → AreAccepted table (map (λ c. c.process.now) all) (map (λ c. c.flow.now) all) (map (λ c. c.labels.now) all) (map (λ c. c.coercions.now) all) → (c : CheckedProcess) → IsIn c all → HasFlow table c
  flows-there [] h c m = absurd m
  flows-there (d ∷ all) h c (inl e) = subst (λ (x : CheckedProcess). HasFlow table x) (sym e) h.0.flow_is
  flows-there (d ∷ all) h c (inr m) = flows-there all h.1 c m

  module _ (ps : List TypedProcess) (a : Accepted) (all : List CheckedProcess) (are : AreGiven ps a all) where
    pub given-views : map (checked_view table) all ≡ checked_modules table ps a.labels.items a.coercions.items
    given-views =
        views all
        ∙ (ap (λ xs. checked_modules table xs (map (λ c. c.labels.now) all) (map (λ c. c.coercions.now) all)) are.processes
        ∙ ap₂ (λ ls cs. checked_modules table ps ls cs) are.labels are.coercions)

    pub given-flows : AreAccepted table ps a.flows.items a.labels.items a.coercions.items → (c : CheckedProcess) → IsIn c all → HasFlow table c
    given-flows h =
        flows-there all
        (subst (λ xs. AreAccepted table xs (map (λ c. c.flow.now) all) (map (λ c. c.labels.now) all) (map (λ c. c.coercions.now) all)) (sym are.processes)
        (subst (λ fs. AreAccepted table ps fs (map (λ c. c.labels.now) all) (map (λ c. c.coercions.now) all)) (sym are.flows)
        (subst (λ ls. AreAccepted table ps a.flows.items ls (map (λ c. c.coercions.now) all)) (sym are.labels)
        (subst (λ cs. AreAccepted table ps a.flows.items a.labels.items cs) (sym are.coercions) h))))

names-along : (all : List CheckedProcess) → map (λ c. c.process.now.name.text) all ≡ process_names (map (λ c. c.process.now) all)
names-along [] = refl
names-along (c ∷ all) = ap (c.process.now.name.text ∷◌) (names-along all)

pub given-names : (ps : List TypedProcess) (a : Accepted) (all : List CheckedProcess) → AreGiven ps a all → map (λ c. c.process.now.name.text) all ≡ process_names ps
given-names ps a all are = names-along all ∙ ap process_names are.processes

-- the image of the checked processes is the program's
pub program-is : (table : TypeTable) (program : Program) (a : Accepted) (all given : List CheckedProcess) → AreGiven program.processes.items a all → given ≡ all → (i : Image) → i ≡ image_for table (map (checked_view table) given) → i ≡ image_of table program a
program-is table program a all given are same i e = e ∙ (ap (λ xs. image_for table (map (checked_view table) xs)) same ∙ ap (image_for table) (given-views table program.processes.items a all are))

module _ (types : NamedTable) (program : Program) (a : Accepted) (typed : IsTypedProgram (length types.exceptions) types.shapes (map typed_process_view program.processes.items) program.main)
    (accepted : AreAccepted types.shapes program.processes.items a.flows.items a.labels.items a.coercions.items) where
  pub program-checked : AreCheckedModules (length types.exceptions) (program_view types.shapes program) (modules_of_program types.shapes program a)
  program-checked = accepted-checked (length types.exceptions) types.shapes program.processes.items program.main a.flows.items a.labels.items a.coercions.items typed accepted

  -- an image that is the program's is good
  pub program-good : (i : Image) → i ≡ image_of types.shapes program a → IsGood (length types.exceptions) i
  program-good i e = subst (IsGood (length types.exceptions)) (sym e) (images-good (length types.exceptions) (program_view types.shapes program) (modules_of_program types.shapes program a) program-checked).good

  pub program-stands : (i : CodeImage) → i.types ≡ types → image_view i ≡ image_of types.shapes program a → StandsForProgram types (program_view types.shapes program) i
  program-stands i same e = record {
    modules = modules_of_program types.shapes program a;
    checked = program-checked;
    types_are = same;
    image = e;
    does = checked-code_does (length types.exceptions) (program_view types.shapes program) (modules_of_program types.shapes program a) program-checked;
  }
