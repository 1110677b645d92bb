-- The checked modules of a program are translated: what they list is right, and their image is good.
use Rattle.std.proofs.Common.{◌≡◌, ◌↔◌, ℕ, zero, suc, ◌<◌, List, [], ◌∷◌, map, length, Some, option_and_then, slice_get, inl, inr, refl, sym, ap, subst, arith}
use Rattle.std.specs.Prelude.{IsTrue}
use Rattle.std.proofs.lemmas.Option.{slice_get_within}
use Rattle.herm_model.specs.Lists.{IsIn, list_of}
use Rattle.herm_model.specs.Paths.{Fact}
use Rattle.herm_model.specs.ControlPaths.{edge, held_after_edge}
use Rattle.herm_model.specs.Exits.{Exit, exits}
use Rattle.herm_model.specs.Labels.{label_at}
use Rattle.herm_model.specs.Nodes.{Node}
use Rattle.herm_model.specs.Statements.{Process}
use Rattle.herm_model.specs.TypedPrograms.{main_start, IsTypedProgram}
use Rattle.herm_model.specs.laws.ExcessLaws.{IsExcess}
use Rattle.herm_model.proofs.Options.{none-not_some}
use Rattle.herm_forms.specs.Modules.{Module}
use Rattle.herm_source.specs.AcceptedRuns.{IsCodeOf, AreCodesOf}
use Rattle.herm_source.specs.Checked.{IsChecked}
use Rattle.herm_source.specs.Modules.{Program, Modules}
use Rattle.herm_code_machine.specs.CodeTypes.{first_type}
use Rattle.herm_code_machine.specs.ReadyCode.{labelled_image}
use Rattle.herm_translated.specs.CodeBlocks.{CheckedModule}
use Rattle.herm_translated.specs.Translated.{image_for}
use Rattle.herm_translated.specs.laws.CheckedBlocks.{checked}
use Rattle.herm_good_images.specs.CheckedModules.{ListsFacts, DropsExcess, AreCheckedModules}
use Rattle.herm_good_images.proofs.ImagesGood.{images-good, mains-begin}
use Rattle.herm_good_images.proofs.ModulesExist.{modules-exist}
use Rattle.herm_simulation.specs.Checks.{list_at, IsRight}
use Rattle.herm_simulation.specs.Simulating.{IsTranslated}
use Rattle.herm_simulation.specs.laws.CheckedCode.{modules_of, CheckedModulesAreTranslated, DoesAsSource, CheckedCodeDoesAsSource, CheckedProgramsHaveCode}
use Rattle.herm_simulation.proofs.Nameless.{nameless-code-joined, diaries-forth, diaries-back}
use Rattle.herm_simulation.proofs.RightChecks.{excess-is-right}
use Rattle.herm_simulation.proofs.RunsAlike.{code-runs_as_source, source-runs_as_code, code-rounds_as_source, source-rounds_as_code}
use Rattle.herm_simulation.proofs.Simulated.{code-is-joined}

list-there : {X : Type 0} (lists : List (List X)) (i : ℕ) → i < length lists → slice_get lists i ≡ Some (list_at lists i)
list-there [] i h = absurd (omega (arith, h))
list-there (xs ∷ rest) zero h = refl
list-there (xs ∷ rest) (suc i) h = list-there rest i (omega (arith, h))

list-along : {X : Type 0} (lists : List (List (List X))) (i j : ℕ) (xs : List X) → option_and_then (λ edges. slice_get edges j) (slice_get lists i) ≡ Some xs → list_at (list_at lists i) j ≡ xs
list-along [] i j xs e = none-not_some e
list-along (edges ∷ rest) zero j xs e = ap (list_of (λ ys. ys)) e
list-along (edges ∷ rest) (suc i) j xs e = list-along rest i j xs e

module _ (m : CheckedModule) (lists : ListsFacts m) (drops : DropsExcess m) where
  facts-held : (i : ℕ) (n : Node) → slice_get m.code.nodes i ≡ Some n → (f : Fact) → IsIn f (list_at m.facts i) ↔ IsTrue (m.code.label i f)
  facts-held i n at f =
      let low = slice_get_within m.code.nodes i n at in
      lists.listed i (list_at m.facts i) f (list-there m.facts i (let many = lists.many in omega (arith, low, many)))

  exits-drop : (i j : ℕ) (n : Node) (x : Exit) → slice_get m.code.nodes i ≡ Some n → slice_get (exits m.code.types m.code.variables n) j ≡ Some x
      → IsExcess (λ f. held_after_edge (edge m.code.types m.code.variables n.form x) f (m.code.label i f)) (label_at m.code.label x.target) (list_at (list_at m.drops i) j)
  exits-drop i j n x at at-j =
      let r = drops.edges i j n x at at-j in
      subst (IsExcess (λ f. held_after_edge (edge m.code.types m.code.variables n.form x) f (m.code.label i f)) (label_at m.code.label x.target)) (sym (list-along m.drops i j r.0 r.1)) r.2

-- a checked module is right, of a typed process
module-right : (exceptions : ℕ) (program : Program) → IsTypedProgram exceptions program.types program.processes program.main → (p : Process) → IsIn p program.processes → (m : CheckedModule) → IsCodeOf program p m.code → ListsFacts m → DropsExcess m → IsRight m
module-right exceptions program typed p among m (labels, e, exact, accepted) lists drops =
    let same : m ≡ checked program.types p labels m.facts m.entry_drops m.drops = ap (λ (c : Module). record { code = c; facts = m.facts; entry_drops = m.entry_drops; drops = m.drops }) e in
    let l : ListsFacts (checked program.types p labels m.facts m.entry_drops m.drops) = subst ListsFacts same lists in
    let d : DropsExcess (checked program.types p labels m.facts m.entry_drops m.drops) = subst DropsExcess same drops in
    subst IsRight (sym same)
    (excess-is-right exceptions program.types program.processes p labels m.facts m.entry_drops m.drops typed.types (typed.modules p among) exact (record {
      facts_held = facts-held (checked program.types p labels m.facts m.entry_drops m.drops) l d;
      exits_drop = exits-drop (checked program.types p labels m.facts m.entry_drops m.drops) l d;
      entry_drops_all = d.begins;
    }))

each-right : (exceptions : ℕ) (program : Program) → IsTypedProgram exceptions program.types program.processes program.main
    → (ps : List Process) → ((p : Process) → IsIn p ps → IsIn p program.processes) → (ms : List CheckedModule) → AreCodesOf program ps (map (λ (m : CheckedModule). m.code) ms)
    → (m : CheckedModule) → IsIn m ms → ListsFacts m → DropsExcess m → IsRight m
each-right exceptions program typed [] among [] h m i lists drops = absurd i
each-right exceptions program typed [] among (c ∷ cs) h m i lists drops = absurd h
each-right exceptions program typed (p ∷ ps) among [] h m i lists drops = absurd i
each-right exceptions program typed (p ∷ ps) among (c ∷ cs) h m (inl e) lists drops = module-right exceptions program typed p (among p (inl refl)) m (subst (λ (x : CheckedModule). IsCodeOf program p x.code) (sym e) h.0) lists drops
each-right exceptions program typed (p ∷ ps) among (c ∷ cs) h m (inr i) lists drops = each-right exceptions program typed ps (λ q j. among q (inr j)) cs h.1 m i lists drops

-- with any modules made ready that are the codes of the checked ones
translated : (exceptions : ℕ) (program : Program) (made : Modules) (modules : List CheckedModule) → IsChecked exceptions program made → map (λ (m : CheckedModule). m.code) modules ≡ made.codes → AreCheckedModules exceptions program modules
    → IsTranslated exceptions program made modules
translated exceptions program made modules accepted codes are = record {
  accepted = accepted;
  codes = codes;
  right = λ m i. each-right exceptions program are.checked.typed program.processes (λ p j. j) modules are.checked.accepted.codes m i (are.lists m i) (are.drops m i);
  good = images-good exceptions program modules are;
}

does-as_source : (exceptions : ℕ) (program : Program) (made : Modules) (modules : List CheckedModule) → IsTranslated exceptions program made modules → AreCheckedModules exceptions program modules → DoesAsSource exceptions program made modules
does-as_source exceptions program made modules is are = record {
  good = is.good;
  begins = subst (λ main. first_type (labelled_image (image_for program.types modules) main) main ≡ Some main_start) (sym is.accepted.accepted.main) (mains-begin exceptions program modules are);
  joined = code-is-joined exceptions program made modules is;
  runs_forth = code-runs_as_source exceptions program made modules is;
  runs_back = source-runs_as_code exceptions program made modules is;
  rounds_forth = code-rounds_as_source exceptions program made modules is;
  rounds_back = source-rounds_as_code exceptions program made modules is;
  joined_without_names = nameless-code-joined exceptions program made modules is;
  diaries_forth = diaries-forth exceptions program made modules is;
  diaries_back = diaries-back exceptions program made modules is;
}

pub checked-modules_translated : CheckedModulesAreTranslated
checked-modules_translated exceptions program modules are = translated exceptions program (modules_of program modules) modules are.checked refl are

pub checked-code_does : CheckedCodeDoesAsSource
checked-code_does exceptions program modules are = does-as_source exceptions program (modules_of program modules) modules (checked-modules_translated exceptions program modules are) are

pub checked-have_code : CheckedProgramsHaveCode
checked-have_code exceptions program made accepted =
    let r = modules-exist exceptions program made accepted in
    (r.0, r.1, r.2, does-as_source exceptions program made r.0 (translated exceptions program made r.0 accepted r.1 r.2) r.2)
