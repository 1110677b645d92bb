-- A world that was led to its end, and its report.
use Rattle.std.proofs.Common.{◌≡◌, ℕ, List, [], Option, Some, refl, sym, ap, subst, ◌∙◌, length}
use Rattle.std.specs.Prelude.{⊤}
use Rattle.herm_model.specs.Values.{Name}
use Rattle.herm_model.specs.TypedPrograms.{main_start}
use Rattle.herm_journal.specs.Entries.{Text}
use Rattle.herm_journal.specs.NextNumbers.{Limits}
use Rattle.herm_system.specs.Rounds.{rounds}
use Rattle.herm_system.specs.Systems.{Event, Run, start}
use Rattle.herm_meaning.specs.Names.{NamedTable}
use Rattle.herm_source.specs.Modules.{Program}
use Rattle.herm_instructions.specs.Images.{Image}
use Rattle.herm_code_machine.specs.CodeStates.{CodeState}
use Rattle.herm_code_machine.specs.CodeTypes.{first_type}
use Rattle.herm_code_machine.specs.ReadyCode.{labelled_image}
use Rattle.herm_code.specs.View.{CodeImage, image_view}
use Rattle.herm_images.specs.CheckedPrograms.{StandsForProgram}
use Rattle.herm_journal.specs.Journals.{ordered}
use Rattle.herm_waking.specs.KeptRounds.{Worked}
use Rattle.herm_waking.specs.UnnamedRounds.{BareWorked}
use Rattle.herm_waking.specs.UnnamedReport.{bare_fates, bare_queues, bare_counts}
use Rattle.herm_code_worlds.specs.CodeWorlds.{named, nameless, Shows}
use Rattle.herm_report.specs.View.{proc_ends_view, numbered_queues, counts_view}
use Rattle.herm_report.specs.declared.report.Report.{Report}
use Rattle.herm_world.specs.Worlds.{WorldState, ShowsRun}
use Rattle.herm_driver.specs.Ending.{IsReportOfEnd}

-- the image of a program begins with its main, which has a port of the type main_start
pub main-begins : (types : NamedTable) (program : Program) (image : CodeImage) → StandsForProgram types program image → first_type (labelled_image (image_view image) program.main) program.main ≡ Some main_start
main-begins types program image stands =
    subst (λ (x : Image). first_type (labelled_image x program.main) program.main ≡ Some main_start) (sym stands.image) (stands.does).begins

-- rounds of an image that is another
pub rounds-at : (image : Image) (main : ℕ) (other : Image) (number most : ℕ) (r : Run (CodeState Name)) (o : Option (Run (CodeState Name))) → other ≡ image → number ≡ main
    → rounds most (named other number) r ≡ o → rounds most (named image main) r ≡ o
rounds-at image main other number most r o i m e =
    subst (λ (n : ℕ). rounds most (named image n) r ≡ o) m (subst (λ (x : Image). rounds most (named x number) r ≡ o) i e)

-- the report of a world that shows a run at whose end nobody can step
pub end-reported : (image : Image) (main : ℕ) (limits : Limits) (argument : Text) (world : WorldState) (begun : Limits) (given : Text) (events : List Event) (w : Worked (CodeState Name)) (b : BareWorked (CodeState ⊤)) (r : Report)
    → world.image ≡ image → world.main ≡ main → begun ≡ limits → given ≡ argument → ShowsRun begun given events w b world → world.ready.members ≡ []
    → (most : ℕ) → rounds most (named image main) (start (named image main) begun given) ≡ Some w.run
    → r.journal ≡ ordered w.run.journal → proc_ends_view r.ends.items ≡ bare_fates (nameless world.image world.main) b.system
    → numbered_queues r.queued.items ≡ bare_queues b.system → counts_view r.counts ≡ bare_counts (nameless world.image world.main) b.system
    → IsReportOfEnd image main limits argument r
end-reported image main limits argument world begun given events w b r i m l a shown none most by journal ends queued counts =
    let R : Image → ℕ → Type 0 = λ x n. rounds most (named x n) (start (named x n) begun given) ≡ Some w.run in
    let at : IsReportOfEnd world.image world.main begun given r = record {
      events = events;
      run = w;
      bare = b;
      shows = shown.shows;
      most = most;
      by_rounds = subst (λ (n : ℕ). R world.image n) (sym m) (subst (λ (x : Image). R x main) (sym i) by);
      nobody = sym (shown.sees).ready_is ∙ none;
      tells = record { journal_is = journal; ends = ends; queued = queued; counts = counts };
    } in
    subst (λ (t : Text). IsReportOfEnd image main limits t r) a (subst (λ (l' : Limits). IsReportOfEnd image main l' given r) l
    (subst (λ (n : ℕ). IsReportOfEnd image n begun given r) m (subst (λ (x : Image). IsReportOfEnd x world.main begun given r) i at)))

pub ruleset end_lemmas = main-begins
