-- The claim of files that were compiled and checked or run, or refused.
use Rattle.std.specs.Prelude.{⊤}
use Rattle.std.proofs.Common.{◌≡◌, ℕ, List, [], ◌∷◌, ◌++◌, map, length, Option, Some, None, IsTrue, refl, sym, ap, subst, ◌∙◌}
use Rattle.std.specs.declared.vec.Vec.{Vec}
use Rattle.std.specs.declared.alloc.Global.{Global}
use Rattle.herm_edge.specs.Shelf.{File}
use Rattle.herm_model.specs.Typed.{is_text}
use Rattle.herm_model.specs.Types.{TypeTable}
use Rattle.herm_model.specs.Values.{Name}
use Rattle.herm_journal.specs.Entries.{Text}
use Rattle.herm_journal.specs.Journals.{IsRising, ordered}
use Rattle.herm_journal.specs.NextNumbers.{Limits}
use Rattle.herm_journal.specs.Ports.{first_of}
use Rattle.herm_system.specs.Machines.{Machine}
use Rattle.herm_system.specs.Reports as language
use Rattle.herm_system.specs.Rounds.{rounds}
use Rattle.herm_system.specs.RunTexts.{Asked, plainly, with_summary, the_journal, journal_text, text_of_run}
use Rattle.herm_system.specs.Statuses.{status_by}
use Rattle.herm_system.specs.Systems.{Event, Run, start}
use Rattle.herm_runs.specs.Joining.{LookAlike}
use Rattle.herm_meaning.specs.Names.{NamedTable}
use Rattle.herm_source.specs.AcceptedRuns.{Describes}
use Rattle.herm_source.specs.Instance.{source}
use Rattle.herm_source.specs.Modules.{Program, Modules}
use Rattle.herm_source.specs.States.{State}
use Rattle.herm_resolve.specs.declared.program.Program as compiled
use Rattle.herm_typed.specs.View.{typed_process_view}
use Rattle.herm_instructions.specs.Images.{Image}
use Rattle.herm_code.specs.View.{CodeImage, image_view}
use Rattle.herm_simulation.specs.laws.CheckedCode.{modules_of}
use Rattle.herm_code_machine.specs.CodeStates.{CodeState}
use Rattle.herm_waking.specs.KeptRounds.{Worked}
use Rattle.herm_waking.specs.Unnamed.{Unnamed}
use Rattle.herm_waking.specs.UnnamedRounds.{BareWorked}
use Rattle.herm_waking.specs.laws.WorldLaws.{report_of}
use Rattle.herm_code_worlds.specs.BareReports.{bare_report}
use Rattle.herm_code_worlds.specs.CodeWorlds.{its_ready, named, nameless, Shows}
use Rattle.herm_code_worlds.proofs.ProgramWorlds.{checked-code-works}
use Rattle.herm_code_worlds.proofs.ReportsBare.{reports-bare}
use Rattle.herm_images.specs.CheckedPrograms.{program_view, StandsForProgram}
use Rattle.herm_compile.specs.Phases.{HaveThisProgram, EachIsAccepted}
use Rattle.herm_compile.specs.Refused.{AreRefused, IfRefused}
use Rattle.herm_refusals.specs.declared.fault.Fault.{Fault}
use Rattle.herm_compile.specs.declared.fault.CompileFault.{CompileFault}
use Rattle.herm_compile.specs.declared.fault.CompileFault.TheVariants.{Refused}
use Rattle.herm_report.specs.View.{report_view}
use Rattle.herm_report.specs.declared.report.Report.{Report}
use Rattle.herm_report_laws.specs.ReportLaws.{HasStrings, TellsOf}
use Rattle.herm_report_laws.proofs.Described.{in-order, its-report}
use Rattle.herm_report_laws.proofs.Strings.{console_strings}
use Rattle.herm_text.specs.ReportTexts.{report_text, ends_of}
use Rattle.herm_sizes.specs.AcceptedLines.{accepted_text}
use Rattle.herm_claim.specs.Claim.{names_of, bytes_of, IsByRounds, Runs, Checks, Accepts, Claim}
use Rattle.herm_claim.specs.Purposes.{Purpose, Options}
use Rattle.herm_refusals.specs.RefusalLines.{refusals_text}
use Rattle.herm_claim.proofs.Running.{claim-of-accepted}
use Rattle.herm_claim.proofs.Refusing.{claim-of-refusal}
use Rattle.herm_driver.specs.declared.outcome.Answer.{Answer}
use Rattle.herm_driver.specs.declared.outcome.Text.TheVariants.{Whole}
use Rattle.herm_driver.specs.Due.{told_of}
use Rattle.herm_driver.specs.Ending.{IsReportOfEnd}
use Rattle.herm_driver.specs.Purposes.{files_view}
use Rattle.herm_driver.specs.Texts.{text_view}

-- the status of a report
abbrev pub status_in : Report → ℕ
status_in r = status_by (first_of (ends_of r)) (ends_of r)

-- such a report describes a run of the program that the image stands for
end-describes : (types : NamedTable) (program : Program) (image : CodeImage) (stands : StandsForProgram types program image) (options : Options) (r : Report) → IsTrue (is_text options.argument)
    → IsReportOfEnd (image_view image) program.main options.limits options.argument r
    → Describes (modules_of program stands.modules) options.limits options.argument types.exceptions options.asked (report_view r (status_in r) (report_text types.exceptions options.asked r))
end-describes types program image stands options r text of =
    let works = checked-code-works (length types.exceptions) program stands.modules stands.checked in
    let ended = subst (λ (x : Image). IsReportOfEnd x program.main options.limits options.argument r) stands.image of in
    let have = console_strings (length types.exceptions) _ program.main (stands.does).good options.limits options.argument ended.events ended.run ended.bare ended.shows in
    let rising = (((works.works).runs).journal options.limits options.argument ended.events (ended.run).run (ended.shows).comes).fits.ordered in
    subst (Describes (modules_of program stands.modules) options.limits options.argument types.exceptions options.asked)
    (sym (its-report _ program.main (ended.bare).system ((ended.run).run).journal r types.exceptions options.asked rising ended.tells have))
    (works.describes options.limits options.argument ended.events ended.run ended.bare types.exceptions options.asked text ended.shows ended.nobody)

-- the report of a run that a world shows
as-reported : (image : Image) (main : ℕ) (limits : Limits) (argument : Text) (events : List Event) (w : Worked (CodeState Name)) (b : BareWorked (CodeState ⊤)) (r : Report) (names : List Text) (asked : Asked)
    → Shows image main limits argument events w b → TellsOf image main b.system w.run.journal r → HasStrings b.system.ports → IsRising (ordered w.run.journal)
    → report_of names asked (named image main) w.run ≡ report_view r (status_in r) (report_text names asked r)
as-reported image main limits argument events w b r names asked shows tells have rising =
    let Is : Unnamed (CodeState ⊤) → Type 0 = λ v. bare_report names asked (nameless image main) v (ordered w.run.journal) ≡ report_of names asked (named image main) w.run in
    sym (its-report image main b.system w.run.journal r names asked rising tells have ∙ subst Is (ap (λ (x : BareWorked (CodeState ⊤)). x.system) shows.seen) (reports-bare (its_ready image main) names asked w.run))

-- the text of a run, with its journal in order, is that of the run
text-in-order : {P : Type 0} (names : List Text) (asked : Asked) (machine : Machine Name P) (r : Run P) → IsRising (ordered r.journal)
    → text_of_run names asked machine (record { system = r.system; journal = ordered r.journal }) ≡ text_of_run names asked machine r
text-in-order names plainly machine r rising = refl
text-in-order names with_summary machine r rising = refl
text-in-order names the_journal machine r rising = ap (journal_text names) (in-order (ordered r.journal) rising)

-- a run that looks like the one by rounds
made-by-rounds : {P : Type 0} (modules : Modules) (options : Options) (names : List Text) (code : Machine Name P) (R : P → State Name → Type 0) (most : ℕ) (q : Run P) (report : language.Report) → IsRising (ordered q.journal)
    → report_of names options.asked code q ≡ report
    → (r : Run (State Name)) × (rounds most (source modules) (start (source modules) options.limits options.argument) ≡ Some r) × LookAlike code (source modules) R q r → IsByRounds modules options names report
made-by-rounds modules options names code R most q report rising is (last, to, alike) = record {
  most = most;
  last = last;
  rounds_to = to;
  journal = ap ordered (sym alike.journal) ∙ ap (λ (r : language.Report). r.journal) is;
  ends = sym alike.ends ∙ ap (λ (r : language.Report). r.ends) is;
  queued = sym alike.queued ∙ ap (λ (r : language.Report). r.queued) is;
  counts = sym alike.counts ∙ ap (λ (r : language.Report). r.counts) is;
  status = sym alike.status ∙ ap (λ (r : language.Report). r.status) is;
  text = sym (alike.text names options.asked) ∙ sym (text-in-order names options.asked code q rising) ∙ ap (λ (r : language.Report). r.text) is;
}

-- and the run is the one by rounds
end-by-rounds : (types : NamedTable) (program : Program) (image : CodeImage) (stands : StandsForProgram types program image) (options : Options) (r : Report) → IsTrue (is_text options.argument)
    → IsReportOfEnd (image_view image) program.main options.limits options.argument r
    → IsByRounds (modules_of program stands.modules) options types.exceptions (report_view r (status_in r) (report_text types.exceptions options.asked r))
end-by-rounds types program image stands options r argued of =
    let works = checked-code-works (length types.exceptions) program stands.modules stands.checked in
    let ended = subst (λ (x : Image). IsReportOfEnd x program.main options.limits options.argument r) stands.image of in
    let have = console_strings (length types.exceptions) _ program.main (stands.does).good options.limits options.argument ended.events ended.run ended.bare ended.shows in
    let rising = (((works.works).runs).journal options.limits options.argument ended.events (ended.run).run (ended.shows).comes).fits.ordered in
    made-by-rounds (modules_of program stands.modules) options types.exceptions _ _ ended.most (ended.run).run _ rising
    (as-reported _ program.main options.limits options.argument ended.events ended.run ended.bare r types.exceptions options.asked ended.shows ended.tells have rising)
    ((stands.does).rounds_back options.limits options.argument ended.most (ended.run).run argued ended.by_rounds)

pub runs-of-end : (types : NamedTable) (program : compiled.Program) (image : CodeImage) → StandsForProgram types (program_view types.shapes program) image → (options : Options) (r : Report) → IsTrue (is_text options.argument)
    → IsReportOfEnd (image_view image) program.main options.limits options.argument r → (status : ℕ) → status ≡ status_in r → (text : Text) → text ≡ report_text types.exceptions options.asked r
    → (files : List (List ℕ)) → HaveThisProgram files types program → Runs options files status text (told_of (Some r) status text)
runs-of-end types program image stands options r argued of status s text e files means =
    let P : ℕ → Text → Type 0 = λ n t. Runs options files n t (told_of (Some r) n t) in
    let at : P (status_in r) (report_text types.exceptions options.asked r) = record {
      types = types;
      program = program_view types.shapes program;
      means = means;
      over = refl;
      modules = modules_of (program_view types.shapes program) stands.modules;
      accepted = (stands.checked).checked;
      report = report_view r (status_in r) (report_text types.exceptions options.asked r);
      is_told = refl;
      describes = end-describes types (program_view types.shapes program) image stands options r argued of;
      by_rounds = end-by-rounds types (program_view types.shapes program) image stands options r argued of;
      status_is = refl;
      text_is = refl;
    } in
    subst (λ (t : Text). P status t) (sym e) (subst (λ (n : ℕ). P n (report_text types.exceptions options.asked r)) (sym s) at)

-- what is told of a program whose processes are accepted, by its line
pub checks-of-line : (types : NamedTable) (program : compiled.Program) → EachIsAccepted types program → (answer : Answer) (text : Vec ℕ Global)
    → answer ≡ record { status = 0; text = Whole text; report = None } → text.items ≡ accepted_text (map typed_process_view program.processes.items)
    → (files : List (List ℕ)) → HaveThisProgram files types program → Checks files answer.status (text_view answer.text) (told_of answer.report answer.status (text_view answer.text))
checks-of-line types program each answer text is line files means =
    subst (λ (a : Answer). Checks files a.status (text_view a.text) (told_of a.report a.status (text_view a.text))) (sym is) (record {
      accepted = record {
        types = types;
        processes = map typed_process_view program.processes.items;
        main = program.main;
        program = means;
        each = each;
      };
      text_is = line;
      status_is = refl;
      unreported = refl;
    })

-- the bytes and the names of files are theirs
bytes-same : (files : List (List ℕ × Vec ℕ Global)) → bytes_of (files_view files) ≡ map (λ (f : List ℕ × Vec ℕ Global). f.1.items) files
bytes-same [] = refl
bytes-same (f ∷ fs) = ap (λ (rest : List (List ℕ)). f.1.items ∷ rest) (bytes-same fs)

names-same : (files : List (List ℕ × Vec ℕ Global)) → names_of (files_view files) ≡ map (λ (f : List ℕ × Vec ℕ Global). f.0) files
names-same [] = refl
names-same (f ∷ fs) = ap (λ (rest : List (List ℕ)). f.0 ∷ rest) (names-same fs)

pub accepted-answer : (purpose : Purpose) (files : List (List ℕ × Vec ℕ Global)) (status : ℕ) (text : Text) (report : Option Report)
    → Accepts purpose (map (λ (f : List ℕ × Vec ℕ Global). f.1.items) files) status text (told_of report status text) → Claim purpose (files_view files) status text (told_of report status text)
accepted-answer purpose files status text report accepts =
    claim-of-accepted purpose (files_view files) status text (told_of report status text) (subst (λ (bs : List (List ℕ)). Accepts purpose bs status text (told_of report status text)) (sym (bytes-same files)) accepts)

pub refused-answer : (purpose : Purpose) (files : List (List ℕ × Vec ℕ Global)) (fault : CompileFault) (faults : Vec Fault Global) (text : Text)
    → text ≡ refusals_text (map (λ (f : List ℕ × Vec ℕ Global). f.0) files) faults.items → fault ≡ Refused faults → IfRefused fault (λ faults. AreRefused (map (λ (f : List ℕ × Vec ℕ Global). f.1.items) files) faults)
    → Claim purpose (files_view files) 1 text None
refused-answer purpose files fault faults text lines f refused =
    claim-of-refusal purpose (files_view files) faults.items text
    (subst (λ (bs : List (List ℕ)). AreRefused bs faults.items) (sym (bytes-same files)) (subst (λ (x : CompileFault). IfRefused x (λ faults. AreRefused (map (λ (f : List ℕ × Vec ℕ Global). f.1.items) files) faults)) f refused))
    (lines ∙ ap (λ (names : List Text). refusals_text names faults.items) (sym (names-same files)))

pub ruleset run_lemmas = runs-of-end
