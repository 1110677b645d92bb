-- The claim of files that are accepted.
use Rattle.std.proofs.Common.{◌≡◌, ◌≢◌, ◌⊎◌, inl, inr, ℕ, List, [], ◌∷◌, length, Bool, true, false, cond, Option, Some, None, refl, sym, ap, subst, ◌∙◌}
use Rattle.herm_edge.specs.Shelf.{File}
use Rattle.herm_model.specs.Lists.{IsIn, any_pass}
use Rattle.herm_model.specs.Types.{TypeTable}
use Rattle.herm_model.specs.Statements.{Process}
use Rattle.herm_model.specs.MissingFacts.{IsAccepted}
use Rattle.herm_journal.specs.Entries.{Text}
use Rattle.herm_journal.specs.Ports.{first_of}
use Rattle.herm_forms.specs.Modules.{Module}
use Rattle.herm_system.specs.Reports.{Report}
use Rattle.herm_system.specs.ProcessFates.{Fate, fates, ended_normally, ended_by, waits, spent_steps, spent_actions, goes_on, is_stopped}
use Rattle.herm_system.specs.Statuses.{status_by}
use Rattle.herm_source.specs.Modules.{Program}
use Rattle.herm_source.specs.Instance.{source}
use Rattle.herm_source.specs.AcceptedRuns.{AreCodesOf}
use Rattle.herm_claim.specs.Claim.{bytes_of, AreAccepted, Runs, Checks, Accepts, Claim}
use Rattle.herm_claim.specs.Purposes.{Purpose, check, run, Options}
use Rattle.herm_claim.specs.laws.ClaimLaws.{IsClaimed}

-- processes that have codes are accepted
pub coded-accepted : (program : Program) (ps : List Process) (codes : List Module) → AreCodesOf program ps codes → (p : Process) → IsIn p ps → IsAccepted program.types p
coded-accepted program [] codes are p inside = absurd inside
coded-accepted program (q ∷ qs) [] are p inside = absurd are
coded-accepted program (q ∷ qs) (c ∷ cs) ((label, is, exact, accepted), rest) p (inl e) = subst (λ (x : Process). IsAccepted program.types x) (sym e) accepted
coded-accepted program (q ∷ qs) (c ∷ cs) (code, rest) p (inr inside) = coded-accepted program qs cs rest p inside

pub runs-accepted : (options : Options) (files : List (List ℕ)) (status : ℕ) (text : Text) (told : Option Report) → Runs options files status text told → AreAccepted files
runs-accepted options files status text told r = record {
  types = r.types;
  processes = (r.program).processes;
  main = (r.program).main;
  program = r.means;
  each = subst (λ (shapes : TypeTable). (p : Process) → IsIn p (r.program).processes → IsAccepted shapes p) r.over
      (coded-accepted r.program (r.program).processes (r.modules).codes ((r.accepted).accepted).codes);
}

-- files that are run or checked are accepted
accepts-accepted : (purpose : Purpose) (files : List (List ℕ)) (status : ℕ) (text : Text) (told : Option Report) → Accepts purpose files status text told → AreAccepted files
accepts-accepted check files status text told c = c.accepted
accepts-accepted (run options) files status text told r = runs-accepted options files status text told r

pub claim-of-accepted : (purpose : Purpose) (files : List File) (status : ℕ) (text : Text) (told : Option Report) → Accepts purpose (bytes_of files) status text told → Claim purpose files status text told
claim-of-accepted purpose files status text told a = record {
  faults = [];
  accepts = λ e. a;
  refusals = record {
    first = λ some. absurd (some refl);
    none = λ e. accepts-accepted purpose (bytes_of files) status text told a;
    only = λ are. refl;
    lines = λ some. absurd (some refl);
    status_is = λ some. absurd (some refl);
    unreported = λ some. absurd (some refl);
  };
}

-- the statuses of final states
abbrev pub IsOfRun : ℕ → Type 0
IsOfRun status = (status ≡ 0) ⊎ ((status ≡ 6) ⊎ ((status ≡ 7) ⊎ (status ≡ 8)))

unended : (stopped : Bool) → IsOfRun (cond stopped 8 7)
unended true = inr (inr (inr refl))
unended false = inr (inr (inl refl))

statuses-by : (first : Option Fate) (all : List Fate) → IsOfRun (status_by first all)
statuses-by None all = unended (any_pass is_stopped all)
statuses-by (Some ended_normally) all = inl refl
statuses-by (Some (ended_by e)) all = inr (inl refl)
statuses-by (Some (waits ports)) all = unended (any_pass is_stopped all)
statuses-by (Some (spent_steps limit)) all = unended (any_pass is_stopped all)
statuses-by (Some (spent_actions limit)) all = unended (any_pass is_stopped all)
statuses-by (Some goes_on) all = unended (any_pass is_stopped all)

run-status : (options : Options) (files : List (List ℕ)) (status : ℕ) (text : Text) (told : Option Report) → Runs options files status text told → IsOfRun status
run-status options files status text told r =
    let machine = source r.modules in
    let final = (r.describes).final in
    subst IsOfRun ((r.describes).status ∙ sym r.status_is) (statuses-by (first_of (fates machine final)) (fates machine final))

-- and those of accepted files
pub accepted-status : (purpose : Purpose) (files : List (List ℕ)) (status : ℕ) (text : Text) (told : Option Report) → Accepts purpose files status text told → IsOfRun status
accepted-status check files status text told c = inl c.status_is
accepted-status (run options) files status text told r = run-status options files status text told r
