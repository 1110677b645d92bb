-- The claim of files that are refused.
use Rattle.std.proofs.Common.{◌≡◌, ◌≢◌, inl, inr, ℕ, List, [], ◌∷◌, map, Option, Some, None, refl, sym, ap, ◌∙◌}
use Rattle.herm_edge.specs.Shelf.{File}
use Rattle.herm_journal.specs.Entries.{Text}
use Rattle.herm_system.specs.Reports.{Report}
use Rattle.herm_compile.specs.View.{Seen, fault_view}
use Rattle.herm_compile.specs.Refused.{AreRefused}
use Rattle.herm_refusals.specs.declared.fault.Fault.{Fault}
use Rattle.herm_compile.proofs.OneAcceptanceLaws.{accepted_or_refused}
use Rattle.herm_claim.specs.Claim.{names_of, bytes_of, AreAccepted, Claim}
use Rattle.herm_claim.specs.Purposes.{Purpose}
use Rattle.herm_refusals.specs.RefusalLines.{refusals_text}

-- a list that is seen as one with elements has elements
some-as : {X Y Z : Type 0} (f : X → Z) (g : Y → Z) (xs : List X) (ys : List Y) → map f xs ≡ map g ys → (ys ≡ [] → ⊥) → xs ≢ []
some-as f g [] [] e some = λ same. some refl
some-as f g [] (y ∷ ys) e some = cc
some-as f g (x ∷ xs) ys e some = λ same. cc

-- files that are refused have faults
pub some-faults : (files : List (List ℕ)) (faults : List Fault) → AreRefused files faults → faults ≢ []
some-faults files faults (inl unread) = unread.some
some-faults files faults (inr (inl misdefined)) = some-as _ _ faults misdefined.list misdefined.each misdefined.some
some-faults files faults (inr (inr (inl misnamed))) = some-as _ _ faults misnamed.list misnamed.each (misnamed.are).some
some-faults files faults (inr (inr (inr unaccepted))) = some-as _ _ faults unaccepted.list unaccepted.each unaccepted.some

-- files that are accepted have no faults
pub never-refused : (files : List (List ℕ)) (faults : List Fault) → AreAccepted files → AreRefused files faults → ⊥
never-refused files faults are refused = accepted_or_refused files are.types are.processes are.main faults are.program are.each refused

pub claim-of-refusal : (purpose : Purpose) (files : List File) (faults : List Fault) (text : Text) → AreRefused (bytes_of files) faults → text ≡ refusals_text (names_of files) faults → Claim purpose files 1 text None
claim-of-refusal purpose files faults text refused lines = record {
  faults = faults;
  accepts = λ e. absurd (some-faults (bytes_of files) faults refused e);
  refusals = record {
    first = λ some. refused;
    none = λ e. absurd (some-faults (bytes_of files) faults refused e);
    only = λ are. absurd (never-refused (bytes_of files) faults are refused);
    lines = λ some. lines;
    status_is = λ some. refl;
    unreported = λ some. refl;
  };
}
