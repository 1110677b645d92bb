-- What follows from a claim, in words that are easier to check: when files are refused, and which statuses there are.
use Rattle.std.specs.Prelude.{◌≡◌, ◌≢◌, ◌⊎◌, ℕ, List, Option}
use Rattle.herm_edge.specs.Shelf.{File}
use Rattle.herm_journal.specs.Entries.{Text}
use Rattle.herm_system.specs.Reports.{Report}
use Rattle.herm_compile.specs.Refused.{AreRefused}
use Rattle.herm_refusals.specs.declared.fault.Fault.{Fault}
use Rattle.herm_claim.specs.Claim.{bytes_of, AreAccepted, Claim}
use Rattle.herm_claim.specs.Purposes.{Purpose}

-- it is so of every claim
abbrev pub OfEveryClaim : (List File → ℕ → Text → Option Report → Type 0) → Type 0
OfEveryClaim Is = (purpose : Purpose) (files : List File) (status : ℕ) (text : Text) (told : Option Report) → Claim purpose files status text told → Is files status text told

-- Where any phase has a fault, the status is 1.
abbrev pub FaultsAreRefused : Type 0
FaultsAreRefused = OfEveryClaim (λ files status text told. (faults : List Fault) → AreRefused (bytes_of files) faults → status ≡ 1)

-- Where the files are accepted, it is another.
abbrev pub AcceptedAreOtherwise : Type 0
AcceptedAreOtherwise = OfEveryClaim (λ files status text told. AreAccepted (bytes_of files) → status ≢ 1)

-- the status of a refusal, and those of a run: process 1 ended normally or by an exception, or waits, or a limit stopped a process
abbrev pub IsClaimed : ℕ → Type 0
IsClaimed status = (status ≡ 1) ⊎ ((status ≡ 0) ⊎ ((status ≡ 6) ⊎ ((status ≡ 7) ⊎ (status ≡ 8))))

-- There are no other statuses.
abbrev pub StatusesAreFive : Type 0
StatusesAreFive = OfEveryClaim (λ files status text told. IsClaimed status)
