-- What follows from claims.
use Rattle.std.proofs.Common.{◌≡◌, ◌≢◌, ◌⊎◌, inl, inr, ℕ, List, [], ◌∷◌, Option, refl, arith}
use Rattle.herm_edge.specs.Shelf.{File}
use Rattle.herm_journal.specs.Entries.{Text}
use Rattle.herm_system.specs.Reports.{Report}
use Rattle.herm_compile.specs.Refused.{AreRefused}
use Rattle.herm_refusals.specs.declared.fault.Fault.{Fault}
use Rattle.herm_claim.specs.Claim.{bytes_of, AreAccepted, Refusals, Claim}
use Rattle.herm_claim.specs.Purposes.{Purpose}
use Rattle.herm_claim.specs.laws.ClaimLaws.{FaultsAreRefused, AcceptedAreOtherwise, IsClaimed, StatusesAreFive}
use Rattle.herm_claim.proofs.Refusing.{never-refused}
use Rattle.herm_claim.proofs.Running.{accepted-status}

none-or-some : (faults : List Fault) → (faults ≡ []) ⊎ (faults ≢ [])
none-or-some [] = inl refl
none-or-some (fault ∷ faults) = inr (λ e. cc)

refused-by : (files : List File) (status : ℕ) (text : Text) (told : Option Report) (faults : List Fault) → Refusals files faults status text told → (others : List Fault) → AreRefused (bytes_of files) others
    → (faults ≡ []) ⊎ (faults ≢ []) → status ≡ 1
refused-by files status text told faults r others refused (inl e) = absurd (never-refused (bytes_of files) others (r.none e) refused)
refused-by files status text told faults r others refused (inr some) = r.status_is some

pub faults-refused : FaultsAreRefused
faults-refused purpose files status text told c others refused = refused-by files status text told c.faults c.refusals others refused (none-or-some c.faults)

claimed-by : (purpose : Purpose) (files : List File) (status : ℕ) (text : Text) (told : Option Report) (c : Claim purpose files status text told) → (c.faults ≡ []) ⊎ (c.faults ≢ []) → IsClaimed status
claimed-by purpose files status text told c (inl e) = inr (accepted-status purpose (bytes_of files) status text told (c.accepts e))
claimed-by purpose files status text told c (inr some) = inl ((c.refusals).status_is some)

pub five-statuses : StatusesAreFive
five-statuses purpose files status text told c = claimed-by purpose files status text told c (none-or-some c.faults)

other-status : (status : ℕ) → (status ≡ 0) ⊎ ((status ≡ 6) ⊎ ((status ≡ 7) ⊎ (status ≡ 8))) → status ≢ 1
other-status status (inl e) = λ one. absurd (omega arith)
other-status status (inr (inl e)) = λ one. absurd (omega arith)
other-status status (inr (inr (inl e))) = λ one. absurd (omega arith)
other-status status (inr (inr (inr e))) = λ one. absurd (omega arith)

pub accepted-otherwise : AcceptedAreOtherwise
accepted-otherwise purpose files status text told c are = other-status status (accepted-status purpose (bytes_of files) status text told (c.accepts ((c.refusals).only are)))
