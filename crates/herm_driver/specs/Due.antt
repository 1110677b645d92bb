-- What a call of the program is due, by the words and what a shelf answers or tells of the named files.
-- (Language reference, "Statuses and texts")
use Rattle.std.specs.Prelude.{◌≡◌, ◌≢◌, ◌⊎◌, ℕ, ◌<◌, List, [], ◌∷◌, ◌++◌, Option, Some, None, IfSome, MatchOption, option_map, length, take}
use Rattle.herm_edge.specs.Faults.{Rose}
use Rattle.herm_edge.specs.Shelf.{File, Load, FileAnswer, given, not_there, not_read, no_memory, file_at}
use Rattle.herm_edge.specs.Sink.{written_after}
use Rattle.herm_system.specs.Reports as language
use Rattle.herm_report.specs.View.{report_view}
use Rattle.herm_report.specs.declared.report.Report.{Report}
use Rattle.herm_commands.specs.Words.{asked}
use Rattle.herm_ring.specs.Ring.{ring_text}
use Rattle.herm_claim.specs.Claim.{Claim}
use Rattle.herm_claim.specs.Purposes.{Purpose}
use Rattle.herm_driver.specs.Words.{Work, refused, make, over, work_of, names_of}
use Rattle.herm_driver.specs.Loads.{load_limit, AreLoaded, CountsFaults, AreTold}
use Rattle.herm_driver.specs.Texts.{usage_text, read_fault_text, not_found_text}

-- what is told of a run, in the words of the language: its report, with the status and the text
abbrev pub told_of : Option Report → ℕ → List ℕ → Option language.Report
told_of report status text = option_map (λ (r : Report). report_view r status text) report

-- no file has the name
abbrev pub IsNotFound : List ℕ → ℕ → List ℕ → Option Report → Type 0
IsNotFound name status text report = (status ≡ 10) × (text ≡ not_found_text name) × (report ≡ None)

-- the file with the name could not be read
abbrev pub IsUnreadable : List ℕ → ℕ → List ℕ → Option Report → Type 0
IsUnreadable name status text report = (status ≡ 3) × (text ≡ read_fault_text name) × (report ≡ None)

-- a status of 3 is that of a load that failed and raised the count of faults; with any other the count is as before
abbrev pub IsCaused : ℕ → ℕ → ℕ → Type 0
IsCaused before after status = ((status ≡ 3) × Rose before after) ⊎ ((status ≢ 3) × (after ≡ before))

-- the usage line, for words that are not taken
abbrev pub IsUsage : ℕ → List ℕ → Option Report → Type 0
IsUsage status text report = (status ≡ 2) × (text ≡ usage_text) × (report ≡ None)

-- the text of the ring of so many nodes
abbrev pub IsMade : ℕ → ℕ → List ℕ → Option Report → Type 0
IsMade nodes status text report = (status ≡ 0) × (text ≡ ring_text nodes) × (report ≡ None)

-- What a call's work is due by the answers for the files that it names. Words that are not taken are due the usage line, and `make` a ring's text. Of named files the first answer
-- that is not its bytes decides; and of files whose bytes were all read, behind those that were there already, the claim holds.
abbrev pub IsDueBy : Work → List FileAnswer → ℕ → List ℕ → Option Report → Type 0
IsDueBy refused answers status text report = IsUsage status text report
IsDueBy (make nodes) answers status text report = IsMade nodes status text report
IsDueBy (over purpose read []) [] status text report = Claim purpose read status text (told_of report status text)
IsDueBy (over purpose read []) (answer ∷ answers) status text report = ⊥
IsDueBy (over purpose read (name ∷ names)) [] status text report = ⊥
IsDueBy (over purpose read (name ∷ names)) (given bytes ∷ answers) status text report =
    IsDueBy (over purpose (read ++ (record { name = name; bytes = bytes } ∷ [])) names) answers status text report
IsDueBy (over purpose read (name ∷ names)) (not_there ∷ answers) status text report = IsNotFound name status text report
IsDueBy (over purpose read (name ∷ names)) (not_read ∷ answers) status text report = IsUnreadable name status text report
IsDueBy (over purpose read (name ∷ names)) (no_memory ∷ answers) status text report = ⊥

-- The files that the work names were loaded, up to the first whose bytes were not given, and no others; and the text, its status and the report are those that are due by the shelf's answers. The count of faults
-- rose where a file could not be read, and nowhere else; and where the shelf tells its files, an answer of bytes, or that no file has the name, is what it tells.
pub record IsDue {S : Type 0} (loads : S → Load → S → Type 0) (faults : S → ℕ) (contents : Option (List File))
    (before after : S) (work : Work) (status : ℕ) (text : List ℕ) (report : Option Report) : Type 0 where
  pub answers : List FileAnswer
  pub loaded : AreLoaded loads (names_of work) answers before after
  pub counted : CountsFaults answers (faults before) (faults after)
  pub told : IfSome contents (λ files. AreTold files (names_of work) answers)
  pub due : IsDueBy work answers status text report

-- What named files are due that a shelf tells, with those that were read before them: in their order, a file is not found, or it could not be read, where the shelf's
-- count rose; and of their first bytes the claim holds.
abbrev pub IsDueTo : (told : List File) → (rose : Type 0) → Purpose → List File → List (List ℕ) → ℕ → List ℕ → Option Report → Type 0
IsDueTo told rose purpose read [] status text report = Claim purpose read status text (told_of report status text)
IsDueTo told rose purpose read (name ∷ names) status text report =
    (rose × IsUnreadable name status text report)
    ⊎ MatchOption (file_at told name)
    (IsNotFound name status text report)
    (λ bytes. IsDueTo told rose purpose (read ++ (record { name = name; bytes = take load_limit bytes } ∷ [])) names status text report)

-- A text, its status and a report are chosen, where a shelf tells its files: the usage line; a ring's text; or what is due to the named files.
abbrev pub IsChosen : Work → List File → Type 0 → ℕ → List ℕ → Option Report → Type 0
IsChosen refused files rose status text report = IsUsage status text report
IsChosen (make nodes) files rose status text report = IsMade nodes status text report
IsChosen (over purpose ready names) files rose status text report = IsDueTo files rose purpose ready names status text report

-- a status that a text has: those of write faults and of want of memory have none
abbrev pub IsTextStatus : ℕ → Type 0
IsTextStatus status = (status ≢ 4) × (status ≢ 5)

-- A text was taken whole, with its status, and the sink's count of faults is as before; or it was cut off by a write fault, and
-- the count rose.
abbrev pub IsWritten : ℕ → ℕ → Option (List ℕ) → Option (List ℕ) → ℕ → ℕ → List ℕ → Type 0
IsWritten count after_count before after status chosen text =
    ((status ≡ chosen) × (after ≡ written_after before text) × (after_count ≡ count))
    ⊎ ((status ≡ 4) × Rose count after_count × (n : ℕ) × (n < length text) × (after ≡ written_after before (take n text)))

-- memory was wanting: nothing was written and nothing is reported
abbrev pub IsUnwritten : ℕ → ℕ → Option (List ℕ) → Option (List ℕ) → ℕ → Option Report → Type 0
IsUnwritten count after_count before after status report =
    (status ≡ 5) × (after ≡ before) × (after_count ≡ count) × (report ≡ None)

-- What a call of the program does, for any sink: memory was wanting, or the text that is due was written or cut off.
abbrev pub IsAnswered : (is_due : ℕ → List ℕ → Type 0) → (count after_count : ℕ) → (before after : Option (List ℕ)) → ℕ → Option Report → Type 0
IsAnswered is_due count after_count before after status report =
    IsUnwritten count after_count before after status report
    ⊎ (chosen : ℕ) × (text : List ℕ) × is_due chosen text × IsWritten count after_count before after status chosen text

-- the status that the program ends with is that of a call
abbrev pub EndsWith : {S : Type 0} → (S → Load → S → Type 0) → (S → ℕ) → Option (List File) → S → S → List (List ℕ)
    → (count after_count : ℕ) → (written after_written : Option (List ℕ)) → ℕ → Type 0
EndsWith loads faults contents before after words count after_count written after_written status =
    (report : Option Report) × IsAnswered (λ chosen text. IsDue loads faults contents before after (work_of (asked words)) chosen text report)
    count after_count written after_written status report
