-- What is due by what a shelf answers to loads.
use Rattle.std.proofs.Common.{◌≡◌, ◌≢◌, ◌≤◌, ◌⊎◌, inl, inr, ℕ, List, [], ◌∷◌, ◌++◌, Option, Some, None, length, take, suc, refl, ap, subst, sym, IfSome, MatchOption, option_map, arith}
use Rattle.std.specs.Prelude.{Result, Ok, Err, OnErr, map}
use Rattle.std.specs.Borrow.{Bor}
use Rattle.herm_edge.specs.Faults.{Rose}
use Rattle.herm_edge.specs.Shelf.{File, Load, FileAnswer, given, not_there, not_read, no_memory, file_at}
use Rattle.herm_claim.specs.Claim.{Claim}
use Rattle.herm_claim.specs.Purposes.{Purpose}
use Rattle.herm_claim.specs.laws.ClaimLaws.{IsClaimed}
use Rattle.herm_claim.proofs.ClaimsExact.{five-statuses}
use Rattle.herm_driver.specs.Loads.{load_limit, load_of, AreLoaded, CountsFaults, IsTold, AreTold, FirstAreLoaded}
use Rattle.herm_driver.specs.Due.{told_of, IsNotFound, IsUnreadable, IsDueBy, IsDue, IsCaused, IsDueTo, IsUsage, IsMade, IsChosen, IsTextStatus}
use Rattle.herm_commands.specs.Words as words
use Rattle.herm_driver.specs.Words.{Work, refused, make, over, work_of}
use Rattle.herm_report.specs.declared.report.Report.{Report}

told-nothing : (contents : Option (List File)) (name : List ℕ) → IfSome contents (λ files. IsTold (file_at files name) not_read)
told-nothing None name = tt
told-nothing (Some files) name = tt

-- what is told of a first name and of the others
told-first : (contents : Option (List File)) (name : List ℕ) (names : List (List ℕ)) (answer : FileAnswer) (answers : List FileAnswer) →
    IfSome contents (λ files. IsTold (file_at files name) answer) → IfSome contents (λ files. AreTold files names answers) →
    IfSome contents (λ files. AreTold files (name ∷ names) (answer ∷ answers))
told-first None name names answer answers first rest = tt
told-first (Some files) name names answer answers first rest = (first, rest)

-- of no answers all is told
told-none : (contents : Option (List File)) (names : List (List ℕ)) → IfSome contents (λ files. AreTold files names [])
told-none None names = tt
told-none (Some files) [] = tt
told-none (Some files) (name ∷ names) = tt

-- words that are not taken, and a ring's text, ask for no file
pub due-refused : {S : Type 0} (loads : S → Load → S → Type 0) (faults : S → ℕ) (contents : Option (List File)) (at : S) (work : Work) (status : ℕ) (text : List ℕ) (report : Option Report) →
    work ≡ refused → IsUsage status text report → IsDue loads faults contents at at work status text report
due-refused loads faults contents at refused status text report e due =
    record { answers = []; loaded = refl; counted = refl; told = told-none contents []; due = due }
due-refused loads faults contents at (make nodes) status text report e due = absurd (cc)
due-refused loads faults contents at (over purpose ready names) status text report e due = absurd (cc)

pub due-made : {S : Type 0} (loads : S → Load → S → Type 0) (faults : S → ℕ) (contents : Option (List File)) (at : S) (nodes status : ℕ) (text : List ℕ) (report : Option Report) →
    IsMade nodes status text report → IsDue loads faults contents at at (make nodes) status text report
due-made loads faults contents at nodes status text report due =
    record { answers = []; loaded = refl; counted = refl; told = told-none contents []; due = due }

-- where no file is named, none is loaded and none is lost
kept-none : {S : Type 0} (loads : S → Load → S → Type 0) (answers : List FileAnswer) (before after : S) (count after_count : ℕ) →
    AreLoaded loads [] answers before after → CountsFaults answers count after_count → after_count ≡ count
kept-none loads [] before after count after_count loaded counted = counted
kept-none loads (answer ∷ answers) before after count after_count loaded counted = absurd loaded

-- no file is left to be loaded
pub due-at-once : {S : Type 0} (loads : S → Load → S → Type 0) (faults : S → ℕ) (contents : Option (List File)) (at : S) (purpose : Purpose) (ready : List File) (status : ℕ) (text : List ℕ) (report : Option Report) →
    Claim purpose ready status text (told_of report status text) →
    IsDue loads faults contents at at (over purpose ready []) status text report
due-at-once loads faults contents at purpose ready status text report due =
    record { answers = []; loaded = refl; counted = refl; told = told-none contents []; due = due }

-- a file was loaded, and what is due is due by the loads behind it
pub due-given : {S : Type 0} (loads : S → Load → S → Type 0) (faults : S → ℕ) (contents told_by : Option (List File)) (before between after : S) (purpose : Purpose) (ready : List File) (name bytes : List ℕ) (names : List (List ℕ)) (status : ℕ) (text : List ℕ) (report : Option Report) →
    loads before (load_of name (given bytes)) between →
    faults between ≡ faults before →
    told_by ≡ contents →
    length bytes ≤ load_limit →
    IfSome contents (λ files. option_map (take load_limit) (file_at files name) ≡ Some bytes) →
    IsDue loads faults told_by between after (over purpose (ready ++ (record { name = name; bytes = bytes } ∷ [])) names) status text report →
    IsDue loads faults contents before after (over purpose ready (name ∷ names)) status text report
due-given loads faults contents told_by before between after purpose ready name bytes names status text report loaded kept same within told rest =
    record {
      answers = given bytes ∷ rest.answers;
      loaded = (between, loaded, within, rest.loaded);
      counted = subst (λ (n : ℕ). CountsFaults rest.answers n (faults after)) kept rest.counted;
      told = told-first contents name names (given bytes) rest.answers told (subst (λ (c : Option (List File)). IfSome c (λ files. AreTold files names rest.answers)) same rest.told);
      due = rest.due;
    }

pub due-missing : {S : Type 0} (loads : S → Load → S → Type 0) (faults : S → ℕ) (contents : Option (List File)) (before after : S) (purpose : Purpose) (ready : List File) (name : List ℕ) (names : List (List ℕ)) (status : ℕ) (text : List ℕ) (report : Option Report) →
    loads before (load_of name not_there) after →
    faults after ≡ faults before →
    IfSome contents (λ files. file_at files name ≡ None) →
    IsNotFound name status text report →
    IsDue loads faults contents before after (over purpose ready (name ∷ names)) status text report
due-missing loads faults contents before after purpose ready name names status text report loaded kept told due =
    record { answers = not_there ∷ []; loaded = (loaded, refl); counted = kept; told = told-first contents name names not_there [] told (told-none contents names); due = due }

pub due-failed : {S : Type 0} (loads : S → Load → S → Type 0) (faults : S → ℕ) (contents : Option (List File)) (before after : S) (purpose : Purpose) (ready : List File) (name : List ℕ) (names : List (List ℕ)) (status : ℕ) (text : List ℕ) (report : Option Report) →
    loads before (load_of name not_read) after →
    Rose (faults before) (faults after) →
    IsUnreadable name status text report →
    IsDue loads faults contents before after (over purpose ready (name ∷ names)) status text report
due-failed loads faults contents before after purpose ready name names status text report loaded rose due =
    record { answers = not_read ∷ []; loaded = (loaded, refl); counted = rose; told = told-first contents name names not_read [] (told-nothing contents name) (told-none contents names); due = due }

-- memory was wanting before any load, behind a first one, and in it
pub first-none : {S : Type 0} (loads : S → Load → S → Type 0) (names : List (List ℕ)) (at : S) → FirstAreLoaded loads names at at
first-none loads names at = record { count = 0; answers = []; loaded = refl }

pub first-more : {S : Type 0} (loads : S → Load → S → Type 0) (name bytes : List ℕ) (names : List (List ℕ)) (before between after : S) →
    loads before (load_of name (given bytes)) between → length bytes ≤ load_limit → FirstAreLoaded loads names between after → FirstAreLoaded loads (name ∷ names) before after
first-more loads name bytes names before between after loaded within rest =
    record { count = suc rest.count; answers = given bytes ∷ rest.answers; loaded = (between, loaded, within, rest.loaded) }

pub first-missing : {S : Type 0} (loads : S → Load → S → Type 0) (name : List ℕ) (names : List (List ℕ)) (before after : S) → loads before (load_of name not_there) after → FirstAreLoaded loads (name ∷ names) before after
first-missing loads name names before after loaded = record { count = 1; answers = not_there ∷ []; loaded = (loaded, refl) }

pub first-failed : {S : Type 0} (loads : S → Load → S → Type 0) (name : List ℕ) (names : List (List ℕ)) (before after : S) → loads before (load_of name not_read) after → FirstAreLoaded loads (name ∷ names) before after
first-failed loads name names before after loaded = record { count = 1; answers = not_read ∷ []; loaded = (loaded, refl) }

pub first-wanting : {S : Type 0} (loads : S → Load → S → Type 0) (name : List ℕ) (names : List (List ℕ)) (before after : S) → loads before (load_of name no_memory) after → FirstAreLoaded loads (name ∷ names) before after
first-wanting loads name names before after loaded = record { count = 1; answers = no_memory ∷ []; loaded = (loaded, refl) }

-- names as the code has them
abbrev pub texts_of : List (Bor (List ℕ)) → List (List ℕ)
texts_of names = map (λ (name : Bor (List ℕ)). name.now) names

pub match-none : {A E : Type 0} (P : A → Type 0) (o : Option A) → o ≡ None → MatchOption o E P → E
match-none P None e m = m
match-none P (Some a) e m = absurd (cc)

pub on-err : {A B P : Type 0} (r : Result A B) → P → OnErr r P
on-err (Ok x) p = tt
on-err (Err e) p = p

pub due-at-the-end : {S : Type 0} (loads : S → Load → S → Type 0) (faults : S → ℕ) (contents : Option (List File)) (at : S) (purpose : Purpose) (ready : List File) (names : List (Bor (List ℕ))) (status : ℕ) (text : List ℕ) (report : Option Report) →
    length names ≡ 0 → Claim purpose ready status text (told_of report status text) →
    IsDue loads faults contents at at (over purpose ready (texts_of names)) status text report
due-at-the-end loads faults contents at purpose ready [] status text report none due = due-at-once loads faults contents at purpose ready status text report due
due-at-the-end loads faults contents at purpose ready (name ∷ names) status text report none due = absurd (omega arith)

pub due-behind : {S : Type 0} (loads : S → Load → S → Type 0) (faults : S → ℕ) (contents told_by : Option (List File)) (before between after : S) (purpose : Purpose) (ready then : List File) (names : List (Bor (List ℕ))) (name : Bor (List ℕ)) (rest : List (Bor (List ℕ))) (bytes : List ℕ) (status : ℕ) (text : List ℕ) (report : Option Report) →
    names ≡ name ∷ rest → then ≡ ready ++ (record { name = name.now; bytes = bytes } ∷ []) →
    loads before (load_of name.now (given bytes)) between → faults between ≡ faults before → told_by ≡ contents → length bytes ≤ load_limit →
    IfSome contents (λ files. option_map (take load_limit) (file_at files name.now) ≡ Some bytes) →
    IsDue loads faults told_by between after (over purpose then (texts_of rest)) status text report →
    IsDue loads faults contents before after (over purpose ready (texts_of names)) status text report
due-behind loads faults contents told_by before between after purpose ready then names name rest bytes status text report e pushed loaded kept same within told due =
    subst (λ (ns : List (Bor (List ℕ))). IsDue loads faults contents before after (over purpose ready (texts_of ns)) status text report) (sym e)
    (due-given loads faults contents told_by before between after purpose ready name.now bytes (texts_of rest) status text report loaded kept same within told
    (subst (λ (fs : List File). IsDue loads faults told_by between after (over purpose fs (texts_of rest)) status text report) pushed due))

pub first-behind : {S : Type 0} (loads : S → Load → S → Type 0) (names : List (Bor (List ℕ))) (name : Bor (List ℕ)) (rest : List (Bor (List ℕ))) (bytes : List ℕ) (before between after : S) →
    names ≡ name ∷ rest → loads before (load_of name.now (given bytes)) between → length bytes ≤ load_limit → FirstAreLoaded loads (texts_of rest) between after → FirstAreLoaded loads (texts_of names) before after
first-behind loads names name rest bytes before between after e loaded within due =
    subst (λ (ns : List (Bor (List ℕ))). FirstAreLoaded loads (texts_of ns) before after) (sym e) (first-more loads name.now bytes (texts_of rest) before between after loaded within due)

-- a status that a claim has
claimed-caused : (before after status : ℕ) → after ≡ before → IsClaimed status → IsCaused before after status
claimed-caused before after status kept (inl e) = inr ((λ three. absurd (omega arith)), kept)
claimed-caused before after status kept (inr (inl e)) = inr ((λ three. absurd (omega arith)), kept)
claimed-caused before after status kept (inr (inr (inl e))) = inr ((λ three. absurd (omega arith)), kept)
claimed-caused before after status kept (inr (inr (inr (inl e)))) = inr ((λ three. absurd (omega arith)), kept)
claimed-caused before after status kept (inr (inr (inr (inr e)))) = inr ((λ three. absurd (omega arith)), kept)

answers-caused : (purpose : Purpose) (read : List File) (names : List (List ℕ)) (answers : List FileAnswer) (before after status : ℕ) (text : List ℕ) (report : Option Report) →
    CountsFaults answers before after → IsDueBy (over purpose read names) answers status text report → IsCaused before after status
answers-caused purpose read [] [] before after status text report counted due = claimed-caused before after status counted (five-statuses purpose read status text (told_of report status text) due)
answers-caused purpose read [] (answer ∷ answers) before after status text report counted due = absurd due
answers-caused purpose read (name ∷ names) [] before after status text report counted due = absurd due
answers-caused purpose read (name ∷ names) (given bytes ∷ answers) before after status text report counted due =
    answers-caused purpose (read ++ (record { name = name; bytes = bytes } ∷ [])) names answers before after status text report counted due
answers-caused purpose read (name ∷ names) (not_there ∷ answers) before after status text report counted due = inr ((λ e. absurd (omega arith)), counted)
answers-caused purpose read (name ∷ names) (not_read ∷ answers) before after status text report counted due = inl (due.0, counted)
answers-caused purpose read (name ∷ names) (no_memory ∷ answers) before after status text report counted due = absurd due

pub due-caused : {S : Type 0} (loads : S → Load → S → Type 0) (faults : S → ℕ) (contents : Option (List File)) (before after : S) (work : Work) (status : ℕ) (text : List ℕ) (report : Option Report) →
    IsDue loads faults contents before after work status text report → IsCaused (faults before) (faults after) status
due-caused loads faults contents before after refused status text report due =
    inr ((λ e. let two : status ≡ 2 = due.due.0 in absurd (omega arith)), kept-none loads due.answers before after (faults before) (faults after) due.loaded due.counted)
due-caused loads faults contents before after (make nodes) status text report due =
    inr ((λ e. let zero : status ≡ 0 = due.due.0 in absurd (omega arith)), kept-none loads due.answers before after (faults before) (faults after) due.loaded due.counted)
due-caused loads faults contents before after (over purpose ready names) status text report due =
    answers-caused purpose ready names due.answers (faults before) (faults after) status text report due.counted due.due

-- what is due behind a file whose first bytes were given
chosen-file : (told : List File) (rose : Type 0) (purpose : Purpose) (read : List File) (name : List ℕ) (names : List (List ℕ)) (file : Option (List ℕ)) (bytes : List ℕ) (status : ℕ) (text : List ℕ) (report : Option Report) →
    option_map (take load_limit) file ≡ Some bytes →
    IsDueTo told rose purpose (read ++ (record { name = name; bytes = bytes } ∷ [])) names status text report →
    MatchOption file (IsNotFound name status text report)
    (λ whole. IsDueTo told rose purpose (read ++ (record { name = name; bytes = take load_limit whole } ∷ [])) names status text report)
chosen-file told rose purpose read name names None bytes status text report e due = absurd (cc)
chosen-file told rose purpose read name names (Some whole) bytes status text report e due =
    let h : take load_limit whole ≡ bytes = cc in
    subst (λ (bs : List ℕ). IsDueTo told rose purpose (read ++ (record { name = name; bytes = bs } ∷ [])) names status text report) (sym h) due

-- What is due by the answers of a shelf that tells its files is what is due by these files.
chosen-by : (files : List File) (purpose : Purpose) (read : List File) (names : List (List ℕ)) (answers : List FileAnswer) (before after : ℕ) (status : ℕ) (text : List ℕ) (report : Option Report) →
    AreTold files names answers → CountsFaults answers before after → IsDueBy (over purpose read names) answers status text report →
    IsDueTo files (Rose before after) purpose read names status text report
chosen-by files purpose read [] [] before after status text report told counted due = due
chosen-by files purpose read [] (answer ∷ answers) before after status text report told counted due = absurd due
chosen-by files purpose read (name ∷ names) [] before after status text report told counted due = absurd due
chosen-by files purpose read (name ∷ names) (given bytes ∷ answers) before after status text report told counted due =
    inr (chosen-file files (Rose before after) purpose read name names (file_at files name) bytes status text report told.0
    (chosen-by files purpose (read ++ (record { name = name; bytes = bytes } ∷ [])) names answers before after status text report told.1 counted due))
chosen-by files purpose read (name ∷ names) (not_there ∷ answers) before after status text report told counted due =
    let missing : file_at files name ≡ None = told.0 in inr (rw missing due)
chosen-by files purpose read (name ∷ names) (not_read ∷ answers) before after status text report told counted due = inl (counted, due)
chosen-by files purpose read (name ∷ names) (no_memory ∷ answers) before after status text report told counted due = absurd due

pub told-chosen : {S : Type 0} (loads : S → Load → S → Type 0) (faults : S → ℕ) (contents : Option (List File)) (before after : S) (work : Work) (status : ℕ) (text : List ℕ) (report : Option Report) →
    IsDue loads faults contents before after work status text report →
    IfSome contents (λ files. IsChosen work files (Rose (faults before) (faults after)) status text report)
told-chosen loads faults None before after work status text report due = tt
told-chosen loads faults (Some files) before after refused status text report due = due.due
told-chosen loads faults (Some files) before after (make nodes) status text report due = due.due
told-chosen loads faults (Some files) before after (over purpose ready names) status text report due =
    chosen-by files purpose ready names due.answers (faults before) (faults after) status text report due.told due.counted due.due

-- a claim's status is one of a text, and not that of words that are refused
claimed-written : (status : ℕ) → IsClaimed status → IsTextStatus status × (status ≢ 2)
claimed-written status (inl e) = (((λ four. absurd (omega arith)), (λ five. absurd (omega arith))), (λ two. absurd (omega arith)))
claimed-written status (inr (inl e)) = (((λ four. absurd (omega arith)), (λ five. absurd (omega arith))), (λ two. absurd (omega arith)))
claimed-written status (inr (inr (inl e))) = (((λ four. absurd (omega arith)), (λ five. absurd (omega arith))), (λ two. absurd (omega arith)))
claimed-written status (inr (inr (inr (inl e)))) = (((λ four. absurd (omega arith)), (λ five. absurd (omega arith))), (λ two. absurd (omega arith)))
claimed-written status (inr (inr (inr (inr e)))) = (((λ four. absurd (omega arith)), (λ five. absurd (omega arith))), (λ two. absurd (omega arith)))

answers-written : (purpose : Purpose) (read : List File) (names : List (List ℕ)) (answers : List FileAnswer) (status : ℕ) (text : List ℕ) (report : Option Report) →
    IsDueBy (over purpose read names) answers status text report → IsTextStatus status × (status ≢ 2)
answers-written purpose read [] [] status text report due = claimed-written status (five-statuses purpose read status text (told_of report status text) due)
answers-written purpose read [] (answer ∷ answers) status text report due = absurd due
answers-written purpose read (name ∷ names) [] status text report due = absurd due
answers-written purpose read (name ∷ names) (given bytes ∷ answers) status text report due = answers-written purpose (read ++ (record { name = name; bytes = bytes } ∷ [])) names answers status text report due
answers-written purpose read (name ∷ names) (not_there ∷ answers) status text report due = (((λ four. absurd (omega arith)), (λ five. absurd (omega arith))), (λ two. absurd (omega arith)))
answers-written purpose read (name ∷ names) (not_read ∷ answers) status text report due = (((λ four. absurd (omega arith)), (λ five. absurd (omega arith))), (λ two. absurd (omega arith)))
answers-written purpose read (name ∷ names) (no_memory ∷ answers) status text report due = absurd due

-- no answer of a call has the status of a write fault or of want of memory
pub due-written : {S : Type 0} (loads : S → Load → S → Type 0) (faults : S → ℕ) (contents : Option (List File)) (before after : S) (work : Work) (status : ℕ) (text : List ℕ) (report : Option Report) →
    IsDue loads faults contents before after work status text report → IsTextStatus status
due-written loads faults contents before after refused status text report due =
    let two : status ≡ 2 = due.due.0 in ((λ four. absurd (omega arith)), (λ five. absurd (omega arith)))
due-written loads faults contents before after (make nodes) status text report due =
    let zero : status ≡ 0 = due.due.0 in ((λ four. absurd (omega arith)), (λ five. absurd (omega arith)))
due-written loads faults contents before after (over purpose ready names) status text report due = (answers-written purpose ready names due.answers status text report due.due).0

-- and the usage line's status is that of refused words
pub due-usage : {S : Type 0} (loads : S → Load → S → Type 0) (faults : S → ℕ) (contents : Option (List File)) (before after : S) (work : Work) (status : ℕ) (text : List ℕ) (report : Option Report) →
    IsDue loads faults contents before after work status text report → status ≡ 2 → work ≡ refused
due-usage loads faults contents before after refused status text report due two = refl
due-usage loads faults contents before after (make nodes) status text report due two = let zero : status ≡ 0 = due.due.0 in absurd (omega arith)
due-usage loads faults contents before after (over purpose ready names) status text report due two = absurd ((answers-written purpose ready names due.answers status text report due.due).1 two)

-- what words ask for is some work
pub some-work : (asked : words.Asked) → work_of (Some asked) ≡ refused → ⊥
some-work (words.check names) e = cc
some-work (words.run options (words.files names)) e = cc
some-work (words.run options (words.ring nodes)) e = cc
some-work (words.make nodes) e = cc

pub ruleset load_lemmas = (due-at-once, due-missing, due-failed, first-none, first-missing, first-failed, first-wanting)

pub ruleset work_lemmas = (due-made)

pub ruleset word_lemmas = (told-chosen, due-caused, due-written, due-refused)
