-- Reading files, and the place of a fault, without levels.
use Rattle.std.proofs.Common.{◌≡◌, ℕ, suc, ◌+◌, true, not, List, [], ◌∷◌, ◌++◌, length, None, refl, sym, ap, ◌∙◌, append-nil, arith}
use Rattle.herm_readers.specs.Reader.{Read, Fault, ahead}
use Rattle.herm_readers.specs.Combinators.{passes}
use Rattle.herm_readers.proofs.Consequences.{fault_at, no_tree}
use Rattle.herm_syntax.specs.Symbols.{Symbol}
use Rattle.herm_syntax.specs.Trees.{Module}
use Rattle.herm_syntax.specs.Spelling.{file}
use Rattle.herm_syntax.specs.Fitting.{IsFile, file_fits}
use Rattle.herm_syntax.specs.ReadModules.{anything, file_rule, read_file}
use Rattle.herm_syntax.specs.laws.GrammarLaws.{IsWithinRoom, read_within, FileIsFound, FileIsAgain, FaultBegins, FaultIsFirst, FaultHasNoFile}
use Rattle.herm_syntax.proofs.Deeper.{file_deeper}
use Rattle.herm_syntax.proofs.Files.{file_reads}
use Rattle.herm_syntax.proofs.Agree.{file_a}

nothing_left : (rest : List Symbol) → not (passes anything (ahead rest None)) ≡ true → rest ≡ []
nothing_left [] e = refl
nothing_left (x ∷ rest) e = absurd (cc)

pub file_is_found : FileIsFound
file_is_found room symbols rest modules e =
    let found = (file_reads (suc room)).found symbols rest modules e in
    let empty : rest ≡ [] = nothing_left rest found.ends in
    ((suc room, found.fits), found.spelled ∙ (ap (λ t. file modules ++ t) empty ∙ append-nil (file modules)), empty)

-- Levels enough for a file and for the room.
abbrev enough : ℕ → ℕ → ℕ
enough room levels = suc (room + levels)

alike : (room levels : ℕ) (symbols : List Symbol) → IsWithinRoom room symbols → read_within room symbols ≡ read_file (enough room levels) symbols
alike room levels symbols w = (file_a (suc room) (enough room levels) room (omega arith) (omega arith)).same symbols w

deep_enough : (room : ℕ) (modules : List Module) (is : IsFile modules) → file_fits (enough room is.0) modules ≡ true
deep_enough room modules is = file_deeper modules is.0 (enough room is.0) (omega arith) is.1

pub file_is_again : FileIsAgain
file_is_again room modules is w =
    let again : read_file (enough room is.0) (file modules ++ []) ≡ Read modules [] = (file_reads (enough room is.0)).again modules [] (deep_enough room modules is) refl in
    alike room is.0 (file modules) w ∙ (ap (read_file (enough room is.0)) (sym (append-nil (file modules))) ∙ again)

pub fault_begins : FaultBegins
fault_begins room symbols count e =
    let begun = (file_reads (suc room)).begins symbols count e in
    record {
      front = begun.front;
      left = begun.left;
      whole = begun.whole;
      counted = begun.counted;
      modules = begun.tree;
      is_file = (suc room, begun.fits);
      completion = begun.completion;
      completed = begun.completed;
    }

pub fault_is_first : FaultIsFirst
fault_is_first room front x behind w e modules more is spelled =
    let levels = enough room is.0 in
    let fault : read_file levels (front ++ x ∷ behind) ≡ Fault (suc (length behind)) = sym (alike room is.0 (front ++ x ∷ behind) w) ∙ e in
    fault_at Symbol (List Module) (file_rule levels) (read_file levels) (file_reads levels) front x behind fault modules [] more (deep_enough room modules is) refl (append-nil (file modules) ∙ spelled)

pub fault_has_no_file : FaultHasNoFile
fault_has_no_file room symbols count w e modules is spelled =
    let levels = enough room is.0 in
    let fault : read_file levels symbols ≡ Fault count = sym (alike room is.0 symbols w) ∙ e in
    no_tree Symbol (List Module) (file_rule levels) (read_file levels) (file_reads levels) symbols count fault modules (deep_enough room modules is) refl spelled
