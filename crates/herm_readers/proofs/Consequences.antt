-- What follows where a reader reads a rule.
use Rattle.std.proofs.Common.{◌≡◌, suc, [], ◌∷◌, ◌++◌, length, sym, ap, ◌∙◌, append-nil}
use Rattle.herm_readers.specs.Reader.{Read, Fault}
use Rattle.herm_readers.specs.laws.ReaderLaws.{HasOneTree, HasFaultAt, HasNoTree}

pub one_tree : (S A : Type 0) → HasOneTree S A
one_tree S A rule read reads a b rest last fits_a ends_a fits_b ends_b e =
    let first : read (rule.spelling a ++ rest) ≡ Read a rest = reads.again a rest fits_a ends_a in
    let second : read (rule.spelling b ++ last) ≡ Read b last = reads.again b last fits_b ends_b in
    let both : Read a rest ≡ Read b last = sym first ∙ (ap read e ∙ second) in
    let trees : a ≡ b = cc in
    let rests : rest ≡ last = cc in
    (trees, rests)

pub fault_at : (S A : Type 0) → HasFaultAt S A
fault_at S A rule read reads front x behind fault tree rest more fits ends e =
    let here : read (front ++ x ∷ more) ≡ Fault (suc (length more)) = reads.settled front x behind more fault in
    let there : read (rule.spelling tree ++ rest) ≡ Read tree rest = reads.again tree rest fits ends in
    let both : Read tree rest ≡ Fault (suc (length more)) = sym there ∙ (ap read e ∙ here) in
    cc

pub no_tree : (S A : Type 0) → HasNoTree S A
no_tree S A rule read reads symbols count fault tree fits ends e =
    let there : read (rule.spelling tree ++ []) ≡ Read tree [] = reads.again tree [] fits ends in
    let both : Read tree [] ≡ Fault count = sym there ∙ (ap read (append-nil (rule.spelling tree) ∙ e) ∙ fault) in
    cc
