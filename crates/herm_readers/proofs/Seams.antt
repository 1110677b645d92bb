-- A fault behind what a reader read: the reader reads the same, whatever stands behind the fault.
use Rattle.std.proofs.Common.{◌≡◌, suc, List, ◌∷◌, ◌++◌, length, None, true, sym, ap, ◌∙◌, append_assoc}
use Rattle.herm_readers.specs.Reader.{Read, Reader, Rule, Found, Reads, ahead}
use Rattle.herm_readers.proofs.Ahead.{same_rest, ahead_at}

-- The first symbols spell a tree, the rest goes up to the fault's symbol x, with other symbols behind it too.
pub record Seam {S A : Type 0} (rule : Rule S A) (read : Reader S A) (front : List S) (x : S) (behind other middle : List S) (a : A) (rest : List S) : Type 0 where
  pub same : middle ≡ rest ++ x ∷ behind
  pub text : front ++ x ∷ behind ≡ rule.spelling a ++ (rest ++ x ∷ behind)
  pub other_text : front ++ x ∷ other ≡ rule.spelling a ++ (rest ++ x ∷ other)
  pub reread : read (front ++ x ∷ other) ≡ Read a (rest ++ x ∷ other)

pub seam : {S A : Type 0} → (rule : Rule S A) (read : Reader S A) → Reads rule read → (front : List S) (x : S) (behind other middle : List S) (a : A) (rest left : List S) → Found rule (front ++ x ∷ behind) a middle →
    middle ≡ rest ++ left → length left ≡ suc (length behind) → Seam rule read front x behind other middle a rest
seam rule read reads front x behind other middle a rest left found whole counted =
    let spelled : front ++ x ∷ behind ≡ (rule.spelling a ++ rest) ++ left =
    found.spelled ∙ (ap (λ t. rule.spelling a ++ t) whole ∙ sym (append_assoc (rule.spelling a) rest left)) in
    let parts = same_rest front (x ∷ behind) (rule.spelling a ++ rest) left spelled (sym counted) in
    let middle_is : middle ≡ rest ++ x ∷ behind = whole ∙ ap (λ t. rest ++ t) (sym parts.1) in
    let here : front ++ x ∷ behind ≡ rule.spelling a ++ (rest ++ x ∷ behind) = ap (λ t. t ++ x ∷ behind) parts.0 ∙ append_assoc (rule.spelling a) rest (x ∷ behind) in
    let again : front ++ x ∷ other ≡ rule.spelling a ++ (rest ++ x ∷ other) = ap (λ t. t ++ x ∷ other) parts.0 ∙ append_assoc (rule.spelling a) rest (x ∷ other) in
    let ends : rule.ends a (ahead (rest ++ x ∷ other) None) ≡ true =
    ap (rule.ends a) (ahead_at rest x other behind None ∙ ap (λ t. ahead t None) (sym middle_is)) ∙ found.ends in
    record { same = middle_is; text = here; other_text = again; reread = ap read again ∙ reads.again a (rest ++ x ∷ other) found.fits ends }
