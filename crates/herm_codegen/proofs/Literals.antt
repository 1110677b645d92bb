-- The literals of operands are those of the expression, and the literals of a program are its constants.
use Rattle.std.proofs.Common.{◌≡◌, List, [], ◌∷◌, ◌++◌, map, flat_map, refl, sym, ap, ap₂, ◌∙◌, append_assoc}
use Rattle.herm_model.specs.Expressions.{Literal, Expression, literal, copy, negation, logical_not, operation, size_of, decimal, length_of}
use Rattle.herm_model.specs.Statements.{Form}
use Rattle.herm_model.specs.Types.{TypeTable}
use Rattle.herm_model.specs.Nodes.{Node, process_nodes}
use Rattle.herm_typed.specs.View.{typed_process_view}
use Rattle.herm_translated.specs.Constants.{literals_of, literals_in, once, constants_of}
use Rattle.herm_translated.specs.CodeBlocks.{CheckedModule}
use Rattle.herm_translated.specs.Translated.{forms_in}
use Rattle.herm_blocks.specs.declared.checked.CheckedProcess.{CheckedProcess}
use Rattle.herm_fronts.specs.Operands.{Operand, operands_of, literals_at}
use Rattle.herm_blocks.specs.CheckedProcesses.{checked_view}
use Rattle.herm_fronts.specs.Shared.{shared}
use Rattle.herm_fronts.proofs.Shared.{shared-once, shared-append}

pub flat-append : {X Y : Type 0} (f : X → List Y) (xs ys : List X) → flat_map f (xs ++ ys) ≡ flat_map f xs ++ flat_map f ys
flat-append f [] ys = refl
flat-append f (x ∷ xs) ys = ap (λ zs. f x ++ zs) (flat-append f xs ys) ∙ sym (append_assoc (f x) (flat_map f xs) (flat_map f ys))

none-behind : {X : Type 0} (xs : List X) → xs ++ [] ≡ xs
none-behind [] = refl
none-behind (x ∷ xs) = ap (x ∷◌) (none-behind xs)

-- an operator has no literal
with_operator : (ops : List Operand) (o : Operand) (ls : List Literal) → literals_at o ≡ [] → flat_map literals_at ops ≡ ls → flat_map literals_at (ops ++ o ∷ []) ≡ ls
with_operator ops o ls e f = flat-append literals_at ops (o ∷ []) ∙ (ap₂ (λ xs ys. xs ++ (ys ++ [])) f e ∙ none-behind ls)

pub literals_found : (e : Expression) → flat_map literals_at (operands_of e) ≡ literals_of e
literals_found (literal l) = refl
literals_found (copy p) = refl
literals_found (negation e) = with_operator (operands_of e) _ (literals_of e) refl (literals_found e)
literals_found (logical_not e) = with_operator (operands_of e) _ (literals_of e) refl (literals_found e)
literals_found (operation o left right) =
    flat-append literals_at (operands_of left) _
    ∙ ap₂ (λ xs ys. xs ++ ys) (literals_found left) (with_operator (operands_of right) _ (literals_of right) refl (literals_found right))
literals_found (size_of p) = refl
literals_found (decimal e) = with_operator (operands_of e) _ (literals_of e) refl (literals_found e)
literals_found (length_of e) = with_operator (operands_of e) _ (literals_of e) refl (literals_found e)

abbrev pub forms_of : CheckedProcess → List Form
forms_of c = map (λ (n : Node). n.form) (process_nodes (typed_process_view c.process.now))

forms-in : (types : TypeTable) (cs : List CheckedProcess) → flat_map forms_of cs ≡ forms_in (map (checked_view types) cs)
forms-in types [] = refl
forms-in types (c ∷ cs) = ap (λ fs. forms_of c ++ fs) (forms-in types cs)

-- the literals of processes in turn, each once, are the constants of their program
pub program_constants : (types : TypeTable) (cs : List CheckedProcess) → shared [] (flat_map literals_in (flat_map forms_of cs)) ≡ constants_of (forms_in (map (checked_view types) cs))
program_constants types cs = shared-once _ ∙ ap (λ fs. once (flat_map literals_in fs)) (forms-in types cs)

-- those of one process more
pub process_more : (ks ls : List Literal) (c : CheckedProcess) (cs : List CheckedProcess) → ls ≡ shared ks (flat_map literals_in (forms_of c)) → shared ls (flat_map literals_in (flat_map forms_of cs)) ≡ shared ks (flat_map literals_in (flat_map forms_of (c ∷ cs)))
process_more ks ls c cs e =
    ap (λ xs. shared xs (flat_map literals_in (flat_map forms_of cs))) e
    ∙ (shared-append ks (flat_map literals_in (forms_of c)) (flat_map literals_in (flat_map forms_of cs))
    ∙ ap (shared ks) (sym (flat-append literals_in (forms_of c) (flat_map forms_of cs))))

-- those of one form more
pub form_more : (ks ls : List Literal) (f : Form) (fs : List Form) → ls ≡ shared ks (literals_in f) → shared ls (flat_map literals_in fs) ≡ shared ks (flat_map literals_in (f ∷ fs))
form_more ks ls f fs e = ap (λ xs. shared xs (flat_map literals_in fs)) e ∙ shared-append ks (literals_in f) (flat_map literals_in fs)
