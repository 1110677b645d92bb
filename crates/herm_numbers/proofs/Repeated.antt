-- What is judged by names: repeated arms, paths that part, the last part of a path.
use Rattle.std.proofs.Common.{◌≡◌, ℕ, suc, ◌+◌, List, [], ◌∷◌, ◌++◌, map, length, Bool, true, not, refl, sym, ap, ◌∙◌, Vec, Global, arith}
use Rattle.std.specs.List.{IsLastAndRest}
use Rattle.std.specs.Str.{bytes_eq}
use Rattle.herm_base.specs.declared.word.Name.{Name}
use Rattle.herm_model.specs.tests.TableTests.{are_different}
use Rattle.herm_syntax.specs.Trees.{Letters, Path}
use Rattle.herm_syntax.specs.ReadStatements as reading
use Rattle.herm_syntax.specs.View.{name_view, path_form_view, atom_view, stmt_form_view}
use Rattle.herm_syntax.specs.declared.expressions.Atom.{Atom}
use Rattle.herm_syntax.specs.declared.expressions.PathForm.{PathForm}
use Rattle.herm_syntax.specs.declared.statements.Stmt.{Stmt}
use Rattle.herm_syntax.specs.declared.statements.StmtForm.{StmtForm, Case, Select, Try}
use Rattle.herm_types.specs.View.{param_view}
use Rattle.herm_types.specs.declared.shape.Param.{Param}
use Rattle.herm_naming.specs.Meaning.{arm_names}
use Rattle.herm_naming.specs.Numbers.{without_last, last_name}
use Rattle.herm_naming.specs.StatementFaults.{ports_of, same_path, set_arguments, all_part_ways, repeats}
use Rattle.herm_numbers.specs.Statements.{arm_view, port_arm_view}
use Rattle.herm_numbers.proofs.Components.{before_last, at_last}
use Rattle.herm_numbers.proofs.Written.{case_seen, select_seen, try_seen}

pub last_before : (xs before : List Name) (x : Name) → IsLastAndRest xs x before → map name_view before ≡ without_last (map name_view xs)
last_before xs before x h = sym (ap (λ ns. without_last (map name_view ns)) h.0 ∙ before_last before x)

pub last_here : (xs before : List Name) (x : Name) → IsLastAndRest xs x before → name_view x ≡ last_name (map name_view xs)
last_here xs before x h = sym (ap (λ ns. last_name (map name_view ns)) h.0 ∙ at_last before x)

pub no_arguments : (ps : List Param) (arguments : List Atom) → length arguments ≡ 0 → true ≡ all_part_ways (set_arguments (map param_view ps) (map atom_view arguments))
no_arguments [] arguments e = refl
no_arguments (p ∷ ps) [] e = refl
no_arguments (p ∷ ps) (a ∷ arguments) e = absurd (omega (arith, e))

names_of : (arms : List (Name × Vec Stmt Global)) → map (λ a. name_view a.0) arms ≡ arm_names (reading.arms_of (map arm_view arms))
names_of [] = refl
names_of (a ∷ arms) = ap (name_view a.0 ∷◌) (names_of arms)

ports_in : (arms : List (PathForm × PathForm × Vec Stmt Global)) → map (λ a. path_form_view a.0) arms ≡ ports_of (reading.port_arms_of (map port_arm_view arms))
ports_in [] = refl
ports_in (a ∷ arms) = ap (path_form_view a.0 ∷◌) (ports_in arms)

pub case_repeats : (form : StmtForm) (v : PathForm) (arms : Vec (Name × Vec Stmt Global) Global) (list : List (Name × Vec Stmt Global)) (b : Bool) → form ≡ Case v arms → list ≡ arms.items
    → b ≡ are_different bytes_eq (map (λ a. name_view a.0) list) → not b ≡ repeats (stmt_form_view form)
case_repeats form v arms list b e f h =
    ap not (h ∙ (ap (λ items. are_different bytes_eq (map (λ (a : Name × Vec Stmt Global). name_view a.0) items)) f ∙ ap (are_different bytes_eq) (names_of arms.items)))
    ∙ sym (ap (λ x. repeats (stmt_form_view x)) e ∙ ap repeats (case_seen v arms))

pub select_repeats : (form : StmtForm) (arms : Vec (PathForm × PathForm × Vec Stmt Global) Global) (list : List (PathForm × PathForm × Vec Stmt Global)) (b : Bool) → form ≡ Select arms → list ≡ arms.items
    → b ≡ are_different same_path (map (λ a. path_form_view a.0) list) → not b ≡ repeats (stmt_form_view form)
select_repeats form arms list b e f h =
    ap not (h ∙ (ap (λ items. are_different same_path (map (λ (a : PathForm × PathForm × Vec Stmt Global). path_form_view a.0) items)) f ∙ ap (are_different same_path) (ports_in arms.items)))
    ∙ sym (ap (λ x. repeats (stmt_form_view x)) e ∙ ap repeats (select_seen arms))

pub try_repeats : (form : StmtForm) (body : Vec Stmt Global) (handled : Vec (Name × Vec Stmt Global) Global) (list : List (Name × Vec Stmt Global)) (b : Bool) → form ≡ Try body handled → list ≡ handled.items
    → b ≡ are_different bytes_eq (map (λ a. name_view a.0) list) → not b ≡ repeats (stmt_form_view form)
try_repeats form body handled list b e f h =
    ap not (h ∙ (ap (λ items. are_different bytes_eq (map (λ (a : Name × Vec Stmt Global). name_view a.0) items)) f ∙ ap (are_different bytes_eq) (names_of handled.items)))
    ∙ sym (ap (λ x. repeats (stmt_form_view x)) e ∙ ap repeats (try_seen body handled))
