-- Replaced trees fit as before, so the symbols before a fault begin a file of symbols that tokens of a source file can be.
use Rattle.std.proofs.Common.{◌≡◌, ℕ, zero, suc, Bool, true, false, not, ◌&&◌, List, [], ◌∷◌, ◌++◌, map, Option, Some, None, nat_eq, refl, sym, ap, ◌∙◌, subst}
use Rattle.std.proofs.lemmas.Bool.{and_parts, and_from}
use Rattle.std.proofs.lemmas.List.{map-append}
use Rattle.std.specs.List.{AllByRecursion}
use Rattle.herm_readers.specs.Combinators.{many_fits, separated_fits}
use Rattle.herm_readers.specs.Reader.{Fault}
use Rattle.herm_alphabet.specs.Tokens.{IsSourceKind}
use Rattle.herm_syntax.specs.Symbols.{Symbol, Key, Sign, Identifier, Number, Quoted, is_operator}
use Rattle.herm_syntax.specs.Trees.{Letters, Path, Literal, Integer, Text, Boolean, Tag, Atom, Constant, Place, Expression, Chain, Compare, Unary, Operands, NoOperand, Operand, Comparison, NoComparison, With, Primary, Simple, Size, Paren, TextOf, LengthOf, Statement, Assign, Move, Unite, Dissolve, Wrap, Insert, Connect, Send, Receive, New, Discard, Reveal, Remove, Get, Unwrap, Call, Return, ReturnBy, Create, Raise, Leave, Case, For, Select, If, While, Try, Statements, NoStatement, Further, Arms, NoArm, Arm, PortArms, NoPortArm, PortArm, Otherwise, NoElse, Else, Field, DeclaredFact, InitFact, FullFact, CaseFact, Shape, Names, Fields, Cases, Rows, Inport, Outport, CallMessage, Item, TypeItem, ExceptionItem, Module, Definitions, Process}
use Rattle.herm_syntax.specs.Spelling.{file}
use Rattle.herm_syntax.specs.Fitting.{is_name, any_part, path_fits, component_path_fits, literal_fits, atom_fits, is_sign, sign_fits, expression_fits, operands_fit, comparison_fits, primary_fits, has_arm, has_port_arm, statement_fits, statements_fit, case_arms_fit, port_arms_fit, handlers_fit, otherwise_fits, field_fits, param_fits, declared_fact_fits, raising_fits, shape_fits, item_fits, module_fits, file_fits}
use Rattle.herm_syntax.specs.laws.GrammarLaws.{BeginsFile, BeginsSource, FaultBeginsSource}
use Rattle.herm_syntax.proofs.Deeper.{both_kept, second_kept}
use Rattle.herm_syntax.proofs.Places.{fault_begins}
use Rattle.herm_syntax.proofs.Mended.{mend_name, mend_part, mend, mend_name_fits, all_are_source, sources_stay}
use Rattle.herm_syntax.proofs.MendedTrees.{mend_path, mend_literal, mend_atom, mend_sign, mend_expression, mend_operands, mend_comparison, mend_primary, mend_statement, mend_statements, mend_case_arms, mend_handlers, mend_port_arms, mend_otherwise, mend_field, mend_param, mend_raising, mend_fact, mend_shape, mend_item, mend_module, file_mended}

many_kept : {A : Type 0} → (fits : A → Bool) (change : A → A) → ((a : A) → fits a ≡ true → fits (change a) ≡ true) → (list : List A) → many_fits fits list ≡ true → many_fits fits (map change list) ≡ true
many_kept fits change each [] f = refl
many_kept fits change each (a ∷ list) f = both_kept (fits a) (many_fits fits list) (fits (change a)) (many_fits fits (map change list)) (each a) (many_kept fits change each list) f

separated_kept : {A : Type 0} → (fits : A → Bool) (change : A → A) → ((a : A) → fits a ≡ true → fits (change a) ≡ true) → (list : List A) → separated_fits fits list ≡ true → separated_fits fits (map change list) ≡ true
separated_kept fits change each [] f = f
separated_kept fits change each (a ∷ list) f = both_kept (fits a) (many_fits fits list) (fits (change a)) (many_fits fits (map change list)) (each a) (many_kept fits change each list) f

name_kept : (name : Letters) → is_name name ≡ true → is_name (mend_name name) ≡ true
name_kept name f = mend_name_fits name

part_kept : (p : Letters) → any_part p ≡ true → any_part (mend_part p) ≡ true
part_kept p f = refl

path_kept : (p : Path) → path_fits p ≡ true → path_fits (mend_path p) ≡ true
path_kept [] f = f
path_kept (variable ∷ ps) f = mend_name_fits variable

component_kept : (p : Path) → component_path_fits p ≡ true → component_path_fits (mend_path p) ≡ true
component_kept [] f = f
component_kept (variable ∷ []) f = f
component_kept (variable ∷ p ∷ ps) f = mend_name_fits variable

literal_kept : (l : Literal) → literal_fits l ≡ true → literal_fits (mend_literal l) ≡ true
literal_kept (Integer n) f = refl
literal_kept (Text t) f = refl
literal_kept (Boolean b) f = refl
literal_kept (Tag name value) f = mend_name_fits name

atom_kept : (a : Atom) → atom_fits a ≡ true → atom_fits (mend_atom a) ≡ true
atom_kept (Constant l) f = literal_kept l f
atom_kept (Place p) f = path_kept p f

sign_kept : (operator : Option Symbol) → sign_fits operator ≡ true → sign_fits (mend_sign operator) ≡ true
sign_kept None f = refl
sign_kept (Some (Key k)) f = f
sign_kept (Some (Sign m)) f = f
sign_kept (Some (Identifier text)) f = f
sign_kept (Some (Number n)) f = f
sign_kept (Some (Quoted text)) f = f

operator_kept : (n : ℕ) (x : Symbol) → is_operator n x ≡ true → is_operator n (mend x) ≡ true
operator_kept n (Key k) f = f
operator_kept n (Sign m) f = f
operator_kept n (Identifier text) f = f
operator_kept n (Number i) f = f
operator_kept n (Quoted text) f = f

mutual
  expression_kept : (e : Expression) (n d : ℕ) → expression_fits e n d ≡ true → expression_fits (mend_expression e) n d ≡ true
  expression_kept (Chain first rest) zero d f = f
  expression_kept (Chain first rest) (suc n) d f =
      second_kept (not (nat_eq n 2)) (expression_fits first n d && operands_fit rest n d) (expression_fits (mend_expression first) n d && operands_fit (mend_operands rest) n d)
      (both_kept (expression_fits first n d) (operands_fit rest n d) (expression_fits (mend_expression first) n d) (operands_fit (mend_operands rest) n d) (expression_kept first n d) (operands_kept rest n d)) f
  expression_kept (Compare left right) zero d f = f
  expression_kept (Compare left right) (suc n) d f =
      second_kept (nat_eq n 2) (expression_fits left n d && comparison_fits right n d) (expression_fits (mend_expression left) n d && comparison_fits (mend_comparison right) n d)
      (both_kept (expression_fits left n d) (comparison_fits right n d) (expression_fits (mend_expression left) n d) (comparison_fits (mend_comparison right) n d) (expression_kept left n d) (comparison_kept right n d)) f
  expression_kept (Unary operator p) zero d f = both_kept (sign_fits operator) (primary_fits p d) (sign_fits (mend_sign operator)) (primary_fits (mend_primary p) d) (sign_kept operator) (primary_kept p d) f
  expression_kept (Unary operator p) (suc n) d f = f

  operands_kept : (rest : Operands) (n d : ℕ) → operands_fit rest n d ≡ true → operands_fit (mend_operands rest) n d ≡ true
  operands_kept NoOperand n d f = refl
  operands_kept (Operand operator e rest) n d f =
      both_kept (is_operator (suc n) operator && expression_fits e n d) (operands_fit rest n d) (is_operator (suc n) (mend operator) && expression_fits (mend_expression e) n d) (operands_fit (mend_operands rest) n d)
      (both_kept (is_operator (suc n) operator) (expression_fits e n d) (is_operator (suc n) (mend operator)) (expression_fits (mend_expression e) n d) (operator_kept (suc n) operator) (expression_kept e n d)) (operands_kept rest n d) f

  comparison_kept : (right : Comparison) (n d : ℕ) → comparison_fits right n d ≡ true → comparison_fits (mend_comparison right) n d ≡ true
  comparison_kept NoComparison n d f = refl
  comparison_kept (With operator e) n d f =
      both_kept (is_operator (suc n) operator) (expression_fits e n d) (is_operator (suc n) (mend operator)) (expression_fits (mend_expression e) n d) (operator_kept (suc n) operator) (expression_kept e n d) f

  primary_kept : (p : Primary) (d : ℕ) → primary_fits p d ≡ true → primary_fits (mend_primary p) d ≡ true
  primary_kept (Simple a) d f = atom_kept a f
  primary_kept (Size p) d f = path_kept p f
  primary_kept (Paren e) zero f = f
  primary_kept (Paren e) (suc d) f = expression_kept e 5 d f
  primary_kept (TextOf e) zero f = f
  primary_kept (TextOf e) (suc d) f = expression_kept e 5 d f
  primary_kept (LengthOf e) zero f = f
  primary_kept (LengthOf e) (suc d) f = expression_kept e 5 d f

case_arm_kept : (arms : Arms) → has_arm arms ≡ true → has_arm (mend_case_arms arms) ≡ true
case_arm_kept NoArm f = f
case_arm_kept (Arm name body others) f = refl

handler_kept : (arms : Arms) → has_arm arms ≡ true → has_arm (mend_handlers arms) ≡ true
handler_kept NoArm f = f
handler_kept (Arm name body others) f = refl

port_arm_kept : (arms : PortArms) → has_port_arm arms ≡ true → has_port_arm (mend_port_arms arms) ≡ true
port_arm_kept NoPortArm f = f
port_arm_kept (PortArm port target body others) f = refl

-- Three tests, one behind the other.
three_kept : (a b c a' b' c' : Bool) → (a ≡ true → a' ≡ true) → (b ≡ true → b' ≡ true) → (c ≡ true → c' ≡ true) → (a && (b && c)) ≡ true → (a' && (b' && c')) ≡ true
three_kept a b c a' b' c' first second third f = both_kept a (b && c) a' (b' && c') first (both_kept b c b' c' second third) f

mutual
  statement_kept : (s : Statement) (d : ℕ) → statement_fits s d ≡ true → statement_fits (mend_statement s) d ≡ true
  statement_kept (Assign x e) d f = both_kept (path_fits x) (expression_fits e 5 d) (path_fits (mend_path x)) (expression_fits (mend_expression e) 5 d) (path_kept x) (expression_kept e 5 d) f
  statement_kept (Move y x) d f = both_kept (path_fits y) (path_fits x) (path_fits (mend_path y)) (path_fits (mend_path x)) (path_kept y) (path_kept x) f
  statement_kept (Unite v y) d f = both_kept (component_path_fits v) (path_fits y) (component_path_fits (mend_path v)) (path_fits (mend_path y)) (component_kept v) (path_kept y) f
  statement_kept (Dissolve v y) d f = both_kept (component_path_fits v) (path_fits y) (component_path_fits (mend_path v)) (path_fits (mend_path y)) (component_kept v) (path_kept y) f
  statement_kept (Wrap y p) d f = both_kept (path_fits y) (path_fits p) (path_fits (mend_path y)) (path_fits (mend_path p)) (path_kept y) (path_kept p) f
  statement_kept (Insert r t) d f = both_kept (path_fits r) (path_fits t) (path_fits (mend_path r)) (path_fits (mend_path t)) (path_kept r) (path_kept t) f
  statement_kept (Connect o i) d f = both_kept (path_fits o) (path_fits i) (path_fits (mend_path o)) (path_fits (mend_path i)) (path_kept o) (path_kept i) f
  statement_kept (Send x o) d f = both_kept (path_fits x) (path_fits o) (path_fits (mend_path x)) (path_fits (mend_path o)) (path_kept x) (path_kept o) f
  statement_kept (Receive x i) d f = both_kept (path_fits x) (path_fits i) (path_fits (mend_path x)) (path_fits (mend_path i)) (path_kept x) (path_kept i) f
  statement_kept (New x) d f = path_kept x f
  statement_kept (Discard x) d f = path_kept x f
  statement_kept (Reveal v) d f = component_kept v f
  statement_kept (Remove r t keys) d f =
      three_kept (path_fits r) (path_fits t) (separated_fits atom_fits keys) (path_fits (mend_path r)) (path_fits (mend_path t)) (separated_fits atom_fits (map mend_atom keys)) (path_kept r) (path_kept t) (separated_kept atom_fits mend_atom atom_kept keys) f
  statement_kept (Get r t keys) d f =
      three_kept (path_fits r) (path_fits t) (separated_fits atom_fits keys) (path_fits (mend_path r)) (path_fits (mend_path t)) (separated_fits atom_fits (map mend_atom keys)) (path_kept r) (path_kept t) (separated_kept atom_fits mend_atom atom_kept keys) f
  statement_kept (Unwrap p name y) d f = three_kept (path_fits p) (is_name name) (path_fits y) (path_fits (mend_path p)) (is_name (mend_name name)) (path_fits (mend_path y)) (path_kept p) (name_kept name) (path_kept y) f
  statement_kept (Call o arguments) d f = both_kept (path_fits o) (many_fits atom_fits arguments) (path_fits (mend_path o)) (many_fits atom_fits (map mend_atom arguments)) (path_kept o) (many_kept atom_fits mend_atom atom_kept arguments) f
  statement_kept (Return m) d f = path_kept m f
  statement_kept (ReturnBy m name) d f = both_kept (path_fits m) (is_name name) (path_fits (mend_path m)) (is_name (mend_name name)) (path_kept m) (name_kept name) f
  statement_kept (Create o name) d f = both_kept (path_fits o) (is_name name) (path_fits (mend_path o)) (is_name (mend_name name)) (path_kept o) (name_kept name) f
  statement_kept (Raise name) d f = mend_name_fits name
  statement_kept Leave d f = refl
  statement_kept (Case v arms) d f =
      three_kept (path_fits v) (has_arm arms) (case_arms_fit arms d) (path_fits (mend_path v)) (has_arm (mend_case_arms arms)) (case_arms_fit (mend_case_arms arms) d) (path_kept v) (case_arm_kept arms) (case_arms_kept arms d) f
  statement_kept (For r t body) d f =
      three_kept (path_fits r) (path_fits t) (statements_fit body d) (path_fits (mend_path r)) (path_fits (mend_path t)) (statements_fit (mend_statements body) d) (path_kept r) (path_kept t) (statements_kept body d) f
  statement_kept (Select arms) d f = both_kept (has_port_arm arms) (port_arms_fit arms d) (has_port_arm (mend_port_arms arms)) (port_arms_fit (mend_port_arms arms) d) (port_arm_kept arms) (port_arms_kept arms d) f
  statement_kept (If e body other) d f =
      three_kept (expression_fits e 5 d) (statements_fit body d) (otherwise_fits other d) (expression_fits (mend_expression e) 5 d) (statements_fit (mend_statements body) d) (otherwise_fits (mend_otherwise other) d)
      (expression_kept e 5 d) (statements_kept body d) (otherwise_kept other d) f
  statement_kept (While e body) d f =
      both_kept (expression_fits e 5 d) (statements_fit body d) (expression_fits (mend_expression e) 5 d) (statements_fit (mend_statements body) d) (expression_kept e 5 d) (statements_kept body d) f
  statement_kept (Try body handled) d f =
      three_kept (statements_fit body d) (has_arm handled) (handlers_fit handled d) (statements_fit (mend_statements body) d) (has_arm (mend_handlers handled)) (handlers_fit (mend_handlers handled) d)
      (statements_kept body d) (handler_kept handled) (handlers_kept handled d) f

  statements_kept : (body : Statements) (d : ℕ) → statements_fit body d ≡ true → statements_fit (mend_statements body) d ≡ true
  statements_kept NoStatement d f = refl
  statements_kept (Further s others) zero f = f
  statements_kept (Further s others) (suc d) f =
      both_kept (statement_fits s d) (statements_fit others (suc d)) (statement_fits (mend_statement s) d) (statements_fit (mend_statements others) (suc d)) (statement_kept s d) (statements_kept others (suc d)) f

  case_arms_kept : (arms : Arms) (d : ℕ) → case_arms_fit arms d ≡ true → case_arms_fit (mend_case_arms arms) d ≡ true
  case_arms_kept NoArm d f = refl
  case_arms_kept (Arm component body others) d f =
      both_kept (statements_fit body d) (case_arms_fit others d) (statements_fit (mend_statements body) d) (case_arms_fit (mend_case_arms others) d) (statements_kept body d) (case_arms_kept others d) f

  port_arms_kept : (arms : PortArms) (d : ℕ) → port_arms_fit arms d ≡ true → port_arms_fit (mend_port_arms arms) d ≡ true
  port_arms_kept NoPortArm d f = refl
  port_arms_kept (PortArm port target body others) d f =
      both_kept (path_fits port && (path_fits target && statements_fit body d)) (port_arms_fit others d)
      (path_fits (mend_path port) && (path_fits (mend_path target) && statements_fit (mend_statements body) d)) (port_arms_fit (mend_port_arms others) d)
      (three_kept (path_fits port) (path_fits target) (statements_fit body d) (path_fits (mend_path port)) (path_fits (mend_path target)) (statements_fit (mend_statements body) d)
      (path_kept port) (path_kept target) (statements_kept body d)) (port_arms_kept others d) f

  handlers_kept : (arms : Arms) (d : ℕ) → handlers_fit arms d ≡ true → handlers_fit (mend_handlers arms) d ≡ true
  handlers_kept NoArm d f = refl
  handlers_kept (Arm name body others) d f =
      both_kept (is_name name && statements_fit body d) (handlers_fit others d) (is_name (mend_name name) && statements_fit (mend_statements body) d) (handlers_fit (mend_handlers others) d)
      (both_kept (is_name name) (statements_fit body d) (is_name (mend_name name)) (statements_fit (mend_statements body) d) (name_kept name) (statements_kept body d)) (handlers_kept others d) f

  otherwise_kept : (other : Otherwise) (d : ℕ) → otherwise_fits other d ≡ true → otherwise_fits (mend_otherwise other) d ≡ true
  otherwise_kept NoElse d f = refl
  otherwise_kept (Else body) d f = statements_kept body d f

field_kept : (f : Field) → field_fits f ≡ true → field_fits (mend_field f) ≡ true
field_kept f h = mend_name_fits f.1

fact_kept : (f : DeclaredFact) → declared_fact_fits f ≡ true → declared_fact_fits (mend_fact f) ≡ true
fact_kept (InitFact p) h = separated_kept any_part mend_part part_kept p h
fact_kept (FullFact p) h = separated_kept any_part mend_part part_kept p h
fact_kept (CaseFact p component) h = separated_kept any_part mend_part part_kept p h

shape_kept : (s : Shape) → shape_fits s ≡ true → shape_fits (mend_shape s) ≡ true
shape_kept (Names names) h = separated_kept any_part mend_part part_kept names h
shape_kept (Fields fs) h = separated_kept field_fits mend_field field_kept fs h
shape_kept (Cases fs) h = separated_kept field_fits mend_field field_kept fs h
shape_kept (Rows row keys) h = both_kept (is_name row) (separated_fits any_part keys) (is_name (mend_name row)) (separated_fits any_part (map mend_part keys)) (name_kept row) (separated_kept any_part mend_part part_kept keys) h
shape_kept (Inport message facts) h =
    both_kept (is_name message) (many_fits declared_fact_fits facts) (is_name (mend_name message)) (many_fits declared_fact_fits (map mend_fact facts)) (name_kept message) (many_kept declared_fact_fits mend_fact fact_kept facts) h
shape_kept (Outport port) h = mend_name_fits port
shape_kept (CallMessage params raises) h =
    both_kept (many_fits param_fits params) (many_fits raising_fits raises) (many_fits param_fits (map mend_param params)) (many_fits raising_fits (map mend_raising raises))
    (many_kept param_fits mend_param (λ p h. mend_name_fits p.1.1) params) (many_kept raising_fits mend_raising (λ r h. mend_name_fits r.0) raises) h

item_kept : (i : Item) → item_fits i ≡ true → item_fits (mend_item i) ≡ true
item_kept (TypeItem name s) h = both_kept (is_name name) (shape_fits s) (is_name (mend_name name)) (shape_fits (mend_shape s)) (name_kept name) (shape_kept s) h
item_kept (ExceptionItem name) h = mend_name_fits name

module_kept : (d : ℕ) (m : Module) → module_fits d m ≡ true → module_fits d (mend_module m) ≡ true
module_kept d (Definitions name items) h = both_kept (is_name name) (many_fits item_fits items) (is_name (mend_name name)) (many_fits item_fits (map mend_item items)) (name_kept name) (many_kept item_fits mend_item item_kept items) h
module_kept d (Process name port vars body) h =
    both_kept (is_name name) (field_fits port && (many_fits field_fits vars && statements_fit body d)) (is_name (mend_name name)) (field_fits (mend_field port) && (many_fits field_fits (map mend_field vars) && statements_fit (mend_statements body) d)) (name_kept name)
    (three_kept (field_fits port) (many_fits field_fits vars) (statements_fit body d) (field_fits (mend_field port)) (many_fits field_fits (map mend_field vars)) (statements_fit (mend_statements body) d)
    (field_kept port) (many_kept field_fits mend_field field_kept vars) (statements_kept body d)) h

-- ---- the law

front_stays : (front left symbols : List Symbol) → symbols ≡ front ++ left → AllByRecursion IsSourceKind symbols → AllByRecursion IsSourceKind front
front_stays [] left symbols e each = tt
front_stays (x ∷ front) left [] e each = absurd (cc)
front_stays (x ∷ front) left (y ∷ symbols) e each =
    let first : y ≡ x = cc in
    let others : symbols ≡ front ++ left = cc in
    (subst IsSourceKind first each.0, front_stays front left symbols others each.1)

mended : (symbols : List Symbol) (count : ℕ) → AllByRecursion IsSourceKind symbols → BeginsFile symbols count → BeginsSource symbols count
mended symbols count each begun = record {
  begins = record {
    front = begun.front;
    left = begun.left;
    whole = begun.whole;
    counted = begun.counted;
    modules = map mend_module begun.modules;
    is_file = (begun.is_file.0, many_kept (module_fits begun.is_file.0) mend_module (module_kept begun.is_file.0) begun.modules begun.is_file.1);
    completion = map mend begun.completion;
    completed = file_mended begun.modules ∙ (ap (map mend) begun.completed ∙ (map-append mend begun.front begun.completion
        ∙ ap (λ front. front ++ map mend begun.completion) (sources_stay begun.front (front_stays begun.front begun.left symbols begun.whole each))));
  };
  source = subst (λ s. AllByRecursion IsSourceKind s) (sym (file_mended begun.modules)) (all_are_source (file begun.modules));
}

pub fault_begins_source : FaultBeginsSource
fault_begins_source room symbols count each e = mended symbols count each (fault_begins room symbols count e)
