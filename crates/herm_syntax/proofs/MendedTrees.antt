-- Trees with each name, part, number and text replaced by one that a token of a source file can have: what they spell is
-- replaced alike, and they fit as before.
use Rattle.std.proofs.Common.{◌≡◌, ℕ, zero, suc, Bool, true, false, not, ◌&&◌, List, [], ◌∷◌, ◌++◌, map, Option, Some, None, nat_eq, refl, sym, ap, ap₂, ◌∙◌}
use Rattle.std.proofs.lemmas.Bool.{and_parts, and_from}
use Rattle.herm_readers.specs.Combinators.{separated_spelling, many_fits, separated_fits}
use Rattle.herm_syntax.specs.Symbols.{Symbol, Key, Sign, Identifier, Number, Quoted, is_operator, semicolon, becomes, brace_close, brace_open, bracket_open, colon, comma, equal, hash, paren_close, paren_open}
use Rattle.herm_syntax.specs.KeywordSymbols.{kw_as, kw_call, kw_callmessage, kw_case, kw_connect, kw_create, kw_definitions, kw_discard, kw_dissolve, kw_else, kw_enum, kw_for, kw_from, kw_full, kw_get, kw_if, kw_in, kw_init, kw_inout, kw_inport, kw_insert, kw_into, kw_key, kw_length, kw_move, kw_new, kw_of, kw_on, kw_out, kw_process, kw_raises, kw_receive, kw_record, kw_remove, kw_return, kw_reveal, kw_select, kw_send, kw_size, kw_table, kw_text, kw_to, kw_try, kw_type, kw_unite, kw_unwrap, kw_var, kw_variant, kw_when, kw_while, kw_wrap}
use Rattle.herm_syntax.specs.Trees.{Letters, Path, Literal, Integer, Text, Boolean, Tag, Atom, Constant, Place, Expression, Chain, Compare, Unary, Operands, NoOperand, Operand, Comparison, NoComparison, With, Primary, Simple, Size, Paren, TextOf, LengthOf, Statement, Assign, Move, Unite, Dissolve, Wrap, Insert, Connect, Send, Receive, New, Discard, Reveal, Remove, Get, Unwrap, Call, Return, ReturnBy, Create, Raise, Leave, Case, For, Select, If, While, Try, Statements, NoStatement, Further, Arms, NoArm, Arm, PortArms, NoPortArm, PortArm, Otherwise, NoElse, Else, Field, Mode, In, Inout, Out, Param, Raising, DeclaredFact, InitFact, FullFact, CaseFact, Shape, Names, Fields, Cases, Rows, Inport, Outport, CallMessage, Item, TypeItem, ExceptionItem, Module, Definitions, Process}
use Rattle.herm_syntax.specs.Spelling.{dotted, path, literal, atom, atoms, expression, operands, comparison, primary, statement, statements, case_arms, port_arms, handlers, otherwise, part, parts, field, fields, param, fact_path, declared_fact, declared_facts, kept, raising, raisings, shape, item, variables, module_symbols, file}
use Rattle.herm_syntax.specs.Fitting.{is_name, any_part, path_fits, component_path_fits, literal_fits, atom_fits, is_sign, sign_fits, expression_fits, operands_fit, comparison_fits, primary_fits, has_arm, has_port_arm, statement_fits, statements_fit, case_arms_fit, port_arms_fit, handlers_fit, otherwise_fits, field_fits, param_fits, declared_fact_fits, raising_fits, shape_fits, item_fits, module_fits, file_fits}
use Rattle.herm_alphabet.specs.declared.sign.Mark.TheVariants.{Comma, Dot}
use Rattle.herm_syntax.proofs.Deeper.{both_kept, second_kept}
use Rattle.herm_syntax.proofs.Mended.{mend_name, mend_number, mend_text, mend_part, mend, mend_name_fits, part_mended, joined, many_mended, separated_mended}

-- ---- trees

abbrev pub mend_path : Path → Path
mend_path [] = []
mend_path (variable ∷ ps) = mend_name variable ∷ map mend_part ps

abbrev pub mend_literal : Literal → Literal
mend_literal (Integer n) = Integer (mend_number n)
mend_literal (Text t) = Text (mend_text t)
mend_literal (Boolean b) = Boolean b
mend_literal (Tag name value) = Tag (mend_name name) (mend_part value)

abbrev pub mend_atom : Atom → Atom
mend_atom (Constant l) = Constant (mend_literal l)
mend_atom (Place p) = Place (mend_path p)

abbrev pub mend_sign : Option Symbol → Option Symbol
mend_sign None = None
mend_sign (Some x) = Some (mend x)

abbrev mutual
  pub mend_expression : Expression → Expression
  mend_expression (Chain first rest) = Chain (mend_expression first) (mend_operands rest)
  mend_expression (Compare left right) = Compare (mend_expression left) (mend_comparison right)
  mend_expression (Unary operator p) = Unary (mend_sign operator) (mend_primary p)

  pub mend_operands : Operands → Operands
  mend_operands NoOperand = NoOperand
  mend_operands (Operand operator e rest) = Operand (mend operator) (mend_expression e) (mend_operands rest)

  pub mend_comparison : Comparison → Comparison
  mend_comparison NoComparison = NoComparison
  mend_comparison (With operator e) = With (mend operator) (mend_expression e)

  pub mend_primary : Primary → Primary
  mend_primary (Simple a) = Simple (mend_atom a)
  mend_primary (Size p) = Size (mend_path p)
  mend_primary (Paren e) = Paren (mend_expression e)
  mend_primary (TextOf e) = TextOf (mend_expression e)
  mend_primary (LengthOf e) = LengthOf (mend_expression e)

abbrev mutual
  pub mend_statement : Statement → Statement
  mend_statement (Assign x e) = Assign (mend_path x) (mend_expression e)
  mend_statement (Move y x) = Move (mend_path y) (mend_path x)
  mend_statement (Unite v y) = Unite (mend_path v) (mend_path y)
  mend_statement (Dissolve v y) = Dissolve (mend_path v) (mend_path y)
  mend_statement (Wrap y p) = Wrap (mend_path y) (mend_path p)
  mend_statement (Insert r t) = Insert (mend_path r) (mend_path t)
  mend_statement (Connect o i) = Connect (mend_path o) (mend_path i)
  mend_statement (Send x o) = Send (mend_path x) (mend_path o)
  mend_statement (Receive x i) = Receive (mend_path x) (mend_path i)
  mend_statement (New x) = New (mend_path x)
  mend_statement (Discard x) = Discard (mend_path x)
  mend_statement (Reveal v) = Reveal (mend_path v)
  mend_statement (Remove r t keys) = Remove (mend_path r) (mend_path t) (map mend_atom keys)
  mend_statement (Get r t keys) = Get (mend_path r) (mend_path t) (map mend_atom keys)
  mend_statement (Unwrap p name y) = Unwrap (mend_path p) (mend_name name) (mend_path y)
  mend_statement (Call o arguments) = Call (mend_path o) (map mend_atom arguments)
  mend_statement (Return m) = Return (mend_path m)
  mend_statement (ReturnBy m name) = ReturnBy (mend_path m) (mend_name name)
  mend_statement (Create o name) = Create (mend_path o) (mend_name name)
  mend_statement (Raise name) = Raise (mend_name name)
  mend_statement Leave = Leave
  mend_statement (Case v arms) = Case (mend_path v) (mend_case_arms arms)
  mend_statement (For r t body) = For (mend_path r) (mend_path t) (mend_statements body)
  mend_statement (Select arms) = Select (mend_port_arms arms)
  mend_statement (If e body other) = If (mend_expression e) (mend_statements body) (mend_otherwise other)
  mend_statement (While e body) = While (mend_expression e) (mend_statements body)
  mend_statement (Try body handled) = Try (mend_statements body) (mend_handlers handled)

  pub mend_statements : Statements → Statements
  mend_statements NoStatement = NoStatement
  mend_statements (Further s others) = Further (mend_statement s) (mend_statements others)

  pub mend_case_arms : Arms → Arms
  mend_case_arms NoArm = NoArm
  mend_case_arms (Arm component body others) = Arm (mend_part component) (mend_statements body) (mend_case_arms others)

  pub mend_handlers : Arms → Arms
  mend_handlers NoArm = NoArm
  mend_handlers (Arm name body others) = Arm (mend_name name) (mend_statements body) (mend_handlers others)

  pub mend_port_arms : PortArms → PortArms
  mend_port_arms NoPortArm = NoPortArm
  mend_port_arms (PortArm port target body others) = PortArm (mend_path port) (mend_path target) (mend_statements body) (mend_port_arms others)

  pub mend_otherwise : Otherwise → Otherwise
  mend_otherwise NoElse = NoElse
  mend_otherwise (Else body) = Else (mend_statements body)

abbrev pub mend_field : Field → Field
mend_field f = (mend_part f.0, mend_name f.1)

abbrev pub mend_param : Param → Param
mend_param p = (p.0, mend_field p.1)

abbrev pub mend_raising : Raising → Raising
mend_raising r = (mend_name r.0, map mend_part r.1)

abbrev pub mend_fact : DeclaredFact → DeclaredFact
mend_fact (InitFact p) = InitFact (map mend_part p)
mend_fact (FullFact p) = FullFact (map mend_part p)
mend_fact (CaseFact p component) = CaseFact (map mend_part p) (mend_part component)

abbrev pub mend_shape : Shape → Shape
mend_shape (Names names) = Names (map mend_part names)
mend_shape (Fields fs) = Fields (map mend_field fs)
mend_shape (Cases fs) = Cases (map mend_field fs)
mend_shape (Rows row keys) = Rows (mend_name row) (map mend_part keys)
mend_shape (Inport message facts) = Inport (mend_name message) (map mend_fact facts)
mend_shape (Outport port) = Outport (mend_name port)
mend_shape (CallMessage params raises) = CallMessage (map mend_param params) (map mend_raising raises)

abbrev pub mend_item : Item → Item
mend_item (TypeItem name s) = TypeItem (mend_name name) (mend_shape s)
mend_item (ExceptionItem name) = ExceptionItem (mend_name name)

abbrev pub mend_module : Module → Module
mend_module (Definitions name items) = Definitions (mend_name name) (map mend_item items)
mend_module (Process name port vars body) = Process (mend_name name) (mend_field port) (map mend_field vars) (mend_statements body)

-- ---- what they spell

dotted_mended : (ps : List Letters) → dotted (map mend_part ps) ≡ map mend (dotted ps)
dotted_mended ps = many_mended mend_part (λ p. Sign Dot ∷ part p ∷ []) (λ p. ap (λ x. Sign Dot ∷ x ∷ []) (part_mended p)) ps

path_mended : (p : Path) → path (mend_path p) ≡ map mend (path p)
path_mended [] = refl
path_mended (variable ∷ ps) = ap (Identifier (mend_name variable) ∷◌) (dotted_mended ps)

literal_mended : (l : Literal) → literal (mend_literal l) ≡ map mend (literal l)
literal_mended (Integer n) = refl
literal_mended (Text t) = refl
literal_mended (Boolean true) = refl
literal_mended (Boolean false) = refl
literal_mended (Tag name value) = ap (λ x. Identifier (mend_name name) ∷ hash ∷ x ∷ []) (part_mended value)

atom_mended : (a : Atom) → atom (mend_atom a) ≡ map mend (atom a)
atom_mended (Constant l) = literal_mended l
atom_mended (Place p) = path_mended p

atoms_mended : (list : List Atom) → atoms (map mend_atom list) ≡ map mend (atoms list)
atoms_mended list = separated_mended Comma mend_atom atom atom_mended list

mutual
  expression_mended : (e : Expression) → expression (mend_expression e) ≡ map mend (expression e)
  expression_mended (Chain first rest) = joined _ _ (expression_mended first) (operands_mended rest)
  expression_mended (Compare left right) = joined _ _ (expression_mended left) (comparison_mended right)
  expression_mended (Unary None p) = primary_mended p
  expression_mended (Unary (Some operator) p) = ap (mend operator ∷◌) (primary_mended p)

  operands_mended : (rest : Operands) → operands (mend_operands rest) ≡ map mend (operands rest)
  operands_mended NoOperand = refl
  operands_mended (Operand operator e rest) = ap (mend operator ∷◌) (joined _ _ (expression_mended e) (operands_mended rest))

  comparison_mended : (right : Comparison) → comparison (mend_comparison right) ≡ map mend (comparison right)
  comparison_mended NoComparison = refl
  comparison_mended (With operator e) = ap (mend operator ∷◌) (expression_mended e)

  primary_mended : (p : Primary) → primary (mend_primary p) ≡ map mend (primary p)
  primary_mended (Simple a) = atom_mended a
  primary_mended (Size p) = ap (λ t. kw_size ∷ paren_open ∷ t) (joined _ _ (path_mended p) refl)
  primary_mended (Paren e) = ap (paren_open ∷◌) (joined _ _ (expression_mended e) refl)
  primary_mended (TextOf e) = ap (λ t. kw_text ∷ paren_open ∷ t) (joined _ _ (expression_mended e) refl)
  primary_mended (LengthOf e) = ap (λ t. kw_length ∷ paren_open ∷ t) (joined _ _ (expression_mended e) refl)

mutual
  statement_mended : (s : Statement) → statement (mend_statement s) ≡ map mend (statement s)
  statement_mended (Assign x e) = joined _ _ (path_mended x) (ap (becomes ∷◌) (joined _ _ (expression_mended e) refl))
  statement_mended (Move y x) = ap (kw_move ∷◌) (joined _ _ (path_mended y) (ap (kw_to ∷◌) (joined _ _ (path_mended x) refl)))
  statement_mended (Unite v y) = ap (kw_unite ∷◌) (joined _ _ (path_mended v) (ap (kw_from ∷◌) (joined _ _ (path_mended y) refl)))
  statement_mended (Dissolve v y) = ap (kw_dissolve ∷◌) (joined _ _ (path_mended v) (ap (kw_into ∷◌) (joined _ _ (path_mended y) refl)))
  statement_mended (Wrap y p) = ap (kw_wrap ∷◌) (joined _ _ (path_mended y) (ap (kw_as ∷◌) (joined _ _ (path_mended p) refl)))
  statement_mended (Insert r t) = ap (kw_insert ∷◌) (joined _ _ (path_mended r) (ap (kw_into ∷◌) (joined _ _ (path_mended t) refl)))
  statement_mended (Connect o i) = ap (kw_connect ∷◌) (joined _ _ (path_mended o) (ap (kw_to ∷◌) (joined _ _ (path_mended i) refl)))
  statement_mended (Send x o) = ap (kw_send ∷◌) (joined _ _ (path_mended x) (ap (kw_to ∷◌) (joined _ _ (path_mended o) refl)))
  statement_mended (Receive x i) = ap (kw_receive ∷◌) (joined _ _ (path_mended x) (ap (kw_from ∷◌) (joined _ _ (path_mended i) refl)))
  statement_mended (New x) = ap (kw_new ∷◌) (joined _ _ (path_mended x) refl)
  statement_mended (Discard x) = ap (kw_discard ∷◌) (joined _ _ (path_mended x) refl)
  statement_mended (Reveal v) = ap (kw_reveal ∷◌) (joined _ _ (path_mended v) refl)
  statement_mended (Remove r t keys) = ap (kw_remove ∷◌) (joined _ _ (path_mended r) (ap (kw_from ∷◌) (joined _ _ (path_mended t) (ap (bracket_open ∷◌) (joined _ _ (atoms_mended keys) refl)))))
  statement_mended (Get r t keys) = ap (kw_get ∷◌) (joined _ _ (path_mended r) (ap (kw_from ∷◌) (joined _ _ (path_mended t) (ap (bracket_open ∷◌) (joined _ _ (atoms_mended keys) refl)))))
  statement_mended (Unwrap p name y) = ap (kw_unwrap ∷◌) (joined _ _ (path_mended p) (ap (λ t. kw_as ∷ Identifier (mend_name name) ∷ kw_into ∷ t) (joined _ _ (path_mended y) refl)))
  statement_mended (Call o arguments) = ap (kw_call ∷◌) (joined _ _ (path_mended o) (ap (paren_open ∷◌) (joined _ _ (atoms_mended arguments) refl)))
  statement_mended (Return m) = ap (kw_return ∷◌) (joined _ _ (path_mended m) refl)
  statement_mended (ReturnBy m name) = ap (kw_return ∷◌) (joined _ _ (path_mended m) refl)
  statement_mended (Create o name) = ap (kw_create ∷◌) (joined _ _ (path_mended o) refl)
  statement_mended (Raise name) = refl
  statement_mended Leave = refl
  statement_mended (Case v arms) = ap (kw_case ∷◌) (joined _ _ (path_mended v) (ap (brace_open ∷◌) (joined _ _ (case_arms_mended arms) refl)))
  statement_mended (For r t body) = ap (kw_for ∷◌) (joined _ _ (path_mended r) (ap (kw_in ∷◌) (joined _ _ (path_mended t) (ap (brace_open ∷◌) (joined _ _ (statements_mended body) refl)))))
  statement_mended (Select arms) = ap (λ t. kw_select ∷ brace_open ∷ t) (joined _ _ (port_arms_mended arms) refl)
  statement_mended (If e body other) = ap (kw_if ∷◌) (joined _ _ (expression_mended e) (ap (brace_open ∷◌) (joined _ _ (statements_mended body) (ap (brace_close ∷◌) (otherwise_mended other)))))
  statement_mended (While e body) = ap (kw_while ∷◌) (joined _ _ (expression_mended e) (ap (brace_open ∷◌) (joined _ _ (statements_mended body) refl)))
  statement_mended (Try body handled) = ap (λ t. kw_try ∷ brace_open ∷ t) (joined _ _ (statements_mended body) (ap (brace_close ∷◌) (handlers_mended handled)))

  statements_mended : (body : Statements) → statements (mend_statements body) ≡ map mend (statements body)
  statements_mended NoStatement = refl
  statements_mended (Further s others) = joined _ _ (statement_mended s) (statements_mended others)

  case_arms_mended : (arms : Arms) → case_arms (mend_case_arms arms) ≡ map mend (case_arms arms)
  case_arms_mended NoArm = refl
  case_arms_mended (Arm component body others) =
      joined (kw_when ∷ part component ∷ brace_open ∷ statements body ++ brace_close ∷ []) (case_arms others)
      (ap₂ (λ x t. kw_when ∷ x ∷ brace_open ∷ t) (part_mended component) (joined (statements body) (brace_close ∷ []) (statements_mended body) refl)) (case_arms_mended others)

  port_arms_mended : (arms : PortArms) → port_arms (mend_port_arms arms) ≡ map mend (port_arms arms)
  port_arms_mended NoPortArm = refl
  port_arms_mended (PortArm port target body others) =
      joined (kw_when ∷ path port ++ (kw_receive ∷ path target ++ (brace_open ∷ statements body ++ (brace_close ∷ [])))) (port_arms others)
      (ap (kw_when ∷◌) (joined (path port) (kw_receive ∷ path target ++ (brace_open ∷ statements body ++ (brace_close ∷ []))) (path_mended port)
      (ap (kw_receive ∷◌) (joined (path target) (brace_open ∷ statements body ++ (brace_close ∷ [])) (path_mended target)
      (ap (brace_open ∷◌) (joined (statements body) (brace_close ∷ []) (statements_mended body) refl)))))) (port_arms_mended others)

  handlers_mended : (arms : Arms) → handlers (mend_handlers arms) ≡ map mend (handlers arms)
  handlers_mended NoArm = refl
  handlers_mended (Arm name body others) =
      joined (kw_on ∷ Identifier name ∷ brace_open ∷ statements body ++ brace_close ∷ []) (handlers others)
      (ap (λ t. kw_on ∷ Identifier (mend_name name) ∷ brace_open ∷ t) (joined (statements body) (brace_close ∷ []) (statements_mended body) refl)) (handlers_mended others)

  otherwise_mended : (other : Otherwise) → otherwise (mend_otherwise other) ≡ map mend (otherwise other)
  otherwise_mended NoElse = refl
  otherwise_mended (Else body) = ap (λ t. kw_else ∷ brace_open ∷ t) (joined _ _ (statements_mended body) refl)

field_mended : (f : Field) → field (mend_field f) ≡ map mend (field f)
field_mended f = ap (λ x. x ∷ colon ∷ Identifier (mend_name f.1) ∷ []) (part_mended f.0)

fields_mended : (fs : List Field) → fields (map mend_field fs) ≡ map mend (fields fs)
fields_mended fs = separated_mended Comma mend_field field field_mended fs

one_part : (p : Letters) → part (mend_part p) ∷ [] ≡ map mend (part p ∷ [])
one_part p = ap (λ x. x ∷ []) (part_mended p)

parts_mended : (names : List Letters) → parts (map mend_part names) ≡ map mend (parts names)
parts_mended names = separated_mended Comma mend_part (λ p. part p ∷ []) one_part names

fact_path_mended : (names : List Letters) → fact_path (map mend_part names) ≡ map mend (fact_path names)
fact_path_mended names = separated_mended Dot mend_part (λ p. part p ∷ []) one_part names

param_mended : (p : Param) → param (mend_param p) ≡ map mend (param p)
param_mended (In, f) = ap (kw_in ∷◌) (field_mended f)
param_mended (Inout, f) = ap (kw_inout ∷◌) (field_mended f)
param_mended (Out, f) = ap (kw_out ∷◌) (field_mended f)

fact_mended : (f : DeclaredFact) → declared_fact (mend_fact f) ≡ map mend (declared_fact f)
fact_mended (InitFact p) = ap (λ t. kw_init ∷ paren_open ∷ t) (joined _ _ (fact_path_mended p) refl)
fact_mended (FullFact p) = ap (λ t. kw_full ∷ paren_open ∷ t) (joined _ _ (fact_path_mended p) refl)
fact_mended (CaseFact p component) = ap (λ t. kw_case ∷ paren_open ∷ t) (joined _ _ (joined _ _ (fact_path_mended p) (ap (comma ∷◌) (one_part component))) refl)

facts_mended : (fs : List DeclaredFact) → declared_facts (map mend_fact fs) ≡ map mend (declared_facts fs)
facts_mended [] = refl
facts_mended (f ∷ fs) = ap (brace_open ∷◌) (joined (separated_spelling comma declared_fact (f ∷ fs)) (brace_close ∷ []) (separated_mended Comma mend_fact declared_fact fact_mended (f ∷ fs)) refl)

keep_mended : (p : Letters) → kw_full ∷ paren_open ∷ part (mend_part p) ∷ paren_close ∷ [] ≡ map mend (kw_full ∷ paren_open ∷ part p ∷ paren_close ∷ [])
keep_mended p = ap (λ x. kw_full ∷ paren_open ∷ x ∷ paren_close ∷ []) (part_mended p)

kept_mended : (ps : List Letters) → kept (map mend_part ps) ≡ map mend (kept ps)
kept_mended [] = refl
kept_mended (p ∷ ps) = ap (brace_open ∷◌) (joined (separated_spelling comma (λ k. kw_full ∷ paren_open ∷ part k ∷ paren_close ∷ []) (p ∷ ps)) (brace_close ∷ []) (separated_mended Comma mend_part (λ k. kw_full ∷ paren_open ∷ part k ∷ paren_close ∷ []) keep_mended (p ∷ ps)) refl)

raising_mended : (r : Raising) → raising (mend_raising r) ≡ map mend (raising r)
raising_mended r = ap (Identifier (mend_name r.0) ∷◌) (kept_mended r.1)

raisings_mended : (rs : List Raising) → raisings (map mend_raising rs) ≡ map mend (raisings rs)
raisings_mended [] = refl
raisings_mended (r ∷ rs) = ap (λ t. kw_raises ∷ paren_open ∷ t) (joined (separated_spelling comma raising (r ∷ rs)) (paren_close ∷ []) (separated_mended Comma mend_raising raising raising_mended (r ∷ rs)) refl)

shape_mended : (s : Shape) → shape (mend_shape s) ≡ map mend (shape s)
shape_mended (Names names) = ap (λ t. kw_enum ∷ brace_open ∷ t) (joined _ _ (parts_mended names) refl)
shape_mended (Fields fs) = ap (λ t. kw_record ∷ brace_open ∷ t) (joined _ _ (fields_mended fs) refl)
shape_mended (Cases fs) = ap (λ t. kw_variant ∷ brace_open ∷ t) (joined _ _ (fields_mended fs) refl)
shape_mended (Rows row keys) = ap (λ t. kw_table ∷ kw_of ∷ Identifier (mend_name row) ∷ kw_key ∷ paren_open ∷ t) (joined _ _ (parts_mended keys) refl)
shape_mended (Inport message facts) = ap (λ t. kw_inport ∷ kw_of ∷ Identifier (mend_name message) ∷ t) (facts_mended facts)
shape_mended (Outport port) = refl
shape_mended (CallMessage params raises) =
    ap (λ t. kw_callmessage ∷ paren_open ∷ t) (joined _ _ (joined _ _ (separated_mended Comma mend_param param param_mended params) refl) (raisings_mended raises))

item_mended : (i : Item) → item (mend_item i) ≡ map mend (item i)
item_mended (TypeItem name s) = ap (λ t. kw_type ∷ Identifier (mend_name name) ∷ equal ∷ t) (joined _ _ (shape_mended s) refl)
item_mended (ExceptionItem name) = refl

variables_mended : (vs : List Field) → variables (map mend_field vs) ≡ map mend (variables vs)
variables_mended [] = refl
variables_mended (v ∷ vs) = ap (kw_var ∷◌) (joined (fields (v ∷ vs)) (semicolon ∷ []) (fields_mended (v ∷ vs)) refl)

module_mended : (m : Module) → module_symbols (mend_module m) ≡ map mend (module_symbols m)
module_mended (Definitions name items) = ap (λ t. kw_definitions ∷ Identifier (mend_name name) ∷ brace_open ∷ t) (joined _ _ (many_mended mend_item item item_mended items) refl)
module_mended (Process name port vars body) =
    ap (λ t. kw_process ∷ Identifier (mend_name name) ∷ paren_open ∷ t)
    (joined (field port ++ paren_close ∷ []) (brace_open ∷ (variables vars ++ statements body) ++ brace_close ∷ []) (joined (field port) (paren_close ∷ []) (field_mended port) refl)
    (ap (brace_open ∷◌) (joined (variables vars ++ statements body) (brace_close ∷ []) (joined (variables vars) (statements body) (variables_mended vars) (statements_mended body)) refl)))

pub file_mended : (modules : List Module) → file (map mend_module modules) ≡ map mend (file modules)
file_mended modules = many_mended mend_module module_symbols module_mended modules
