-- The symbols that each tree spells: language reference, "Grammar". One clause for each alternative.
use Rattle.std.specs.Prelude.{true, false, List, [], ◌∷◌, ◌++◌, Option, Some, None}
use Rattle.herm_readers.specs.Combinators.{many_spelling, separated_spelling}
use Rattle.herm_alphabet.specs.KeywordLetters.{keyword_of}
use Rattle.herm_alphabet.specs.declared.keyword.Keyword.{Keyword}
use Rattle.herm_syntax.specs.Symbols.{Symbol, Key, Identifier, Number, Quoted, paren_open, paren_close, brace_open, brace_close, bracket_open, bracket_close, comma, semicolon, colon, becomes, dot, hash, equal}
use Rattle.herm_syntax.specs.KeywordSymbols.{kw_as, kw_call, kw_callmessage, kw_case, kw_connect, kw_create, kw_definitions, kw_discard, kw_dissolve, kw_else, kw_enum, kw_exception, kw_false, kw_for, kw_from, kw_full, kw_get, kw_if, kw_in, kw_init, kw_inout, kw_inport, kw_insert, kw_into, kw_key, kw_leave, kw_length, kw_move, kw_new, kw_of, kw_on, kw_out, kw_outport, kw_process, kw_raise, kw_raises, kw_receive, kw_record, kw_remove, kw_return, kw_reveal, kw_select, kw_send, kw_size, kw_table, kw_text, kw_to, kw_true, kw_try, kw_type, kw_unite, kw_unwrap, kw_var, kw_variant, kw_when, kw_while, kw_wrap}
use Rattle.herm_syntax.specs.Trees.{Letters, Path, Literal, Integer, Text, Boolean, Tag, Atom, Constant, Place, Expression, Chain, Compare, Unary, Operands, NoOperand, Operand, Comparison, NoComparison, With, Primary, Simple, Size, Paren, TextOf, LengthOf, Move, Unite, Dissolve, Wrap, Insert, Connect, Send, Receive, New, Discard, Reveal, Remove, Get, Statement, Assign, Unwrap, Call, Return, ReturnBy, Create, Raise, Leave, Case, For, Select, If, While, Try, Statements, NoStatement, Further, Arms, NoArm, Arm, PortArms, NoPortArm, PortArm, Otherwise, NoElse, Else, Field, Mode, In, Inout, Out, Param, Raising, DeclaredFact, InitFact, FullFact, CaseFact, Shape, Names, Fields, Cases, Rows, Inport, Outport, CallMessage, Item, TypeItem, ExceptionItem, Module, Definitions, Process}

-- A part is a name, or a keyword with the same letters.
abbrev pub part_at : Option Keyword → Letters → Symbol
part_at None letters = Identifier letters
part_at (Some k) letters = Key k

-- A part's symbol: language reference, "Names, parts and paths".
abbrev pub part : Letters → Symbol
part letters = part_at (keyword_of letters) letters

-- Parts, each behind a dot.
abbrev pub dotted : List Letters → List Symbol
dotted parts = many_spelling (λ p. dot ∷ part p ∷ []) parts

-- A variable, and the parts behind it: language reference, "Names, parts and paths".
abbrev pub path : Path → List Symbol
path [] = []
path (variable ∷ parts) = Identifier variable ∷ dotted parts

-- Language reference, "Names, parts and paths".
abbrev pub literal : Literal → List Symbol
literal (Integer n) = Number n ∷ []
literal (Text letters) = Quoted letters ∷ []
literal (Boolean true) = kw_true ∷ []
literal (Boolean false) = kw_false ∷ []
literal (Tag name value) = Identifier name ∷ hash ∷ part value ∷ []

-- A literal or a path: language reference, "Names, parts and paths".
abbrev pub atom : Atom → List Symbol
atom (Constant l) = literal l
atom (Place p) = path p

-- Atoms with commas, none or more.
abbrev pub atoms : List Atom → List Symbol
atoms list = separated_spelling comma atom list

-- Language reference, "Expressions".
abbrev mutual
  pub expression : Expression → List Symbol
  expression (Chain first rest) = expression first ++ operands rest
  expression (Compare left right) = expression left ++ comparison right
  expression (Unary None p) = primary p
  expression (Unary (Some operator) p) = operator ∷ primary p

  pub operands : Operands → List Symbol
  operands NoOperand = []
  operands (Operand operator e rest) = (operator ∷ expression e) ++ operands rest

  pub comparison : Comparison → List Symbol
  comparison NoComparison = []
  comparison (With operator e) = operator ∷ expression e

  pub primary : Primary → List Symbol
  primary (Simple a) = atom a
  primary (Size p) = kw_size ∷ paren_open ∷ path p ++ paren_close ∷ []
  primary (Paren e) = paren_open ∷ expression e ++ paren_close ∷ []
  primary (TextOf e) = kw_text ∷ paren_open ∷ expression e ++ paren_close ∷ []
  primary (LengthOf e) = kw_length ∷ paren_open ∷ expression e ++ paren_close ∷ []

-- Language reference, "Statements".
abbrev mutual
  pub statement : Statement → List Symbol
  statement (Assign x e) = path x ++ (becomes ∷ expression e ++ (semicolon ∷ []))
  statement (Move y x) = kw_move ∷ path y ++ (kw_to ∷ path x ++ (semicolon ∷ []))
  statement (Unite v y) = kw_unite ∷ path v ++ (kw_from ∷ path y ++ (semicolon ∷ []))
  statement (Dissolve v y) = kw_dissolve ∷ path v ++ (kw_into ∷ path y ++ (semicolon ∷ []))
  statement (Wrap y p) = kw_wrap ∷ path y ++ (kw_as ∷ path p ++ (semicolon ∷ []))
  statement (Insert r t) = kw_insert ∷ path r ++ (kw_into ∷ path t ++ (semicolon ∷ []))
  statement (Connect o i) = kw_connect ∷ path o ++ (kw_to ∷ path i ++ (semicolon ∷ []))
  statement (Send x o) = kw_send ∷ path x ++ (kw_to ∷ path o ++ (semicolon ∷ []))
  statement (Receive x i) = kw_receive ∷ path x ++ (kw_from ∷ path i ++ (semicolon ∷ []))
  statement (New x) = kw_new ∷ path x ++ semicolon ∷ []
  statement (Discard x) = kw_discard ∷ path x ++ semicolon ∷ []
  statement (Reveal v) = kw_reveal ∷ path v ++ semicolon ∷ []
  statement (Remove r t keys) = kw_remove ∷ path r ++ (kw_from ∷ path t ++ (bracket_open ∷ atoms keys ++ (bracket_close ∷ semicolon ∷ [])))
  statement (Get r t keys) = kw_get ∷ path r ++ (kw_from ∷ path t ++ (bracket_open ∷ atoms keys ++ (bracket_close ∷ semicolon ∷ [])))
  statement (Unwrap p name y) = kw_unwrap ∷ path p ++ (kw_as ∷ Identifier name ∷ kw_into ∷ path y ++ (semicolon ∷ []))
  statement (Call o arguments) = kw_call ∷ path o ++ (paren_open ∷ atoms arguments ++ (paren_close ∷ semicolon ∷ []))
  statement (Return m) = kw_return ∷ path m ++ semicolon ∷ []
  statement (ReturnBy m name) = kw_return ∷ path m ++ kw_exception ∷ Identifier name ∷ semicolon ∷ []
  statement (Create o name) = kw_create ∷ path o ++ kw_of ∷ Identifier name ∷ semicolon ∷ []
  statement (Raise name) = kw_raise ∷ Identifier name ∷ semicolon ∷ []
  statement Leave = kw_leave ∷ semicolon ∷ []
  statement (Case v arms) = kw_case ∷ path v ++ (brace_open ∷ case_arms arms ++ (brace_close ∷ []))
  statement (For r t body) = kw_for ∷ path r ++ (kw_in ∷ path t ++ (brace_open ∷ statements body ++ (brace_close ∷ [])))
  statement (Select arms) = kw_select ∷ brace_open ∷ port_arms arms ++ brace_close ∷ []
  statement (If e body other) = kw_if ∷ expression e ++ (brace_open ∷ statements body ++ (brace_close ∷ otherwise other))
  statement (While e body) = kw_while ∷ expression e ++ (brace_open ∷ statements body ++ (brace_close ∷ []))
  statement (Try body handled) = kw_try ∷ brace_open ∷ statements body ++ brace_close ∷ handlers handled

  -- One after the other. A block is `{`, statements, `}`.
  pub statements : Statements → List Symbol
  statements NoStatement = []
  statements (Further s others) = statement s ++ statements others

  pub case_arms : Arms → List Symbol
  case_arms NoArm = []
  case_arms (Arm component body others) = (kw_when ∷ part component ∷ brace_open ∷ statements body ++ brace_close ∷ []) ++ case_arms others

  pub port_arms : PortArms → List Symbol
  port_arms NoPortArm = []
  port_arms (PortArm port target body others) = (kw_when ∷ path port ++ (kw_receive ∷ path target ++ (brace_open ∷ statements body ++ (brace_close ∷ [])))) ++ port_arms others

  pub handlers : Arms → List Symbol
  handlers NoArm = []
  handlers (Arm name body others) = (kw_on ∷ Identifier name ∷ brace_open ∷ statements body ++ brace_close ∷ []) ++ handlers others

  pub otherwise : Otherwise → List Symbol
  otherwise NoElse = []
  otherwise (Else body) = kw_else ∷ brace_open ∷ statements body ++ brace_close ∷ []

-- A part, a colon, the type's name: language reference, "Shapes".
abbrev pub field : Field → List Symbol
field f = part f.0 ∷ colon ∷ Identifier f.1 ∷ []

-- How a parameter goes.
abbrev pub mode : Mode → Symbol
mode In = kw_in
mode Inout = kw_inout
mode Out = kw_out

-- A parameter's mode and field: language reference, "Shapes".
abbrev pub param : Param → List Symbol
param p = mode p.0 ∷ field p.1

-- A list in braces, in parentheses; where nothing is written, the list is empty.
abbrev pub braced : List Symbol → List Symbol
braced symbols = brace_open ∷ symbols ++ brace_close ∷ []

abbrev pub parenthesised : List Symbol → List Symbol
parenthesised symbols = paren_open ∷ symbols ++ paren_close ∷ []

-- Parts with commas.
abbrev pub parts : List Letters → List Symbol
parts names = separated_spelling comma (λ p. part p ∷ []) names

-- Fields with commas.
abbrev pub fields : List Field → List Symbol
fields fs = separated_spelling comma field fs

-- The path of a declared fact: parts with dots.
abbrev pub fact_path : List Letters → List Symbol
fact_path names = separated_spelling dot (λ p. part p ∷ []) names

-- Language reference, "Shapes".
abbrev pub declared_fact : DeclaredFact → List Symbol
declared_fact (InitFact p) = kw_init ∷ parenthesised (fact_path p)
declared_fact (FullFact p) = kw_full ∷ parenthesised (fact_path p)
declared_fact (CaseFact p component) = kw_case ∷ parenthesised (fact_path p ++ comma ∷ part component ∷ [])

-- Declared facts in braces, or nothing.
abbrev pub declared_facts : List DeclaredFact → List Symbol
declared_facts [] = []
declared_facts (f ∷ fs) = braced (separated_spelling comma declared_fact (f ∷ fs))

-- A kept parameter is `full(part)`.
abbrev pub kept : List Letters → List Symbol
kept [] = []
kept (p ∷ ps) = braced (separated_spelling comma (λ k. kw_full ∷ parenthesised (part k ∷ [])) (p ∷ ps))

-- An exception that may be raised, and the parameters that it keeps: language reference, "Shapes".
abbrev pub raising : Raising → List Symbol
raising r = Identifier r.0 ∷ kept r.1

-- The exceptions that may be raised, or nothing.
abbrev pub raisings : List Raising → List Symbol
raisings [] = []
raisings (r ∷ rs) = kw_raises ∷ parenthesised (separated_spelling comma raising (r ∷ rs))

-- Language reference, "Shapes".
abbrev pub shape : Shape → List Symbol
shape (Names names) = kw_enum ∷ braced (parts names)
shape (Fields fs) = kw_record ∷ braced (fields fs)
shape (Cases fs) = kw_variant ∷ braced (fields fs)
shape (Rows row keys) = kw_table ∷ kw_of ∷ Identifier row ∷ kw_key ∷ parenthesised (parts keys)
shape (Inport message facts) = kw_inport ∷ kw_of ∷ Identifier message ∷ declared_facts facts
shape (Outport port) = kw_outport ∷ kw_of ∷ Identifier port ∷ []
shape (CallMessage params raises) = kw_callmessage ∷ parenthesised (separated_spelling comma param params) ++ raisings raises

-- Language reference, "Files".
abbrev pub item : Item → List Symbol
item (TypeItem name s) = kw_type ∷ Identifier name ∷ equal ∷ shape s ++ semicolon ∷ []
item (ExceptionItem name) = kw_exception ∷ Identifier name ∷ semicolon ∷ []

-- The declarations of a process, or nothing.
abbrev pub variables : List Field → List Symbol
variables [] = []
variables (v ∷ vs) = kw_var ∷ fields (v ∷ vs) ++ semicolon ∷ []

-- Language reference, "Files".
abbrev pub module_symbols : Module → List Symbol
module_symbols (Definitions name items) = kw_definitions ∷ Identifier name ∷ braced (many_spelling item items)
module_symbols (Process name port vars body) = kw_process ∷ Identifier name ∷ parenthesised (field port) ++ braced (variables vars ++ statements body)

-- A file's modules, one after the other.
abbrev pub file : List Module → List Symbol
file modules = many_spelling module_symbols modules
