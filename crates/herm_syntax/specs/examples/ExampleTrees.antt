-- Computed examples: trees beside the symbols that they spell.
use Rattle.std.specs.Prelude.{◌≡◌, pos, true, List, [], ◌∷◌, Some, None, codes, map, false}
use Rattle.herm_readers.specs.BracketBalance.{Opening, Closing, Neither}
use Rattle.herm_readers.specs.Reader.{Read, Fault}
use Rattle.herm_alphabet.specs.KeywordLetters.{keywords as all_keywords, letters as word}
use Rattle.herm_syntax.specs.Symbols.{Symbol, Number, Quoted, paren_open, paren_close, brace_open, brace_close, bracket_open, bracket_close, comma, semicolon, colon, becomes, dot, hash, equal, plus, minus, star, ampersand, unequal, less, at_most, greater, at_least, level, side}
use Rattle.herm_syntax.specs.KeywordSymbols.{kw_and, kw_as, kw_call, kw_callmessage, kw_case, kw_create, kw_definitions, kw_else, kw_enum, kw_exception, kw_for, kw_from, kw_full, kw_get, kw_if, kw_in, kw_init, kw_inout, kw_inport, kw_into, kw_key, kw_leave, kw_length, kw_move, kw_new, kw_of, kw_on, kw_or, kw_out, kw_outport, kw_process, kw_raise, kw_raises, kw_receive, kw_record, kw_return, kw_reveal, kw_select, kw_size, kw_table, kw_text, kw_to, kw_true, kw_try, kw_type, kw_unite, kw_unwrap, kw_var, kw_variant, kw_when, kw_while, kw_wrap, kw_connect, kw_discard, kw_dissolve, kw_div, kw_false, kw_insert, kw_mod, kw_not, kw_remove, kw_send}
use Rattle.herm_syntax.specs.Trees.{Letters, Integer, Text, Boolean, Tag, Constant, Place, Expression, Chain, Compare, Unary, NoOperand, Operand, NoComparison, With, Primary, Simple, Size, Paren, TextOf, LengthOf, Move, Unite, Wrap, New, Reveal, Get, Statement, Assign, Unwrap, Call, Return, ReturnBy, Create, Raise, Case, For, Select, If, While, Try, Statements, NoStatement, Further, NoArm, Arm, NoPortArm, PortArm, Else, Item, Module, Definitions, Process}
use Rattle.herm_syntax.specs.Spelling.{part, expression, statement, file}
use Rattle.herm_syntax.specs.Fitting.{is_sign, file_fits}
use Rattle.herm_syntax.specs.ReadExpressions.{read_expression}
use Rattle.herm_syntax.specs.laws.GrammarLaws.{read_within}
use Rattle.herm_syntax.specs.examples.ExampleNames.{a, b, c, d, e, f, variable, one, left}
use Rattle.herm_syntax.specs.examples.ExampleItems.{enum_example, fields_example, cases_example, rows_example, inport_example, facts_example, outport_example, callmessage_example, exception_example, small_process, small_process_symbols}

-- An operand alone, as an expression of each level.
abbrev pub operand : Letters → Primary
operand letters = Simple (Place (one letters))

abbrev pub as_product : Primary → Expression
as_product p = Chain (Unary None p) NoOperand

abbrev pub as_sum : Primary → Expression
as_sum p = Chain (as_product p) NoOperand

abbrev pub as_comparison : Primary → Expression
as_comparison p = Compare (as_sum p) NoComparison

abbrev pub as_conjunction : Primary → Expression
as_conjunction p = Chain (as_comparison p) NoOperand

abbrev pub as_expression : Primary → Expression
as_expression p = Chain (as_conjunction p) NoOperand

-- a or b and c = d + e * -f
abbrev pub all_levels : Expression
all_levels = Chain (as_conjunction (operand a)) (Operand kw_or
    (Chain (as_comparison (operand b)) (Operand kw_and
    (Compare (as_sum (operand c)) (With equal
    (Chain (as_product (operand d)) (Operand plus
    (Chain (Unary None (operand e)) (Operand star (Unary (Some minus) (operand f)) NoOperand)) NoOperand)))) NoOperand)) NoOperand)

abbrev pub all_levels_symbols : List Symbol
all_levels_symbols = variable a ∷ kw_or ∷ variable b ∷ kw_and ∷ variable c ∷ equal ∷ variable d ∷ plus ∷ variable e ∷ star ∷ minus ∷ variable f ∷ []

pub record Expressions : Type 0 where
  pub levels : expression all_levels ≡ all_levels_symbols
  pub levels_read : read_expression 0 all_levels_symbols ≡ Read all_levels []
  -- ( a )
  pub paren : expression (as_expression (Paren (as_expression (operand a)))) ≡ paren_open ∷ variable a ∷ paren_close ∷ []
  -- text(size(a.key)) & "b"
  pub joined : expression (Chain (Chain (Compare (Chain (as_product (TextOf (as_expression (Size (a ∷ codes "key" ∷ []))))) (Operand ampersand (as_product (Simple (Constant (Text b)))) NoOperand)) NoComparison) NoOperand) NoOperand) ≡
      kw_text ∷ paren_open ∷ kw_size ∷ paren_open ∷ variable a ∷ dot ∷ kw_key ∷ paren_close ∷ paren_close ∷ ampersand ∷ Quoted b ∷ []
  -- length(a#b)
  pub length_of : expression (as_expression (LengthOf (as_expression (Simple (Constant (Tag a b)))))) ≡ kw_length ∷ paren_open ∷ variable a ∷ hash ∷ variable b ∷ paren_close ∷ []
  -- behind a and b nothing goes on
  pub stops : read_expression 0 (variable a ∷ variable b ∷ []) ≡ Read (as_expression (operand a)) (variable b ∷ [])
  -- a or ;
  pub fault : read_expression 0 (variable a ∷ kw_or ∷ semicolon ∷ []) ≡ Fault 1
  -- a or
  pub fault_at_end : read_expression 0 (variable a ∷ kw_or ∷ []) ≡ Fault 0

abbrev pub assign_example : Statement
assign_example = Assign (a ∷ b ∷ []) (as_expression (Simple (Constant (Integer (pos 1)))))

abbrev pub move_example : Statement
move_example = Move (one a) (b ∷ codes "out" ∷ [])

abbrev pub new_example : Statement
new_example = New (one a)

abbrev pub unite_example : Statement
unite_example = Unite (a ∷ b ∷ []) (one c)

abbrev pub reveal_example : Statement
reveal_example = Reveal (a ∷ b ∷ [])

abbrev pub wrap_example : Statement
wrap_example = Wrap (one a) (one b)

abbrev pub unwrap_example : Statement
unwrap_example = Unwrap (one a) b (one c)

abbrev pub get_example : Statement
get_example = Get (one a) (one b) (Place (one c) ∷ Constant (Boolean true) ∷ [])

abbrev pub call_example : Statement
call_example = Call (one a) []

abbrev pub return_example : Statement
return_example = Return (one a)

abbrev pub return_by_example : Statement
return_by_example = ReturnBy (one a) b

abbrev pub create_example : Statement
create_example = Create (one a) b

abbrev pub raise_example : Statement
raise_example = Raise a

abbrev pub case_example : Statement
case_example = Case (one a) (Arm b (Further left NoStatement) (Arm (codes "in") NoStatement NoArm))

abbrev pub select_example : Statement
select_example = Select (PortArm (one a) (one b) NoStatement (PortArm (one c) (one d) (Further left NoStatement) NoPortArm))

abbrev pub try_example : Statement
try_example = Try (Further (Raise a) NoStatement) (Arm a NoStatement (Arm b (Further left NoStatement) NoArm))

abbrev pub for_example : Statement
for_example = For (one a) (one b) NoStatement

abbrev pub if_example : Statement
if_example = If (as_expression (operand a)) (Further left NoStatement) (Else NoStatement)

abbrev pub while_example : Statement
while_example = While (as_expression (operand a)) NoStatement

pub record Plain : Type 0 where
  -- a.b := 1;
  pub assign : statement assign_example ≡ variable a ∷ dot ∷ variable b ∷ becomes ∷ Number (pos 1) ∷ semicolon ∷ []
  -- move a to b.out;
  pub move : statement move_example ≡ kw_move ∷ variable a ∷ kw_to ∷ variable b ∷ dot ∷ kw_out ∷ semicolon ∷ []
  -- new a;
  pub new : statement new_example ≡ kw_new ∷ variable a ∷ semicolon ∷ []
  -- unite a.b from c;
  pub unite : statement unite_example ≡ kw_unite ∷ variable a ∷ dot ∷ variable b ∷ kw_from ∷ variable c ∷ semicolon ∷ []
  -- reveal a.b;
  pub reveal : statement reveal_example ≡ kw_reveal ∷ variable a ∷ dot ∷ variable b ∷ semicolon ∷ []
  -- wrap a as b;
  pub wrap : statement wrap_example ≡ kw_wrap ∷ variable a ∷ kw_as ∷ variable b ∷ semicolon ∷ []
  -- unwrap a as b into c;
  pub unwrap : statement unwrap_example ≡ kw_unwrap ∷ variable a ∷ kw_as ∷ variable b ∷ kw_into ∷ variable c ∷ semicolon ∷ []
  -- get a from b[c, true];
  pub get : statement get_example ≡ kw_get ∷ variable a ∷ kw_from ∷ variable b ∷ bracket_open ∷ variable c ∷ comma ∷ kw_true ∷ bracket_close ∷ semicolon ∷ []
  -- call a();
  pub call : statement call_example ≡ kw_call ∷ variable a ∷ paren_open ∷ paren_close ∷ semicolon ∷ []
  -- return a;
  pub return : statement return_example ≡ kw_return ∷ variable a ∷ semicolon ∷ []
  -- return a exception b;
  pub return_by : statement return_by_example ≡ kw_return ∷ variable a ∷ kw_exception ∷ variable b ∷ semicolon ∷ []
  -- create a of b;
  pub create : statement create_example ≡ kw_create ∷ variable a ∷ kw_of ∷ variable b ∷ semicolon ∷ []
  -- raise a;
  pub raise : statement raise_example ≡ kw_raise ∷ variable a ∷ semicolon ∷ []

pub record Compound : Type 0 where
  -- case a { when b { leave; } when in { } }
  pub case : statement case_example ≡
      kw_case ∷ variable a ∷ brace_open ∷ kw_when ∷ variable b ∷ brace_open ∷ kw_leave ∷ semicolon ∷ brace_close ∷ kw_when ∷ kw_in ∷ brace_open ∷ brace_close ∷ brace_close ∷ []
  -- select { when a receive b { } when c receive d { leave; } }
  pub select : statement select_example ≡
      kw_select ∷ brace_open ∷ kw_when ∷ variable a ∷ kw_receive ∷ variable b ∷ brace_open ∷ brace_close ∷ kw_when ∷ variable c ∷ kw_receive ∷ variable d ∷ brace_open ∷ kw_leave ∷ semicolon ∷ brace_close ∷ brace_close ∷ []
  -- try { raise a; } on a { } on b { leave; }
  pub try : statement try_example ≡
      kw_try ∷ brace_open ∷ kw_raise ∷ variable a ∷ semicolon ∷ brace_close ∷ kw_on ∷ variable a ∷ brace_open ∷ brace_close ∷ kw_on ∷ variable b ∷ brace_open ∷ kw_leave ∷ semicolon ∷ brace_close ∷ []
  -- for a in b { }
  pub for : statement for_example ≡ kw_for ∷ variable a ∷ kw_in ∷ variable b ∷ brace_open ∷ brace_close ∷ []
  -- if a { leave; } else { }
  pub if : statement if_example ≡ kw_if ∷ variable a ∷ brace_open ∷ kw_leave ∷ semicolon ∷ brace_close ∷ kw_else ∷ brace_open ∷ brace_close ∷ []
  -- while a { }
  pub while : statement while_example ≡ kw_while ∷ variable a ∷ brace_open ∷ brace_close ∷ []

pub record Files : Type 0 where
  pub read : read_within 64 small_process_symbols ≡ Read (small_process ∷ []) []
  -- process a(b: c) { leave }
  pub fault : read_within 64 (kw_process ∷ variable a ∷ paren_open ∷ variable b ∷ colon ∷ variable c ∷ paren_close ∷ brace_open ∷ kw_leave ∷ brace_close ∷ []) ≡ Fault 1
  -- process a(
  pub fault_at_end : read_within 64 (kw_process ∷ variable a ∷ paren_open ∷ []) ≡ Fault 0
  pub empty : read_within 64 [] ≡ Read [] []

-- All of them fit, and are read again.
abbrev pub all_statements : Statements
all_statements = Further assign_example (Further move_example (Further new_example (Further unite_example (Further reveal_example (Further wrap_example (Further unwrap_example (Further get_example (Further call_example (Further return_example (Further return_by_example (Further create_example (Further raise_example (Further case_example (Further select_example (Further try_example (Further for_example (Further if_example (Further while_example NoStatement))))))))))))))))))

abbrev pub all_items : List Item
all_items = enum_example ∷ fields_example ∷ cases_example ∷ rows_example ∷ inport_example ∷ facts_example ∷ outport_example ∷ callmessage_example ∷ exception_example ∷ []

abbrev pub all_modules : List Module
all_modules = Definitions a all_items ∷ Process b (c, d) [] all_statements ∷ []

pub record Fitting : Type 0 where
  pub fits : file_fits 2 all_modules ≡ true
  pub read : read_within 64 (file all_modules) ≡ Read all_modules []

-- The keywords' letters, the operators' levels and the brackets.
pub record Words : Type 0 where
  pub letters : map (λ k. part (word k)) all_keywords ≡
      kw_and ∷ kw_as ∷ kw_call ∷ kw_callmessage ∷ kw_case ∷ kw_connect ∷ kw_create ∷ kw_definitions ∷
      kw_discard ∷ kw_dissolve ∷ kw_div ∷ kw_else ∷ kw_enum ∷ kw_exception ∷ kw_false ∷ kw_for ∷ kw_from ∷
      kw_full ∷ kw_get ∷ kw_if ∷ kw_in ∷ kw_init ∷ kw_inout ∷ kw_inport ∷ kw_insert ∷ kw_into ∷ kw_key ∷
      kw_leave ∷ kw_length ∷ kw_mod ∷ kw_move ∷ kw_new ∷ kw_not ∷ kw_of ∷ kw_on ∷ kw_or ∷ kw_out ∷
      kw_outport ∷ kw_process ∷ kw_raise ∷ kw_raises ∷ kw_receive ∷ kw_record ∷ kw_remove ∷ kw_return ∷
      kw_reveal ∷ kw_select ∷ kw_send ∷ kw_size ∷ kw_table ∷ kw_text ∷ kw_to ∷ kw_true ∷ kw_try ∷ kw_type ∷
      kw_unite ∷ kw_unwrap ∷ kw_var ∷ kw_variant ∷ kw_when ∷ kw_while ∷ kw_wrap ∷ []
  pub products : map level (star ∷ kw_div ∷ kw_mod ∷ []) ≡ 1 ∷ 1 ∷ 1 ∷ []
  pub sums : map level (plus ∷ minus ∷ ampersand ∷ []) ≡ 2 ∷ 2 ∷ 2 ∷ []
  pub comparisons : map level (equal ∷ unequal ∷ less ∷ at_most ∷ greater ∷ at_least ∷ []) ≡ 3 ∷ 3 ∷ 3 ∷ 3 ∷ 3 ∷ 3 ∷ []
  pub conjunctions : level kw_and ≡ 4
  pub disjunctions : level kw_or ≡ 5
  pub names : map level (dot ∷ hash ∷ []) ≡ 0 ∷ 0 ∷ []
  pub others : map level (paren_open ∷ paren_close ∷ brace_open ∷ brace_close ∷ bracket_open ∷ bracket_close ∷ comma ∷ semicolon ∷ colon ∷ becomes ∷ kw_not ∷ variable a ∷ Number (pos 1) ∷ Quoted a ∷ []) ≡
      6 ∷ 6 ∷ 6 ∷ 6 ∷ 6 ∷ 6 ∷ 6 ∷ 6 ∷ 6 ∷ 6 ∷ 6 ∷ 6 ∷ 6 ∷ 6 ∷ []
  pub signs : map is_sign (minus ∷ kw_not ∷ plus ∷ kw_and ∷ []) ≡ true ∷ true ∷ false ∷ false ∷ []
  pub brackets : map side (paren_open ∷ paren_close ∷ brace_open ∷ brace_close ∷ bracket_open ∷ bracket_close ∷ comma ∷ kw_in ∷ []) ≡
      Opening ∷ Closing ∷ Opening ∷ Closing ∷ Opening ∷ Closing ∷ Neither ∷ Neither ∷ []
