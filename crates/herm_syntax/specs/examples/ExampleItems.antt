-- Computed examples: items and modules beside the symbols that they spell.
use Rattle.std.specs.Prelude.{◌≡◌, List, [], ◌∷◌, codes}
use Rattle.herm_syntax.specs.Symbols.{Symbol, paren_open, paren_close, brace_open, brace_close, comma, semicolon, colon, dot, equal}
use Rattle.herm_syntax.specs.KeywordSymbols.{kw_callmessage, kw_case, kw_definitions, kw_enum, kw_exception, kw_full, kw_in, kw_init, kw_inout, kw_inport, kw_key, kw_leave, kw_of, kw_out, kw_outport, kw_process, kw_raises, kw_record, kw_table, kw_type, kw_var, kw_variant}
use Rattle.herm_syntax.specs.Trees.{NoStatement, Further, In, Inout, InitFact, FullFact, CaseFact, Names, Fields, Cases, Rows, Inport, Outport, CallMessage, Item, TypeItem, ExceptionItem, Module, Definitions, Process}
use Rattle.herm_syntax.specs.Spelling.{item, module_symbols}
use Rattle.herm_syntax.specs.examples.ExampleNames.{a, b, c, d, e, f, variable, left}

abbrev pub enum_example : Item
enum_example = TypeItem a (Names (b ∷ codes "out" ∷ []))

abbrev pub fields_example : Item
fields_example = TypeItem a (Fields ((b, c) ∷ []))

abbrev pub cases_example : Item
cases_example = TypeItem a (Cases ((b, c) ∷ (d, e) ∷ []))

abbrev pub rows_example : Item
rows_example = TypeItem a (Rows b (c ∷ []))

abbrev pub inport_example : Item
inport_example = TypeItem a (Inport b [])

abbrev pub facts_example : Item
facts_example = TypeItem a (Inport b (InitFact (c ∷ []) ∷ FullFact (c ∷ d ∷ []) ∷ CaseFact (e ∷ []) f ∷ []))

abbrev pub outport_example : Item
outport_example = TypeItem a (Outport b)

abbrev pub callmessage_example : Item
callmessage_example = TypeItem a (CallMessage ((In, (b, c)) ∷ (Inout, (d, e)) ∷ []) ((f, d ∷ []) ∷ (a, []) ∷ []))

abbrev pub exception_example : Item
exception_example = ExceptionItem a

abbrev pub small_process : Module
small_process = Process a (b, c) ((d, e) ∷ []) (Further left NoStatement)

abbrev pub small_process_symbols : List Symbol
small_process_symbols = kw_process ∷ variable a ∷ paren_open ∷ variable b ∷ colon ∷ variable c ∷ paren_close ∷ brace_open ∷ kw_var ∷ variable d ∷ colon ∷ variable e ∷ semicolon ∷ kw_leave ∷ semicolon ∷ brace_close ∷ []

pub record Items : Type 0 where
  -- type a = enum { b, out };
  pub enum : item enum_example ≡ kw_type ∷ variable a ∷ equal ∷ kw_enum ∷ brace_open ∷ variable b ∷ comma ∷ kw_out ∷ brace_close ∷ semicolon ∷ []
  -- type a = record { b: c };
  pub fields : item fields_example ≡ kw_type ∷ variable a ∷ equal ∷ kw_record ∷ brace_open ∷ variable b ∷ colon ∷ variable c ∷ brace_close ∷ semicolon ∷ []
  -- type a = variant { b: c, d: e };
  pub cases : item cases_example ≡ kw_type ∷ variable a ∷ equal ∷ kw_variant ∷ brace_open ∷ variable b ∷ colon ∷ variable c ∷ comma ∷ variable d ∷ colon ∷ variable e ∷ brace_close ∷ semicolon ∷ []
  -- type a = table of b key (c);
  pub rows : item rows_example ≡ kw_type ∷ variable a ∷ equal ∷ kw_table ∷ kw_of ∷ variable b ∷ kw_key ∷ paren_open ∷ variable c ∷ paren_close ∷ semicolon ∷ []
  -- type a = inport of b;
  pub inport : item inport_example ≡ kw_type ∷ variable a ∷ equal ∷ kw_inport ∷ kw_of ∷ variable b ∷ semicolon ∷ []
  -- type a = inport of b { init(c), full(c.d), case(e, f) };
  pub facts : item facts_example ≡
      kw_type ∷ variable a ∷ equal ∷ kw_inport ∷ kw_of ∷ variable b ∷ brace_open ∷ kw_init ∷ paren_open ∷ variable c ∷ paren_close ∷ comma ∷ kw_full ∷ paren_open ∷ variable c ∷ dot ∷ variable d ∷ paren_close ∷ comma ∷
      kw_case ∷ paren_open ∷ variable e ∷ comma ∷ variable f ∷ paren_close ∷ brace_close ∷ semicolon ∷ []
  -- type a = outport of b;
  pub outport : item outport_example ≡ kw_type ∷ variable a ∷ equal ∷ kw_outport ∷ kw_of ∷ variable b ∷ semicolon ∷ []
  -- type a = callmessage (in b: c, inout d: e) raises (f { full(d) }, a);
  pub callmessage : item callmessage_example ≡
      kw_type ∷ variable a ∷ equal ∷ kw_callmessage ∷ paren_open ∷ kw_in ∷ variable b ∷ colon ∷ variable c ∷ comma ∷ kw_inout ∷ variable d ∷ colon ∷ variable e ∷ paren_close ∷
      kw_raises ∷ paren_open ∷ variable f ∷ brace_open ∷ kw_full ∷ paren_open ∷ variable d ∷ paren_close ∷ brace_close ∷ comma ∷ variable a ∷ paren_close ∷ semicolon ∷ []
  -- exception a;
  pub exception : item exception_example ≡ kw_exception ∷ variable a ∷ semicolon ∷ []
  -- definitions a { exception b; }
  pub definitions : module_symbols (Definitions a (ExceptionItem b ∷ [])) ≡ kw_definitions ∷ variable a ∷ brace_open ∷ kw_exception ∷ variable b ∷ semicolon ∷ brace_close ∷ []
  -- process a(b: c) { var d: e; leave; }
  pub process : module_symbols small_process ≡ small_process_symbols
