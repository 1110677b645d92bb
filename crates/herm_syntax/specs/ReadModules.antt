-- The readers of definitions, processes and files: language reference, "Grammar".
use Rattle.std.specs.Prelude.{ℕ, Bool, true, not, ◌⊎◌, if◌then◌else◌, List, [], Option, Some, None}
use mathlib.Core.Logic.{inl, inr}
use Rattle.herm_readers.specs.Reader.{Reader, Rule}
use Rattle.herm_readers.specs.Combinators.{passes, nothing, one, mapped, sequence, preceded, terminated, choice, many, separated}
use Rattle.herm_syntax.specs.Symbols.{Symbol, is, paren_close, brace_open, comma, semicolon, colon, dot, equal}
use Rattle.herm_syntax.specs.KeywordSymbols.{kw_callmessage, kw_case, kw_definitions, kw_enum, kw_exception, kw_full, kw_in, kw_init, kw_inout, kw_inport, kw_key, kw_of, kw_out, kw_outport, kw_process, kw_raises, kw_record, kw_table, kw_type, kw_var, kw_variant}
use Rattle.herm_syntax.specs.Trees.{Letters, Statements, Field, Mode, In, Inout, Out, Param, Raising, DeclaredFact, InitFact, FullFact, CaseFact, Shape, Names, Fields, Cases, Rows, Inport, Outport, CallMessage, Item, TypeItem, ExceptionItem, Module, Definitions, Process}
use Rattle.herm_syntax.specs.Spelling.{file}
use Rattle.herm_syntax.specs.Fitting.{file_fits}
use Rattle.herm_syntax.specs.ReadExpressions.{read_name, read_part, in_parens}
use Rattle.herm_syntax.specs.ReadStatements.{in_braces, listed, inside, read_statements}

abbrev pub read_field : Reader Symbol Field
read_field = sequence read_part (preceded (is colon) read_name)

abbrev pub pick_mode : Symbol → Option Mode
pick_mode x = if is kw_in x then Some In else if is kw_inout x then Some Inout else if is kw_out x then Some Out else None

abbrev pub read_param : Reader Symbol Param
read_param = sequence (one pick_mode) read_field

abbrev pub read_parts : Reader Symbol (List Letters)
read_parts = separated (is comma) read_part

abbrev pub read_fields : Reader Symbol (List Field)
read_fields = separated (is comma) read_field

abbrev pub read_fact_path : Reader Symbol (List Letters)
read_fact_path = separated (is dot) read_part

abbrev pub fact_of : List Letters ⊎ (List Letters ⊎ (List Letters × Letters)) → DeclaredFact
fact_of (inl p) = InitFact p
fact_of (inr (inl p)) = FullFact p
fact_of (inr (inr found)) = CaseFact found.0 found.1

abbrev pub read_fact : Reader Symbol DeclaredFact
read_fact = mapped fact_of (choice (is kw_init) (preceded (is kw_init) (in_parens read_fact_path))
    (choice (is kw_full) (preceded (is kw_full) (in_parens read_fact_path)) (preceded (is kw_case) (in_parens (sequence read_fact_path (preceded (is comma) read_part))))))

-- A list that may be left out. Where it is written, it begins with a symbol that passes the test.
abbrev pub written_of : {A : Type 0} → List A ⊎ Unit {0} → List A
written_of (inl items) = items
written_of (inr none) = []

abbrev pub if_written : {A : Type 0} → (Symbol → Bool) → Reader Symbol (List A) → Reader Symbol (List A)
if_written test read = mapped written_of (choice test read nothing)

abbrev pub read_facts : Reader Symbol (List DeclaredFact)
read_facts = if_written (is brace_open) (in_braces (separated (is comma) read_fact))

abbrev pub read_kept : Reader Symbol (List Letters)
read_kept = if_written (is brace_open) (in_braces (separated (is comma) (preceded (is kw_full) (in_parens read_part))))

abbrev pub read_raising : Reader Symbol Raising
read_raising = sequence read_name read_kept

abbrev pub read_raisings : Reader Symbol (List Raising)
read_raisings = if_written (is kw_raises) (preceded (is kw_raises) (in_parens (separated (is comma) read_raising)))

abbrev pub ShapeParts : Type 0
ShapeParts = List Letters ⊎ (List Field ⊎ (List Field ⊎ ((Letters × List Letters) ⊎ ((Letters × List DeclaredFact) ⊎ (Letters ⊎ (List Param × List Raising))))))

abbrev pub shape_of : ShapeParts → Shape
shape_of (inl names) = Names names
shape_of (inr (inl fs)) = Fields fs
shape_of (inr (inr (inl fs))) = Cases fs
shape_of (inr (inr (inr (inl x)))) = Rows x.0 x.1
shape_of (inr (inr (inr (inr (inl x))))) = Inport x.0 x.1
shape_of (inr (inr (inr (inr (inr (inl port)))))) = Outport port
shape_of (inr (inr (inr (inr (inr (inr x)))))) = CallMessage x.0 x.1

abbrev pub read_shape : Reader Symbol Shape
read_shape = mapped shape_of (choice (is kw_enum) (preceded (is kw_enum) (in_braces read_parts))
    (choice (is kw_record) (preceded (is kw_record) (in_braces read_fields))
    (choice (is kw_variant) (preceded (is kw_variant) (in_braces read_fields))
    (choice (is kw_table) (preceded (is kw_table) (preceded (is kw_of) (sequence read_name (preceded (is kw_key) (in_parens read_parts)))))
    (choice (is kw_inport) (preceded (is kw_inport) (preceded (is kw_of) (sequence read_name read_facts)))
    (choice (is kw_outport) (preceded (is kw_outport) (preceded (is kw_of) read_name))
    (preceded (is kw_callmessage) (sequence (in_parens (listed paren_close read_param)) read_raisings))))))))

abbrev pub item_of : (Letters × Shape) ⊎ Letters → Item
item_of (inl x) = TypeItem x.0 x.1
item_of (inr name) = ExceptionItem name

abbrev pub read_item : Reader Symbol Item
read_item = mapped item_of (choice (is kw_type) (preceded (is kw_type) (sequence read_name (preceded (is equal) (terminated (is semicolon) read_shape))))
    (preceded (is kw_exception) (terminated (is semicolon) read_name)))

abbrev pub read_variables : Reader Symbol (List Field)
read_variables = if_written (is kw_var) (preceded (is kw_var) (terminated (is semicolon) read_fields))

abbrev pub module_of : (Letters × List Item) ⊎ (Letters × (Field × (List Field × Statements))) → Module
module_of (inl x) = Definitions x.0 x.1
module_of (inr x) = Process x.0 x.1.0 x.1.1.0 x.1.1.1

abbrev pub read_module : ℕ → Reader Symbol Module
read_module depth = mapped module_of (choice (is kw_definitions) (preceded (is kw_definitions) (sequence read_name (in_braces (many inside read_item))))
    (preceded (is kw_process) (sequence read_name (sequence (in_parens read_field) (in_braces (sequence read_variables (read_statements depth)))))))

-- Modules up to the end of the list.
abbrev pub anything : Symbol → Bool
anything x = true

abbrev pub read_file : ℕ → Reader Symbol (List Module)
read_file depth = many anything (read_module depth)

abbrev pub file_rule : ℕ → Rule Symbol (List Module)
file_rule depth = record { fits = file_fits depth; spelling = file; ends = λ modules beyond. not (passes anything beyond) }
