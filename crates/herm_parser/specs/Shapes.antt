-- The readers of the shapes of types, and what they are made of: language reference, "Shapes".
use Rattle.std.specs.Prelude.{List}
use Rattle.herm_readers.specs.Reader.{Reader}
use Rattle.herm_readers.specs.Combinators.{one, sequence, preceded, terminated}
use Rattle.herm_syntax.specs.Symbols.{Symbol, is, paren_close, semicolon, equal}
use Rattle.herm_syntax.specs.KeywordSymbols.{kw_callmessage, kw_enum, kw_exception, kw_full, kw_inport, kw_key, kw_of, kw_outport, kw_record, kw_table, kw_type, kw_variant}
use Rattle.herm_syntax.specs.Trees.{Letters, Field, Mode, Param, Raising, DeclaredFact, Shape}
use Rattle.herm_syntax.specs.ReadExpressions.{read_name, read_part, in_parens}
use Rattle.herm_syntax.specs.ReadStatements.{in_braces, listed}
use Rattle.herm_syntax.specs.ReadModules.{pick_mode, read_param, read_parts, read_fields, read_facts, read_raisings, read_shape}

abbrev pub read_mode : Reader Symbol Mode
read_mode = one pick_mode

abbrev pub read_keep : Reader Symbol Letters
read_keep = preceded (is kw_full) (in_parens read_part)

unfoldable pub names_at : Reader Symbol (List Letters)
names_at = preceded (is kw_enum) (in_braces read_parts)

unfoldable pub fields_at : Reader Symbol (List Field)
fields_at = preceded (is kw_record) (in_braces read_fields)

unfoldable pub cases_at : Reader Symbol (List Field)
cases_at = preceded (is kw_variant) (in_braces read_fields)

unfoldable pub rows_at : Reader Symbol (Letters × List Letters)
rows_at = preceded (is kw_table) (preceded (is kw_of) (sequence read_name (preceded (is kw_key) (in_parens read_parts))))

unfoldable pub inport_at : Reader Symbol (Letters × List DeclaredFact)
inport_at = preceded (is kw_inport) (preceded (is kw_of) (sequence read_name read_facts))

unfoldable pub outport_at : Reader Symbol Letters
outport_at = preceded (is kw_outport) (preceded (is kw_of) read_name)

unfoldable pub callmessage_at : Reader Symbol (List Param × List Raising)
callmessage_at = preceded (is kw_callmessage) (sequence (in_parens (listed paren_close read_param)) read_raisings)

unfoldable pub shape_at : Reader Symbol Shape
shape_at = read_shape

unfoldable pub type_at : Reader Symbol (Letters × Shape)
type_at = preceded (is kw_type) (sequence read_name (preceded (is equal) (terminated (is semicolon) shape_at)))

unfoldable pub exception_at : Reader Symbol Letters
exception_at = preceded (is kw_exception) (terminated (is semicolon) read_name)
