-- The words behind the codes of refusals. Language reference, "Refusals".
use Rattle.std.specs.Prelude.{ℕ, List, codes}
use Rattle.herm_compile.specs.declared.phase.FileFault.{FileFault}
use Rattle.herm_compile.specs.declared.phase.FileFault.TheVariants.{Byte, Token as NoToken, TooLong, Syntax, Nesting}
use Rattle.herm_meaning.specs.DefinitionFaults.{Code, unknown, twice, cycle, deep, bad_key, bad_state}
use Rattle.herm_naming.specs.StatementFaults as naming

abbrev pub fault_words : FileFault → List ℕ
fault_words (Byte offset) = codes "byte"
fault_words (NoToken offset) = codes "token"
fault_words (TooLong offset) = codes "too long"
fault_words (Syntax offset) = codes "syntax"
fault_words (Nesting offset) = codes "nesting"

abbrev pub definition_words : Code → List ℕ
definition_words unknown = codes "unknown"
definition_words twice = codes "twice"
definition_words cycle = codes "cycle"
definition_words deep = codes "deep"
definition_words bad_key = codes "bad key"
definition_words bad_state = codes "bad state"

abbrev pub name_words : naming.Code → List ℕ
name_words naming.unknown = codes "unknown"
name_words naming.twice = codes "twice"
name_words naming.wrong_type = codes "type"
name_words naming.not_copyable = codes "not copyable"
name_words naming.unreachable = codes "unreachable"
name_words naming.no_main = codes "no main"
name_words naming.too_many = codes "too many"
