-- What the code's types stand for: a table with names, codes and faults.
use Rattle.herm_meaning.specs.DefinitionFaults.{Code, unknown, twice, cycle, deep, bad_key, bad_state, Fault}
use Rattle.herm_defs.specs.declared.fault.DefCode.{DefCode}
use Rattle.herm_defs.specs.declared.fault.DefCode.TheVariants.{Unknown, Twice, Cycle, Deep, BadKey, BadState}
use Rattle.herm_defs.specs.declared.fault.DefFault.{DefFault}
use Rattle.herm_meaning.specs.Names.{NamedTable}
use Rattle.herm_types.specs.Table.{shapes_view}
use Rattle.herm_defs.specs.declared.context.Context.TheInside.{Inside}

abbrev pub def_code_view : DefCode → Code
def_code_view Unknown = unknown
def_code_view Twice = twice
def_code_view Cycle = cycle
def_code_view Deep = deep
def_code_view BadKey = bad_key
def_code_view BadState = bad_state

abbrev pub def_fault_view : DefFault → Fault
def_fault_view f = record { code = def_code_view f.code; module' = f.module; span = f.span }

-- the table that names and shapes are
abbrev pub context_view : Inside → NamedTable
context_view a = record { names = a.types; shapes = shapes_view a.shapes.items; parts = a.parts.items; exceptions = a.exceptions }
