-- Programs, and programs made ready to run.
use Rattle.std.specs.Prelude.{ℕ, List}
use Rattle.herm_model.specs.Types.{TypeTable}
use Rattle.herm_model.specs.Statements.{Process}
use Rattle.herm_forms.specs.Modules.{Module}

-- a program's types, and its processes by their numbers, with the number of main
pub record Program : Type 0 where
  pub types : TypeTable
  pub processes : List Process
  pub main : ℕ

-- The same made ready to run: its types, its process modules by number, and the number of main.
pub record Modules : Type 0 where
  pub types : TypeTable
  pub codes : List Module
  pub main : ℕ
