-- All statements of a body as they are written, in the order of the text, compound ones before their parts.
use Rattle.std.specs.Prelude.{List, [], ◌∷◌, ◌++◌, Option, Some, None, Vec}
use Rattle.std.specs.Global.{Global}
use Rattle.herm_syntax.specs.declared.statements.Stmt.{Stmt}
use Rattle.herm_syntax.specs.declared.statements.StmtForm.{StmtForm}
use Rattle.herm_syntax.specs.declared.statements.StmtForm.TheBlock as texts

abbrev mutual
  pub written_within : StmtForm → List Stmt
  written_within (texts.Case' v shape arms) = written_in_arms arms
  written_within (texts.For' r t shape body) = written_in body
  written_within (texts.Select' shape arms) = written_in_port_arms arms
  written_within (texts.If' e shape body other) = written_in body ++ written_otherwise other
  written_within (texts.While' e shape body) = written_in body
  written_within (texts.Try' shape body shape_of_handlers handled) = written_in body ++ written_in_arms handled
  written_within form = []

  pub written_in : {m : _} → texts.Row_of-Stmt m → List Stmt
  written_in texts.end_of-Stmt = []
  written_in (texts.more_of-Stmt number span form rest) = record { no = number; span = span; form = form } ∷ written_within form ++ written_in rest

  pub written_in_arms : {m : _} → texts.Row_of-StmtForm-Case-1-3 m → List Stmt
  written_in_arms texts.end_of-StmtForm-Case-1-3 = []
  written_in_arms (texts.more_of-StmtForm-Case-1-3 name shape body rest) = written_in body ++ written_in_arms rest

  pub written_in_port_arms : {m : _} → texts.Row_of-StmtForm-Select-0-4 m → List Stmt
  written_in_port_arms texts.end_of-StmtForm-Select-0-4 = []
  written_in_port_arms (texts.more_of-StmtForm-Select-0-4 port target shape body rest) = written_in body ++ written_in_port_arms rest

  pub written_otherwise : texts.Held-StmtForm-If-2 → List Stmt
  written_otherwise texts.None' = []
  written_otherwise (texts.Some' shape body) = written_in body

abbrev pub all_written : List Stmt → List Stmt
all_written [] = []
all_written (x ∷ rest) = x ∷ written_within x.form ++ all_written rest

-- the statements of the block behind `else`
abbrev pub items_of : {X : Type 0} → Option (Vec X Global) → List X
items_of None = []
items_of (Some body) = body.items
