-- The same with other names: of a body.
use Rattle.std.specs.Prelude.{map}
use Rattle.herm_model.specs.CellNames.{rename, rename_in}
use Rattle.herm_forms.specs.Frames.{Loop, Frame}

module _ {N M : Type 0} (f : N → M) where
  abbrev pub rename_loop : Loop N → Loop M
  rename_loop l = record { statement = l.statement; rows = rename_in f l.rows }

  abbrev pub rename_body : Frame N → Frame M
  rename_body b = record {
    number = b.number;
    variables = rename_in f b.variables;
    loops = map rename_loop b.loops;
    work = map (rename f) b.work;
    call = b.call;
    calls = b.calls;
    steps = b.steps;
    actions = b.actions;
    serial = b.serial;
    finalised = map f b.finalised;
  }
