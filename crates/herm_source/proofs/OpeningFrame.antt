-- The frame of a process that begins, before the edge to where its body begins.
use Rattle.std.specs.Prelude.{ℕ, pred, [], None, length}
use Rattle.herm_model.specs.Values.{Cell, part, gaps}
use Rattle.herm_forms.specs.Frames.{Frame}
use Rattle.herm_forms.specs.Modules.{Module}

-- the port in variable 0 and nothing else
abbrev pub opening_frame : {N : Type 0} → Module → (number : ℕ) → Cell N → Frame N
opening_frame c number port = record {
  number = number;
  variables = part port (gaps (pred (length c.variables)));
  loops = [];
  work = [];
  call = None;
  calls = 0;
  steps = 0;
  actions = 0;
  serial = 0;
  finalised = [];
}
