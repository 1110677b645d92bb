-- What the answers leave of an instruction that makes a port or a process.
use Rattle.std.proofs.Common.{◌≡◌, ℕ, suc, Option, Some, sym, subst}
use Rattle.std.specs.Prelude.{⊤}
use Rattle.herm_model.specs.Outcomes.{Outcome, ok}
use Rattle.herm_model.specs.Paths.{Path}
use Rattle.herm_model.specs.Values.{an_inport, an_outport, cell, no_parts}
use Rattle.herm_journal.specs.Actions.{make_port, make_process}
use Rattle.herm_journal.specs.Renaming.{forget_name}
use Rattle.herm_forms.specs.Exchanges.{create, new_inport}
use Rattle.herm_forms.specs.Frames.{Frame, putting}
use Rattle.herm_frames.specs.Completed.{Completes}
use Rattle.herm_frames.specs.HeldFrames.{HeldFrame}

pub port_made : (made : Option ℕ) (n : ℕ) (x : Path) (s : Frame ⊤) (f : HeldFrame) (r : Option Outcome) → made ≡ Some n → Completes r f (putting x ok (cell tt (an_inport n) no_parts) (record s { serial = suc s.serial }))
    → Completes r f (new_inport forget_name x (make_port made) s)
port_made made n x s f r is h = subst (λ m. Completes r f (new_inport forget_name x (make_port m) s)) (sym is) h

pub process_made : (made : Option (ℕ × ℕ)) (n p : ℕ) (x : Path) (s : Frame ⊤) (code : ℕ) (f : HeldFrame) (r : Option Outcome) → made ≡ Some (n, p) → Completes r f (putting x ok (cell tt (an_outport p) no_parts) (record s { serial = suc (suc s.serial) }))
    → Completes r f (create forget_name x (make_process code made) s)
process_made made n p x s code f r is h = subst (λ m. Completes r f (create forget_name x (make_process code m) s)) (sym is) h
