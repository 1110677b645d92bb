-- What became of process 1.
use Rattle.std.proofs.Common.{◌≡◌, ◌≤◌, List, [], ◌∷◌, length, get_or, Some, ap, sym, arith}
use Rattle.herm_journal.specs.Ports.{first_of}
use Rattle.herm_report.specs.View.{proc_end_view, proc_ends_view}
use Rattle.herm_report.specs.declared.report.ProcEnd.{ProcEnd}

pub first_view : (ends : List ProcEnd) (e : ProcEnd) → 1 ≤ length ends → e ≡ get_or ends 0 e → first_of (proc_ends_view ends) ≡ Some (proc_end_view e)
first_view [] e long is = absurd (omega (arith, long))
first_view (f ∷ ends) e long is = ap (λ e. Some (proc_end_view e)) (sym is)
