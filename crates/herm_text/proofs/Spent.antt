-- The first process that a limit stopped.
use Rattle.std.proofs.Common.{◌≡◌, ℕ, List, [], ◌++◌, refl}
use Rattle.herm_journal.specs.Entries.{Text}
use Rattle.herm_system.specs.Statuses.{spent_line}
use Rattle.herm_system.specs.TextLines.{first_line}
use Rattle.herm_report.specs.View.{spent_view, end_view}
use Rattle.herm_report.specs.declared.report.End.{End}
use Rattle.herm_report.specs.declared.report.End.TheVariants.{Normal, By}
use Rattle.herm_report.specs.declared.report.Spent.{Spent}
use Rattle.herm_report.specs.declared.report.Spent.TheVariants.{Steps, Actions}

pub spent_first : (p : ℕ) (s : Spent) (more rest : List Text) → first_line ((spent_line (p, spent_view s) ++ more) ++ rest) ≡ first_line (spent_line (p, spent_view s) ++ rest)
spent_first p (Steps n) more rest = refl
spent_first p (Actions n) more rest = refl

pub none_spent : (p : ℕ) (e : End) → spent_line (p, end_view e) ≡ []
none_spent p Normal = refl
none_spent p (By e) = refl
