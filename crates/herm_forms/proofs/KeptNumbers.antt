-- Edges, what a statement does and what an answer leaves keep the process's number.
use Rattle.std.proofs.Common.{◌≡◌, ℕ, List, Some}
use Rattle.std.specs.Prelude.{⊤}
use Rattle.herm_model.specs.Paths.{Path}
use Rattle.herm_model.specs.Expressions.{Atom}
use Rattle.herm_model.specs.Statements.{Form}
use Rattle.herm_model.specs.Targets.{Target}
use Rattle.herm_model.specs.Types.{Mode}
use Rattle.herm_model.specs.Values.{Cell, Parts}
use Rattle.herm_journal.specs.Messages.{CellAction}
use Rattle.herm_forms.specs.Frames.{Name, Frame, Completion}
use Rattle.herm_forms.specs.ClosesAndAnswers
use Rattle.herm_forms.specs.Callmessages.{Composed, compose}
use Rattle.herm_forms.specs.EdgeFinalising.{arrive}
use Rattle.herm_forms.specs.Modules.{Module}
use Rattle.herm_forms.specs.Acts.{act, composed, settle, settle_reply}
use Rattle.herm_forms.proofs.KeptBodies
use Rattle.herm_forms.proofs.KeptBodies.{LetsGo, IsKept}

module _ {N : Type 0} (name : Name → N) (n : ℕ) where
  abbrev pub Is : Frame N → Type 0
  Is b = b.number ≡ n

  abbrev pub All : Completion N → Type 0
  All r = KeptBodies.All Is Is r

  lets : LetsGo Is
  lets = record { value = λ c b e. e; parts = λ ps b e. e; name = λ m b e. e }

  numbers : IsKept Is
  numbers = record { letting = lets; variables = λ ps b e. e; serial = λ s b e. e; calls = λ b e. e }

  -- what a local step does
  pub all-act : (c : Module) (s : ℕ) (form : Form) (b : Frame N) → Is b → All (act name c s form b)
  all-act c s form b e = KeptBodies.all-act name Is Is numbers c s form b e (λ _ ls b e. e)

  -- what an edge leaves
  pub is-arrive : (c : Module) (t : Target) (b : Frame N) → Is b → Is (arrive c t b)
  is-arrive c t b e = KeptBodies.is-arrive name Is Is numbers (λ stay b e. e) c t b e

  -- what a call composes
  pub is-compose : (modes : List Mode) (inputs : Parts ⊤) (lost moved : List Path) (b : Frame N) (k : Composed N) → Is b → compose name modes inputs lost moved b ≡ Some k → Is k.frame
  is-compose modes inputs lost moved b k e is = KeptBodies.is-from name Is Is numbers k (KeptBodies.from-compose name Is Is numbers modes inputs lost moved b k e is)

  pub is-composed : (c : Module) (o : Path) (arguments : List Atom) (b : Frame N) (k : Composed N) → Is b → composed name c o arguments b ≡ Some k → Is k.frame
  is-composed c o arguments b k e is = KeptBodies.is-composed name Is Is numbers c o arguments b k e is

  -- what each answer leaves
  pub all-work : (item : Cell N) (a : CellAction N) (b : Frame N) → Is b → All (ClosesAndAnswers.work_done item a b)
  all-work item a b e = KeptBodies.all-work Is lets item a b e

  pub all-settle : (c : Module) (form : Form) (at : ℕ) (a : CellAction N) (b : Frame N) → Is b → All (settle name c form at a b)
  all-settle c form at a b e = KeptBodies.all-settle name Is Is numbers c form at a b e (λ _ k b e. e)

  pub all-settle_reply : (c : Module) (form : Form) (call : ℕ) (a : CellAction N) (b : Frame N) → Is b → All (settle_reply c form call a b)
  all-settle_reply c form call a b e = KeptBodies.all-settle_reply name Is Is numbers c form call a b e
