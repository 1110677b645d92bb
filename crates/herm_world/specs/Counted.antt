-- Cells with the count of what waits there.
use Rattle.std.specs.Prelude.{ℕ, suc, length, cond, is_some, Option, None, ◌≡◌, ◌≤◌}
use Rattle.herm_queue.specs.CellStates.{CellAction, IsActed}
use Rattle.herm_queue.specs.BookStates.{BookState, book_cell}
use Rattle.herm_queue.specs.PortStates.{PortState, port_cell}
use Rattle.herm_queue.specs.ReplyStates.{ReplyState, reply_cell_of}

-- so many messages wait at the port, and these are at most one more than its clock
pub record IsCountedPort (s : PortState) (queued : ℕ) : Type 0 where
  pub counted : queued ≡ length s.held.queue
  pub bounded : queued ≤ suc s.clock

-- so many replies wait there, at most as many as its clock
pub record IsCountedReply (s : ReplyState) (waiting : ℕ) : Type 0 where
  pub counted : waiting ≡ length s.waiting
  pub bounded : waiting ≤ s.clock

-- A process does an action at a port, whose memory is taken before, and it is noted there who waits.
pub record PortActs (process clock : ℕ) (a : CellAction) (noted : Option ℕ → Option ℕ) (before behind : PortState) : Type 0 where
  pub spare : ℕ
  pub acted : IsActed process clock a (port_cell (record before { spare = spare })) (port_cell behind)
  pub noted_there : behind.waiter ≡ noted before.waiter

-- nobody is noted where a message was placed
abbrev pub woken_at_put : (number : Option ℕ) → Option ℕ → Option ℕ
woken_at_put number waiter = cond (is_some number) None waiter

-- at a reply cell
pub record ReplyActs (process clock : ℕ) (a : CellAction) (before behind : ReplyState) : Type 0 where
  pub spare : ℕ
  pub acted : IsActed process clock a (reply_cell_of (record before { spare = spare })) (reply_cell_of behind)

-- in the book
pub record BookActs (process clock : ℕ) (a : CellAction) (before behind : BookState) : Type 0 where
  pub spare : ℕ
  pub acted : IsActed process clock a (book_cell (record before { spare = spare })) (book_cell behind)
