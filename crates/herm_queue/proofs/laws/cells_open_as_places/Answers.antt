use Rattle.herm_queue.proofs.CellsSeen.{main-ports_open, other-ports_open, reply-cells_open, books-open}
use Rattle.herm_queue.proofs.laws.cells_open_as_places.Goals as goal

pub returns-clause-main_port : goal.returns-clause-main_port
returns-clause-main_port c = main-ports_open

pub returns-clause-other_ports : goal.returns-clause-other_ports
returns-clause-other_ports c = other-ports_open

pub returns-clause-reply_cells : goal.returns-clause-reply_cells
returns-clause-reply_cells c = reply-cells_open

pub returns-clause-books : goal.returns-clause-books
returns-clause-books c = books-open
