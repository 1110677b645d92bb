-- Work lists as the model has them: cells without parts, in order.
use Rattle.std.specs.Prelude.{ℕ, ◌-◌, List, map}
use Rattle.std.specs.VecDeque.{deque_len, deque_capacity}
use Rattle.herm_model.specs.Values as model
use Rattle.herm_values.specs.View.{leaf}
use Rattle.herm_values.specs.declared.work.Work.{Work}
use Rattle.herm_values.specs.declared.work.WorkItem.{WorkItem}
use Rattle.herm_values.specs.declared.work.WorkItem.TheVariants.{Close, Answer}

-- the cell that an item stands for
abbrev pub item_view : WorkItem → model.Value
item_view (Close port) = leaf (model.an_inport port.number)
item_view (Answer caller call) = leaf (model.a_callmessage caller.number call)

-- the cells that wait on a work list, from its front on
abbrev pub waiting : Work → List model.Value
waiting w = map item_view w.items.items

-- how many more find room on it without memory
abbrev pub spare : Work → ℕ
spare w = deque_capacity w.items - deque_len w.items
