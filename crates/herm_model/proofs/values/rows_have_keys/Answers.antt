use Rattle.herm_model.proofs.Keys.{place-there, place-row, distinct-joined, distinct-without}
use Rattle.herm_model.proofs.values.rows_have_keys.Goals as goal

pub returns : goal.returns
returns c = record { rows = λ key rows. record { there = λ k. place-there key k rows; found = λ k i e. place-row key k rows i e; added = λ row. distinct-joined key row rows; removed = λ i h. distinct-without key i rows h } }
