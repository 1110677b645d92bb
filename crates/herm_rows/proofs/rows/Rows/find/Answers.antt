use Rattle.std.specs.Prelude.{◌≡◌, Some, Err, slice_get}
use Rattle.std.proofs.Common.{sym, ◌∙◌, ap, subst}
use Rattle.herm_links.specs.Lists.{entries_of}
use Rattle.herm_rows.specs.Keys.{has_key, rows_of}
use Rattle.herm_rows.specs.Nodes.{Has, IsPlace}
use Rattle.herm_rows.proofs.Searched.{stands-of, row-read, one-row}
use Rattle.herm_rows.proofs.Found.{key-found, none-equal}
use Rattle.herm_rows.proofs.Taken.{none-found}
use Rattle.herm_rows.proofs.Kept.{node-read}
use Rattle.herm_rows.proofs.rows.Rows.find.Goals as goal

pub at-requires : goal.at-requires
at-requires g c = record {
  stands = stands-of c.self.inside.links c.index.result.now.0 (c.in-Ok.ensures.1.0, (subst (λ k. Has (entries_of c.self.inside.links 0) k.0 c.in-Ok.ensures.1.0) (sym (node-read c.self.inside.index.items c.in-Ok.place c.in-Ok.ensures.0 c.index.result.now (subst (λ xs. slice_get xs c.in-Ok.place ≡ Some c.in-Ok.ensures.0) c.deref.ensures.value c.in-Ok.ensures.1.1.0) c.index.ensures)) c.in-Ok.ensures.1.1.1.0));
}

pub returns-in-Ok : goal.returns-in-Ok
returns-in-Ok g c = record {
  row =
      let has = (subst (λ k. Has (entries_of c.self.inside.links 0) k.0 c.in-Ok.ensures.1.0) (sym (node-read c.self.inside.index.items c.in-Ok.place c.in-Ok.ensures.0 c.index.result.now (subst (λ xs. slice_get xs c.in-Ok.place ≡ Some c.in-Ok.ensures.0) c.deref.ensures.value c.in-Ok.ensures.1.1.0) c.index.ensures)) c.in-Ok.ensures.1.1.1.0) in
      let read = row-read c.self.inside.links c.index.result.now.0 c.at.result.now (c.in-Ok.ensures.1.0, has) c.at.ensures.value in
      rw (← c.self.view_is)
      (ap Some (one-row (entries_of c.self.inside.links 0) c.self.invariant.nodes c.index.result.now.0 c.at.result.now c.in-Ok.ensures.1.0 read has)
      ∙ sym (key-found g.R.Row.order g.R.Row.order_key g.met.R.Row.is_one_key (entries_of c.self.inside.links 0) c.self.invariant.keys c.args.key.now c.in-Ok.ensures.0.0 c.in-Ok.ensures.1.0 c.in-Ok.ensures.1.1.1.0 c.in-Ok.ensures.1.1.1.1));
}

pub returns-in-Err : goal.returns-in-Err
returns-in-Err g c = record {
  row = rw (← c.self.view_is) (sym (none-found (has_key g.R.Row.order_key c.args.key.now) (rows_of (entries_of c.self.inside.links 0)) (none-equal g.R.Row.order (entries_of c.self.inside.links 0) c.self.inside.index.items c.self.invariant.indexed (λ row. g.R.Row.order_key row c.args.key.now) c.in-Err.field-0 (subst (λ xs. IsPlace (λ row. g.R.Row.order_key row c.args.key.now) (entries_of c.self.inside.links 0) xs (Err c.in-Err.field-0)) c.deref.ensures.value c.in-Err.ensures))));
}
