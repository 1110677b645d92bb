use Rattle.std.specs.Prelude.{◌≡◌, Some, Err, slice_get}
use Rattle.std.proofs.Common.{sym, ◌∙◌, ap, subst}
use Rattle.herm_links.specs.Lists.{entries_of}
use Rattle.herm_rows.specs.Keys.{has_key, rows_of}
use Rattle.herm_rows.specs.Nodes.{Has, IsPlace}
use Rattle.herm_rows.proofs.Searched.{stands-of}
use Rattle.herm_rows.proofs.Found.{key-found, rows-left, nodes-left, none-equal, nodes-all}
use Rattle.herm_rows.proofs.Taken.{none-found, all-left}
use Rattle.herm_rows.proofs.Removed.{rows-removed}
use Rattle.herm_rows.proofs.Kept.{node-read, unlinked-entries, unlinked-row, kept-removed}
use Rattle.herm_rows.proofs.rows.Rows.remove.Goals as goal

pub unlink-requires : goal.unlink-requires
unlink-requires g c = record {
  stands = stands-of c.self.inside.links c.remove-node.result.0 (c.in-Ok.ensures.1.0, (subst (λ k. Has (entries_of c.self.inside.links 0) k.0 c.in-Ok.ensures.1.0) (sym (node-read c.self.inside.index.items c.in-Ok.place c.in-Ok.ensures.0 c.remove-node.result (subst (λ xs. slice_get xs c.in-Ok.place ≡ Some c.in-Ok.ensures.0) c.deref.ensures.value c.in-Ok.ensures.1.1.0) c.remove-node.ensures.value)) c.in-Ok.ensures.1.1.1.0));
}

pub invariant_of-self : goal.invariant_of-self
invariant_of-self g c =
    rw c.remove-node.ensures.items
    (kept-removed g.R.Row.order g.met.R.Row.is_order c.self.inside.links c.unlink.new.self c.self.inside.list c.self.inside.index.items c.self.invariant c.in-Ok.place c.remove-node.result c.in-Ok.ensures.1.0 (subst (λ k. slice_get c.self.inside.index.items c.in-Ok.place ≡ Some k) (sym (node-read c.self.inside.index.items c.in-Ok.place c.in-Ok.ensures.0 c.remove-node.result (subst (λ xs. slice_get xs c.in-Ok.place ≡ Some c.in-Ok.ensures.0) c.deref.ensures.value c.in-Ok.ensures.1.1.0) c.remove-node.ensures.value)) (subst (λ xs. slice_get xs c.in-Ok.place ≡ Some c.in-Ok.ensures.0) c.deref.ensures.value c.in-Ok.ensures.1.1.0)) (subst (λ k. Has (entries_of c.self.inside.links 0) k.0 c.in-Ok.ensures.1.0) (sym (node-read c.self.inside.index.items c.in-Ok.place c.in-Ok.ensures.0 c.remove-node.result (subst (λ xs. slice_get xs c.in-Ok.place ≡ Some c.in-Ok.ensures.0) c.deref.ensures.value c.in-Ok.ensures.1.1.0) c.remove-node.ensures.value)) c.in-Ok.ensures.1.1.1.0) (unlinked-entries c.self.inside.links c.unlink.new.self c.remove-node.result.0 c.in-Ok.ensures.1.0 (subst (λ k. Has (entries_of c.self.inside.links 0) k.0 c.in-Ok.ensures.1.0) (sym (node-read c.self.inside.index.items c.in-Ok.place c.in-Ok.ensures.0 c.remove-node.result (subst (λ xs. slice_get xs c.in-Ok.place ≡ Some c.in-Ok.ensures.0) c.deref.ensures.value c.in-Ok.ensures.1.1.0) c.remove-node.ensures.value)) c.in-Ok.ensures.1.1.1.0) c.unlink.ensures.others) c.unlink.ensures.live)

pub returns-in-Ok-clause-row : goal.returns-in-Ok-clause-row
returns-in-Ok-clause-row g c =
    rw (← c.self.view_is)
    (ap Some (unlinked-row c.self.inside.links c.remove-node.result.0 c.in-Ok.ensures.1.0 c.unlink.result (subst (λ k. Has (entries_of c.self.inside.links 0) k.0 c.in-Ok.ensures.1.0) (sym (node-read c.self.inside.index.items c.in-Ok.place c.in-Ok.ensures.0 c.remove-node.result (subst (λ xs. slice_get xs c.in-Ok.place ≡ Some c.in-Ok.ensures.0) c.deref.ensures.value c.in-Ok.ensures.1.1.0) c.remove-node.ensures.value)) c.in-Ok.ensures.1.1.1.0) c.unlink.ensures.value)
    ∙ sym (key-found g.R.Row.order g.R.Row.order_key g.met.R.Row.is_one_key (entries_of c.self.inside.links 0) c.self.invariant.keys c.args.key.now c.remove-node.result.0 c.in-Ok.ensures.1.0 (subst (λ k. Has (entries_of c.self.inside.links 0) k.0 c.in-Ok.ensures.1.0) (sym (node-read c.self.inside.index.items c.in-Ok.place c.in-Ok.ensures.0 c.remove-node.result (subst (λ xs. slice_get xs c.in-Ok.place ≡ Some c.in-Ok.ensures.0) c.deref.ensures.value c.in-Ok.ensures.1.1.0) c.remove-node.ensures.value)) c.in-Ok.ensures.1.1.1.0) c.in-Ok.ensures.1.1.1.1))

pub returns-in-Ok-clause-others : goal.returns-in-Ok-clause-others
returns-in-Ok-clause-others g c =
    rw (← c.self.view_is)
    (ap rows_of (unlinked-entries c.self.inside.links c.unlink.new.self c.remove-node.result.0 c.in-Ok.ensures.1.0 (subst (λ k. Has (entries_of c.self.inside.links 0) k.0 c.in-Ok.ensures.1.0) (sym (node-read c.self.inside.index.items c.in-Ok.place c.in-Ok.ensures.0 c.remove-node.result (subst (λ xs. slice_get xs c.in-Ok.place ≡ Some c.in-Ok.ensures.0) c.deref.ensures.value c.in-Ok.ensures.1.1.0) c.remove-node.ensures.value)) c.in-Ok.ensures.1.1.1.0) c.unlink.ensures.others)
    ∙ rows-removed (entries_of c.self.inside.links 0) (subst (λ k. Has (entries_of c.self.inside.links 0) k.0 c.in-Ok.ensures.1.0) (sym (node-read c.self.inside.index.items c.in-Ok.place c.in-Ok.ensures.0 c.remove-node.result (subst (λ xs. slice_get xs c.in-Ok.place ≡ Some c.in-Ok.ensures.0) c.deref.ensures.value c.in-Ok.ensures.1.1.0) c.remove-node.ensures.value)) c.in-Ok.ensures.1.1.1.0).0
    ∙ rows-left g.R.Row.order g.R.Row.order_key g.met.R.Row.is_one_key (entries_of c.self.inside.links 0) c.self.invariant.keys c.args.key.now c.remove-node.result.0 c.in-Ok.ensures.1.0 (subst (λ k. Has (entries_of c.self.inside.links 0) k.0 c.in-Ok.ensures.1.0) (sym (node-read c.self.inside.index.items c.in-Ok.place c.in-Ok.ensures.0 c.remove-node.result (subst (λ xs. slice_get xs c.in-Ok.place ≡ Some c.in-Ok.ensures.0) c.deref.ensures.value c.in-Ok.ensures.1.1.0) c.remove-node.ensures.value)) c.in-Ok.ensures.1.1.1.0) c.in-Ok.ensures.1.1.1.1)

pub returns-in-Ok-clause-nodes : goal.returns-in-Ok-clause-nodes
returns-in-Ok-clause-nodes g c =
    rw (← c.self.view_is) ((unlinked-entries c.self.inside.links c.unlink.new.self c.remove-node.result.0 c.in-Ok.ensures.1.0 (subst (λ k. Has (entries_of c.self.inside.links 0) k.0 c.in-Ok.ensures.1.0) (sym (node-read c.self.inside.index.items c.in-Ok.place c.in-Ok.ensures.0 c.remove-node.result (subst (λ xs. slice_get xs c.in-Ok.place ≡ Some c.in-Ok.ensures.0) c.deref.ensures.value c.in-Ok.ensures.1.1.0) c.remove-node.ensures.value)) c.in-Ok.ensures.1.1.1.0) c.unlink.ensures.others) ∙ nodes-left g.R.Row.order g.R.Row.order_key g.met.R.Row.is_one_key (entries_of c.self.inside.links 0) c.self.invariant.keys c.args.key.now c.remove-node.result.0 c.in-Ok.ensures.1.0 (subst (λ k. Has (entries_of c.self.inside.links 0) k.0 c.in-Ok.ensures.1.0) (sym (node-read c.self.inside.index.items c.in-Ok.place c.in-Ok.ensures.0 c.remove-node.result (subst (λ xs. slice_get xs c.in-Ok.place ≡ Some c.in-Ok.ensures.0) c.deref.ensures.value c.in-Ok.ensures.1.1.0) c.remove-node.ensures.value)) c.in-Ok.ensures.1.1.1.0) c.in-Ok.ensures.1.1.1.1)

pub returns-in-Err-clause-row : goal.returns-in-Err-clause-row
returns-in-Err-clause-row g c =
    rw (← c.self.view_is) (sym (none-found (has_key g.R.Row.order_key c.args.key.now) (rows_of (entries_of c.self.inside.links 0)) (none-equal g.R.Row.order (entries_of c.self.inside.links 0) c.self.inside.index.items c.self.invariant.indexed (λ row. g.R.Row.order_key row c.args.key.now) c.in-Err.field-0 (subst (λ xs. IsPlace (λ row. g.R.Row.order_key row c.args.key.now) (entries_of c.self.inside.links 0) xs (Err c.in-Err.field-0)) c.deref.ensures.value c.in-Err.ensures))))

pub returns-in-Err-clause-others : goal.returns-in-Err-clause-others
returns-in-Err-clause-others g c =
    rw (← c.self.view_is) (all-left (has_key g.R.Row.order_key c.args.key.now) (rows_of (entries_of c.self.inside.links 0)) (none-equal g.R.Row.order (entries_of c.self.inside.links 0) c.self.inside.index.items c.self.invariant.indexed (λ row. g.R.Row.order_key row c.args.key.now) c.in-Err.field-0 (subst (λ xs. IsPlace (λ row. g.R.Row.order_key row c.args.key.now) (entries_of c.self.inside.links 0) xs (Err c.in-Err.field-0)) c.deref.ensures.value c.in-Err.ensures)))

pub returns-in-Err-clause-nodes : goal.returns-in-Err-clause-nodes
returns-in-Err-clause-nodes g c =
    rw (← c.self.view_is) (nodes-all g.R.Row.order (entries_of c.self.inside.links 0) c.self.inside.index.items c.self.invariant.indexed (λ row. g.R.Row.order_key row c.args.key.now) c.in-Err.field-0 (subst (λ xs. IsPlace (λ row. g.R.Row.order_key row c.args.key.now) (entries_of c.self.inside.links 0) xs (Err c.in-Err.field-0)) c.deref.ensures.value c.in-Err.ensures))
