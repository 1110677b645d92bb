use Rattle.std.specs.Prelude.{◌++◌, ◌∷◌, [], Err}
use Rattle.std.proofs.Common.{sym, ◌∙◌, ap, subst}
use Rattle.herm_rows.specs.Nodes.{HasNode, IsPlace}
use Rattle.herm_rows.proofs.Searched.{stands-of}
use Rattle.herm_rows.proofs.Kept.{pushed-entries, pushed-has, pushed-back, unlinked-entries, unlinked-row, kept-moved, kept-added, still-made}
use Rattle.herm_rows.proofs.index.put.Goals as goal

pub unlink-requires : goal.unlink-requires
unlink-requires g c = record {
  stands = stands-of c.push_back-node.new.self c.push_back-node.result.0 (c.args.row, (pushed-has c.make_room.new.links c.push_back-node.new.self c.push_back-node.result.0 c.args.row (pushed-entries c.make_room.new.links c.push_back-node.new.self c.in-Ok.first.0 c.push_back-node.result.0 c.args.row c.in-Ok.ensures.first c.in-Ok.ensures.live c.push_back-node.ensures.pushed)));
}

pub returns-in-Ok-insert-clause-kept : goal.returns-in-Ok-insert-clause-kept
returns-in-Ok-insert-clause-kept g c =
    rw c.in-Ok-insert.ensures.items
    (kept-added g.R.Row.order g.met.R.Row.is_order c.make_room.new.links c.push_back-node.new.self c.make_room.new.list c.args.index.now.items (kept-moved g.R.Row.order c.args.links.now c.make_room.new.links c.args.list.now c.make_room.new.list c.args.index.now.items c.requires.kept c.make_room.ensures.entries c.make_room.ensures.made) c.args.place c.push_back-node.result c.args.row c.push_back-node.ensures.fresh (subst (λ es. IsPlace (λ other. g.R.Row.order other c.args.row) es c.args.index.now.items (Err c.args.place)) (sym c.make_room.ensures.entries) c.requires.place) c.requires.few c.in-Ok.ensures.live (pushed-entries c.make_room.new.links c.push_back-node.new.self c.in-Ok.first.0 c.push_back-node.result.0 c.args.row c.in-Ok.ensures.first c.in-Ok.ensures.live c.push_back-node.ensures.pushed) c.push_back-node.ensures.live)

pub returns-in-Ok-insert-clause-added : goal.returns-in-Ok-insert-clause-added
returns-in-Ok-insert-clause-added g c = (
  c.push_back-node.result.0,
  (
    (pushed-entries c.make_room.new.links c.push_back-node.new.self c.in-Ok.first.0 c.push_back-node.result.0 c.args.row c.in-Ok.ensures.first c.in-Ok.ensures.live c.push_back-node.ensures.pushed) ∙ ap (λ es. es ++ (c.push_back-node.result.0, c.args.row) ∷ []) c.make_room.ensures.entries,
    (λ has. c.push_back-node.ensures.fresh (stands-of c.make_room.new.links c.push_back-node.result.0 (subst (λ es. HasNode es c.push_back-node.result.0) (sym c.make_room.ensures.entries) has))),
  ),
)

pub returns-in-Err-insert-clause-kept : goal.returns-in-Err-insert-clause-kept
returns-in-Err-insert-clause-kept g c =
    rw c.in-Err-insert.ensures.items
    (kept-moved g.R.Row.order c.make_room.new.links c.unlink.new.self c.make_room.new.list c.make_room.new.list c.args.index.now.items (kept-moved g.R.Row.order c.args.links.now c.make_room.new.links c.args.list.now c.make_room.new.list c.args.index.now.items c.requires.kept c.make_room.ensures.entries c.make_room.ensures.made) (unlinked-entries c.push_back-node.new.self c.unlink.new.self c.push_back-node.result.0 c.args.row (pushed-has c.make_room.new.links c.push_back-node.new.self c.push_back-node.result.0 c.args.row (pushed-entries c.make_room.new.links c.push_back-node.new.self c.in-Ok.first.0 c.push_back-node.result.0 c.args.row c.in-Ok.ensures.first c.in-Ok.ensures.live c.push_back-node.ensures.pushed)) c.unlink.ensures.others ∙ pushed-back c.make_room.new.links c.push_back-node.new.self c.push_back-node.result.0 c.args.row (pushed-entries c.make_room.new.links c.push_back-node.new.self c.in-Ok.first.0 c.push_back-node.result.0 c.args.row c.in-Ok.ensures.first c.in-Ok.ensures.live c.push_back-node.ensures.pushed))
    (still-made c.make_room.new.links c.unlink.new.self c.make_room.new.list c.make_room.ensures.made c.in-Ok.ensures.live (c.unlink.ensures.live ∙ c.push_back-node.ensures.live)))

pub returns-in-Err-insert-clause-unchanged : goal.returns-in-Err-insert-clause-unchanged
returns-in-Err-insert-clause-unchanged g c = (unlinked-entries c.push_back-node.new.self c.unlink.new.self c.push_back-node.result.0 c.args.row (pushed-has c.make_room.new.links c.push_back-node.new.self c.push_back-node.result.0 c.args.row (pushed-entries c.make_room.new.links c.push_back-node.new.self c.in-Ok.first.0 c.push_back-node.result.0 c.args.row c.in-Ok.ensures.first c.in-Ok.ensures.live c.push_back-node.ensures.pushed)) c.unlink.ensures.others ∙ pushed-back c.make_room.new.links c.push_back-node.new.self c.push_back-node.result.0 c.args.row (pushed-entries c.make_room.new.links c.push_back-node.new.self c.in-Ok.first.0 c.push_back-node.result.0 c.args.row c.in-Ok.ensures.first c.in-Ok.ensures.live c.push_back-node.ensures.pushed)) ∙ c.make_room.ensures.entries

pub returns-in-Err-insert-clause-handed_back : goal.returns-in-Err-insert-clause-handed_back
returns-in-Err-insert-clause-handed_back g c =
    unlinked-row c.push_back-node.new.self c.push_back-node.result.0 c.args.row c.unlink.result (pushed-has c.make_room.new.links c.push_back-node.new.self c.push_back-node.result.0 c.args.row (pushed-entries c.make_room.new.links c.push_back-node.new.self c.in-Ok.first.0 c.push_back-node.result.0 c.args.row c.in-Ok.ensures.first c.in-Ok.ensures.live c.push_back-node.ensures.pushed)) c.unlink.ensures.value
