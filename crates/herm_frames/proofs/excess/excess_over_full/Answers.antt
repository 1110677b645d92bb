use Rattle.std.proofs.Common.{◌≡◌, ◌++◌, Some, false, map, sym, ap, ◌∙◌}
use Rattle.herm_model.specs.Types.{type_at}
use Rattle.herm_model.specs.Values.{cell_at, has_value}
use Rattle.herm_places.specs.Held.{seen_places}
use Rattle.herm_types.specs.View.{path_view}
use Rattle.herm_values.specs.View.{value_view}
use Rattle.herm_frames.specs.Excesses.{beyond, may_exceed}
use Rattle.herm_frames.specs.Scopes.{numbers_of}
use Rattle.herm_frames.proofs.Exceeding.{found-beyond, not-beyond}
use Rattle.herm_frames.proofs.excess.excess_over_full.Goals as goal

pub returns-then-not-may_exceed : goal.returns-then-not-may_exceed
returns-then-not-may_exceed c = λ code s h k v.
    let p = path_view c.args.path.now in
    let some : Some (value_view c.in-Some._held.now) ≡ cell_at p (seen_places c.args.variables.now) = c.in-Some.ensures.seen in
    let typed : Some c.in-Some-type_at.t.0 ≡ type_at c.args.types.now.shapes (numbers_of c.args.of.now) p = c.in-Some-type_at.ensures.of in
    let less : may_exceed c.args.types.now.shapes 32 c.in-Some-type_at.t.0 ≡ false = cc (c.may_exceed.ensures, c.if-not-may_exceed.true) in
    found-beyond code s c.args.path.now.var.0 c.args.path.now.parts.items c.args.types.now.shapes (numbers_of c.args.of.now) (seen_places c.args.variables.now) (value_view c.in-Some._held.now) c.in-Some-type_at.t.0 _ h k v some typed
    (ap (map path_view) c.new-lost.ensures.items ∙ sym (not-beyond (has_value (seen_places c.args.variables.now)) c.args.types.now.shapes 32 p c.in-Some-type_at.t.0 less))

pub returns : goal.returns
returns c = λ code s h k v.
    let p = path_view c.args.path.now in
    let some : Some (value_view c.in-Some._held.now) ≡ cell_at p (seen_places c.args.variables.now) = c.in-Some.ensures.seen in
    let typed : Some c.in-Some-type_at.t.0 ≡ type_at c.args.types.now.shapes (numbers_of c.args.of.now) p = c.in-Some-type_at.ensures.of in
    found-beyond code s c.args.path.now.var.0 c.args.path.now.parts.items c.args.types.now.shapes (numbers_of c.args.of.now) (seen_places c.args.variables.now) (value_view c.in-Some._held.now) c.in-Some-type_at.t.0 _ h k v some typed
    (c.in_ok-push_beyond.ensures ∙ ap (λ lost. map path_view lost ++ beyond (has_value (seen_places c.args.variables.now)) c.args.types.now.shapes 32 p c.in-Some-type_at.t.0) c.new-lost.ensures.items)
