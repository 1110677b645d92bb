use Rattle.std.proofs.Common.{sym, subst}
use Rattle.herm_model.specs.Values.{read_at}
use Rattle.herm_places.specs.Held.{keyed_places}
use Rattle.herm_types.specs.View.{path_view}
use Rattle.herm_frames.specs.KeyedTables.{IsTableOf}
use Rattle.herm_frames.specs.Keyings.{CanHaveKey}
use Rattle.herm_frames.proofs.KeysOfTypes.{columns_are}
use Rattle.herm_frames.proofs.frame.Frame.take_row.Goals as goal

pub returns-then-not-is_keyed-clause-none : goal.returns-then-not-is_keyed-clause-none
returns-then-not-is_keyed-clause-none c code s of h can =
    let t = path_view c.args.table.now in
    let key = columns_are c.args.types.now c.args.of.now code t c.key_columns-columns.result.now of c.key_columns-columns.ensures.of in
    c.in_ok-is_keyed.ensures.cannot c.if-not-is_keyed.true s h (subst (λ k. CanHaveKey k (read_at t s.variables)) (sym key) can)

pub returns-clause-removed : goal.returns-clause-removed
returns-clause-removed c code s of h =
    let t = path_view c.args.table.now in
    let key = columns_are c.args.types.now c.args.of.now code t c.key_columns-columns.result.now of c.key_columns-columns.ensures.of in
    let here = c.in_ok-is_keyed.ensures.keyed c.if-not-is_keyed.false in
    c.in_ok-r.ensures.effect code s (subst (λ k. IsTableOf k (read_at t (keyed_places c.key_table.new.self.variables))) key here) (c.in_ok-is_keyed.ensures.stands c.if-not-is_keyed.false s h)
