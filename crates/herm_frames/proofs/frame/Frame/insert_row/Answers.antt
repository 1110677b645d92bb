use Rattle.std.proofs.Common.{true≢false, sym, subst, ◌∙◌}
use Rattle.herm_model.specs.Values.{read_at}
use Rattle.herm_places.specs.Held.{keyed_places}
use Rattle.herm_types.specs.View.{path_view}
use Rattle.herm_frames.specs.KeyedTables.{HasKeyFields, IsTableOf}
use Rattle.herm_frames.specs.Keyings.{CanHaveKey}
use Rattle.herm_frames.proofs.KeysOfTypes.{columns_are}
use Rattle.herm_frames.proofs.frame.Frame.insert_row.Goals as goal

pub returns-then-not-has_key_fields-clause-none : goal.returns-then-not-has_key_fields-clause-none
returns-then-not-has_key_fields-clause-none c code s of h has can =
    let key = columns_are c.args.types.now c.args.of.now code (path_view c.args.table.now) c.key_columns-columns.result.now of c.key_columns-columns.ensures.of in
    true≢false (sym (c.has_key_fields.ensures.all code.scope of.0 of.1 (subst (λ k. HasKeyFields code.scope k (path_view c.args.row.now)) (sym key) has)) ∙ c.if-not-has_key_fields.true)

pub returns-then-not-is_keyed-clause-none : goal.returns-then-not-is_keyed-clause-none
returns-then-not-is_keyed-clause-none c code s of h has can =
    let t = path_view c.args.table.now in
    let key = columns_are c.args.types.now c.args.of.now code t c.key_columns-columns.result.now of c.key_columns-columns.ensures.of in
    c.in_ok-is_keyed.ensures.cannot c.if-not-is_keyed.true s h (subst (λ k. CanHaveKey k (read_at t s.variables)) (sym key) can)

pub returns-clause-effect : goal.returns-clause-effect
returns-clause-effect c code stack s of h =
    let t = path_view c.args.table.now in
    let key = columns_are c.args.types.now c.args.of.now code t c.key_columns-columns.result.now of c.key_columns-columns.ensures.of in
    let has = c.has_key_fields.ensures.has code.scope of.0 of.1 c.if-not-has_key_fields.false in
    let here = c.in_ok-is_keyed.ensures.keyed c.if-not-is_keyed.false in
    c.in_ok-r.ensures.effect code stack s of (subst (λ k. IsTableOf k (read_at t (keyed_places c.key_table.new.self.variables))) key here)
    (subst (λ k. HasKeyFields code.scope k (path_view c.args.row.now)) key has) (c.in_ok-is_keyed.ensures.stands c.if-not-is_keyed.false s h)
