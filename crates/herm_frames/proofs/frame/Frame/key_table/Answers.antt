use Rattle.std.proofs.Common.{sym, subst}
use Rattle.herm_model.specs.Values.{read_at}
use Rattle.herm_places.specs.Held.{keyed_places, seen_places}
use Rattle.herm_types.specs.View.{path_view}
use Rattle.herm_frames.specs.HeldFrames.{HeldFrame}
use Rattle.herm_frames.specs.Keyings.{IsKeying}
use Rattle.herm_frames.specs.Standing.{Stands}
use Rattle.herm_frames.proofs.Keyings.{same_again}
use Rattle.herm_frames.proofs.TablesTaken.{key_kept}
use Rattle.herm_frames.proofs.frame.Frame.key_table.Goals as goal

pub returns-in-Anew-clause-stands : goal.returns-in-Anew-clause-stands
returns-in-Anew-clause-stands c made s h =
    let p = path_view c.args.path.now in
    let g = subst (λ (f : HeldFrame). Stands f s) (sym c.self.view_is) h in
    let k = subst (λ k. IsKeying k c.args.columns.now (read_at p (keyed_places c.self.inside.variables)) (read_at p (seen_places c.self.inside.variables))) c.in-Anew.is c.in_ok-keying.ensures.keying in
    same_again _ s p _ c.put_table.new.variables g k.1 c.put_table.ensures.seen

pub returns-in-Anew-clause-keyed : goal.returns-in-Anew-clause-keyed
returns-in-Anew-clause-keyed c made =
    let p = path_view c.args.path.now in
    let k = subst (λ k. IsKeying k c.args.columns.now (read_at p (keyed_places c.self.inside.variables)) (read_at p (seen_places c.self.inside.variables))) c.in-Anew.is c.in_ok-keying.ensures.keying in
    key_kept c.args.columns.now _ p _ (keyed_places c.self.inside.variables) (keyed_places c.put_table.new.variables) c.put_table.ensures.keyed k.0
