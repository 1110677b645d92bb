use Rattle.std.specs.Prelude.{◌≡◌, ◌≤◌, true, false, Err, length, refl}
use Rattle.std.specs.List.{list_any}
use Rattle.std.specs.Ordering.{is_eq}
use Rattle.std.proofs.Common.{sym, ap, subst, arith}
use Rattle.std.proofs.lemmas.Bool.Decides.{nat_tests}
use Rattle.herm_links.specs.Lists.{entries_of}
use Rattle.herm_rows.specs.Keys.{is_key_of, rows_of, most_rows}
use Rattle.herm_rows.specs.Nodes.{IsPlace}
use Rattle.herm_rows.proofs.Taken.{one-any, none-any}
use Rattle.herm_rows.proofs.Found.{row-there, none-equal}
use Rattle.herm_rows.proofs.Kept.{as-many-rows}
use Rattle.herm_rows.proofs.rows.Rows.insert.Goals as goal

pub returns-in-Ok-clause-duplicate : goal.returns-in-Ok-clause-duplicate
returns-in-Ok-clause-duplicate g c = rw (← c.self.view_is) (sym (one-any (is_key_of g.R.Row.order c.args.row) (rows_of (entries_of c.self.inside.links 0)) c.in-Ok.ensures.1.1.1.0.0 c.in-Ok.ensures.1.0 (row-there (entries_of c.self.inside.links 0) c.in-Ok.ensures.1.1.1.0.0 (c.in-Ok.ensures.0.0, c.in-Ok.ensures.1.0) c.in-Ok.ensures.1.1.1.0.1) (ap is_eq c.in-Ok.ensures.1.1.1.1)))

pub returns-in-Ok-clause-full : goal.returns-in-Ok-clause-full
returns-in-Ok-clause-full g c =
    let any : list_any (is_key_of g.R.Row.order c.args.row) (rows_of c.args.self.now) ≡ true = rw (← c.self.view_is) (one-any (is_key_of g.R.Row.order c.args.row) (rows_of (entries_of c.self.inside.links 0)) c.in-Ok.ensures.1.1.1.0.0 c.in-Ok.ensures.1.0 (row-there (entries_of c.self.inside.links 0) c.in-Ok.ensures.1.1.1.0.0 (c.in-Ok.ensures.0.0, c.in-Ok.ensures.1.0) c.in-Ok.ensures.1.1.1.0.1) (ap is_eq c.in-Ok.ensures.1.1.1.1)) in rw any refl

pub returns-then-len-ge-MOST_ROWS-clause-duplicate : goal.returns-then-len-ge-MOST_ROWS-clause-duplicate
returns-then-len-ge-MOST_ROWS-clause-duplicate g c = rw (← c.self.view_is) (sym (none-any (is_key_of g.R.Row.order c.args.row) (rows_of (entries_of c.self.inside.links 0)) (none-equal g.R.Row.order (entries_of c.self.inside.links 0) c.self.inside.index.items c.self.invariant.indexed (λ other. g.R.Row.order other c.args.row) c.in-Err.place (subst (λ xs. IsPlace (λ other. g.R.Row.order other c.args.row) (entries_of c.self.inside.links 0) xs (Err c.in-Err.place)) c.deref.ensures.value c.in-Err.ensures))))

pub returns-then-len-ge-MOST_ROWS-clause-full : goal.returns-then-len-ge-MOST_ROWS-clause-full
returns-then-len-ge-MOST_ROWS-clause-full g c =
    let none : list_any (is_key_of g.R.Row.order c.args.row) (rows_of c.args.self.now) ≡ false = rw (← c.self.view_is) (none-any (is_key_of g.R.Row.order c.args.row) (rows_of (entries_of c.self.inside.links 0)) (none-equal g.R.Row.order (entries_of c.self.inside.links 0) c.self.inside.index.items c.self.invariant.indexed (λ other. g.R.Row.order other c.args.row) c.in-Err.place (subst (λ xs. IsPlace (λ other. g.R.Row.order other c.args.row) (entries_of c.self.inside.links 0) xs (Err c.in-Err.place)) c.deref.ensures.value c.in-Err.ensures))) in
    let whole : length (entries_of c.self.inside.links 0) ≡ length c.args.self.now = ap length c.self.view_is in
    let many : most_rows ≤ length (rows_of c.args.self.now) = omega (arith, as-many-rows c.args.self.now, c.self.invariant.indexed.as_many) in
    rw none (grind (arith, nat_tests))

pub returns-in-Ok-put-clause-duplicate : goal.returns-in-Ok-put-clause-duplicate
returns-in-Ok-put-clause-duplicate g c = rw (← c.self.view_is) (sym (none-any (is_key_of g.R.Row.order c.args.row) (rows_of (entries_of c.self.inside.links 0)) (none-equal g.R.Row.order (entries_of c.self.inside.links 0) c.self.inside.index.items c.self.invariant.indexed (λ other. g.R.Row.order other c.args.row) c.in-Err.place (subst (λ xs. IsPlace (λ other. g.R.Row.order other c.args.row) (entries_of c.self.inside.links 0) xs (Err c.in-Err.place)) c.deref.ensures.value c.in-Err.ensures))))

pub returns-in-Err-put-clause-duplicate : goal.returns-in-Err-put-clause-duplicate
returns-in-Err-put-clause-duplicate g c = rw (← c.self.view_is) (sym (none-any (is_key_of g.R.Row.order c.args.row) (rows_of (entries_of c.self.inside.links 0)) (none-equal g.R.Row.order (entries_of c.self.inside.links 0) c.self.inside.index.items c.self.invariant.indexed (λ other. g.R.Row.order other c.args.row) c.in-Err.place (subst (λ xs. IsPlace (λ other. g.R.Row.order other c.args.row) (entries_of c.self.inside.links 0) xs (Err c.in-Err.place)) c.deref.ensures.value c.in-Err.ensures))))
