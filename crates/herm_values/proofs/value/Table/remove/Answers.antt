use Rattle.std.proofs.Common.{◌∙◌, sym, ap, subst, option_map}
use Rattle.herm_rows.specs.Keys.{rows_of}
use Rattle.herm_values.specs.View.{value_view, views_of}
use Rattle.herm_values.specs.Whole.{AreKept}
use Rattle.herm_values.proofs.KeyedRows.{named}
use Rattle.herm_values.proofs.Tables.{none-found, none-left, row-found, row-there, others-kept, others-named, within-there}
use Rattle.herm_values.proofs.VeryRows.{all-but, read-among, none-lost}
use Rattle.herm_values.proofs.value.Table.remove.Goals as goal

pub returns-in_err-found-clause-row : goal.returns-in_err-found-clause-row
returns-in_err-found-clause-row c =
    ap (option_map value_view) c.from_residual.ensures
    ∙ sym (none-found c.args.self.now.columns.items (views_of c.args.self.now.rows.items) (rows_of c.args.self.now.keys) c.args.key.now.items (sym c.in_err-found.ensures.row) c.requires.whole.kept)

pub returns-in_err-found-clause-others : goal.returns-in_err-found-clause-others
returns-in_err-found-clause-others c = none-left c.args.self.now.columns.items (views_of c.args.self.now.rows.items) (rows_of c.args.self.now.keys) (rows_of c.remove.new.self) c.args.key.now.items (sym c.in_err-found.ensures.row) (ap rows_of c.in_err-found.ensures.unchanged) c.requires.whole.kept

pub exchange-requires : goal.exchange-requires
exchange-requires c = let h = row-there c.args.self.now.columns.items c.args.self.now.rows.items c.args.self.now.rows.items (rows_of c.args.self.now.keys) c.args.key.now.items c.in_ok-found.found (sym c.in_ok-found.ensures.row) c.len.ensures.keys c.requires.whole.kept in record { within = within-there c.args.self.now.rows.items c.in_ok-found.found.place h.0 h.1 }

pub returns-clause-row : goal.returns-clause-row
returns-clause-row c = ap (option_map value_view) c.exchange.ensures.old ∙ row-found c.args.self.now.columns.items c.args.self.now.rows.items c.exchange.new.rows.items (rows_of c.args.self.now.keys) c.args.key.now.items c.in_ok-found.found (sym c.in_ok-found.ensures.row) c.len.ensures.keys c.requires.whole.kept

pub returns-clause-others : goal.returns-clause-others
returns-clause-others c = ap (named c.args.self.now.columns.items (views_of c.exchange.new.rows.items)) c.in_ok-found.ensures.others ∙ others-named c.args.self.now.columns.items c.args.self.now.rows.items c.exchange.new.rows.items (rows_of c.args.self.now.keys) c.args.key.now.items c.in_ok-found.found (sym c.in_ok-found.ensures.row) c.len.ensures.keys c.requires.whole.kept c.exchange.ensures.put c.exchange.ensures.others

pub returns-clause-whole : goal.returns-clause-whole
returns-clause-whole c = record {
  kept = subst (λ keys. AreKept c.args.self.now.columns.items keys (views_of c.exchange.new.rows.items)) (sym c.in_ok-found.ensures.others) (others-kept c.args.self.now.columns.items c.args.self.now.rows.items c.exchange.new.rows.items (rows_of c.args.self.now.keys) c.args.key.now.items c.in_ok-found.found (sym c.in_ok-found.ensures.row) c.len.ensures.keys c.requires.whole.kept c.exchange.ensures.put c.exchange.ensures.others);
  whole = c.exchange.ensures.whole c.requires.whole.whole tt;
}

pub returns-clause-row_whole : goal.returns-clause-row_whole
returns-clause-row_whole c = c.exchange.ensures.given c.requires.whole.whole

pub returns-clause-row_itself : goal.returns-clause-row_itself
returns-clause-row_itself c = read-among c.args.self.now.rows.items c.in_ok-found.found.place c.exchange.result c.exchange.ensures.old

pub returns-clause-rows_themselves : goal.returns-clause-rows_themselves
returns-clause-rows_themselves c = all-but c.args.self.now.rows.items c.exchange.new.rows.items c.in_ok-found.found.place c.exchange.result c.exchange.ensures.old c.exchange.ensures.put c.exchange.ensures.others

pub returns-clause-places : goal.returns-clause-places
returns-clause-places c = c.exchange.ensures.places
