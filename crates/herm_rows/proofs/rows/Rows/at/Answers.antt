use Rattle.std.specs.Prelude.{◌≡◌, Some, option_map, slice_get}
use Rattle.std.proofs.Common.{sym, ◌∙◌, ap, subst}
use Rattle.herm_links.specs.Lists.{entries_of}
use Rattle.herm_rows.proofs.Searched.{stands-of, row-read, one-row}
use Rattle.herm_rows.proofs.Found.{row-there}
use Rattle.herm_rows.proofs.Kept.{at-place}
use Rattle.herm_rows.proofs.rows.Rows.at.Goals as goal

pub at-requires : goal.at-requires
at-requires g c = record {
  stands =
      let own = (at-place (entries_of c.self.inside.links 0) c.args.place c.node_at.result.0 (subst (λ es. option_map (λ e. e.0) (slice_get es c.args.place) ≡ Some c.node_at.result.0) (sym c.self.view_is) c.node_at.ensures)) in stands-of c.self.inside.links c.node_at.result.0 (own.0, (c.args.place, own.1));
}

pub returns : goal.returns
returns g c = record {
  row =
      let own = (at-place (entries_of c.self.inside.links 0) c.args.place c.node_at.result.0 (subst (λ es. option_map (λ e. e.0) (slice_get es c.args.place) ≡ Some c.node_at.result.0) (sym c.self.view_is) c.node_at.ensures)) in
      let read = row-read c.self.inside.links c.node_at.result.0 c.at.result.now (own.0, (c.args.place, own.1)) c.at.ensures.value in
      rw (← c.self.view_is)
      (row-there (entries_of c.self.inside.links 0) c.args.place (c.node_at.result.0, own.0) own.1
      ∙ ap Some (sym (one-row (entries_of c.self.inside.links 0) c.self.invariant.nodes c.node_at.result.0 c.at.result.now own.0 read (c.args.place, own.1))));
}
