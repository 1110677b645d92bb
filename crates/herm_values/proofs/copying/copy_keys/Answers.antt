use Rattle.std.proofs.Common.{◌++◌, drop, map, option_map, Some, sym, ap, ◌∙◌}
use Rattle.std.proofs.lemmas.List.{append-nil}
use Rattle.std.proofs.lemmas.Option.{slice_get-map}
use Rattle.herm_rows.specs.Keys.{rows_of}
use Rattle.herm_rows.specs.Nodes.{place_at}
use Rattle.herm_values.specs.Copies.{key_row_view}
use Rattle.herm_values.proofs.Copied.{keys-more}
use Rattle.herm_values.proofs.NewKeys.{new-key, few-copied}
use Rattle.herm_values.proofs.Walked.{none-keys}
use Rattle.herm_values.proofs.copying.copy_keys.Goals as goal

pub add_key-requires : goal.add_key-requires
add_key-requires c =
    let n = place_at c.args.keys.now (Some c.in-Some.node) in
    let at = slice_get-map (λ e. e.1) c.args.keys.now n ∙ ap (option_map (λ e. e.1)) c.row.ensures.place in
    let so-far = ap (λ start. map key_row_view (rows_of c.keys.copies) ++ map key_row_view (drop (place_at c.args.keys.now start) (rows_of c.args.keys.now))) (sym c.in-Some.is) ∙ c.keys.invariant.whole in
    record {
      new = new-key (rows_of c.args.keys.now) (rows_of c.keys.copies) n c.row.result.now c.in_ok-row.row c.len-count.ensures.keys at c.in_ok-row.ensures so-far;
      few = few-copied (rows_of c.args.keys.now) (rows_of c.keys.copies) n c.row.result.now at so-far c.len-count.ensures.few;
    }

pub keys-preserved : goal.keys-preserved
keys-preserved c = record {
  stands = c.after-next.ensures.stands;
  whole =
      ap (λ n. map key_row_view (rows_of c.add_key.new.keys) ++ map key_row_view (drop n (rows_of c.args.keys.now))) c.after-next.ensures.place
      ∙ keys-more (rows_of c.args.keys.now) (rows_of c.keys.copies) (rows_of c.add_key.new.keys) (place_at c.args.keys.now (Some c.in-Some.node)) c.row.result.now c.in_ok-row.row
      (slice_get-map (λ e. e.1) c.args.keys.now (place_at c.args.keys.now (Some c.in-Some.node)) ∙ ap (option_map (λ e. e.1)) c.row.ensures.place)
      c.in_ok-add_key.ensures c.in_ok-row.ensures
      (ap (λ start. map key_row_view (rows_of c.keys.copies) ++ map key_row_view (drop (place_at c.args.keys.now start) (rows_of c.args.keys.now))) (sym c.in-Some.is) ∙ c.keys.invariant.whole);
}

pub returns : goal.returns
returns c =
    sym (append-nil (map key_row_view (rows_of c.keys.copies)))
    ∙ ap (λ keys. map key_row_view (rows_of c.keys.copies) ++ map key_row_view keys) (sym (none-keys c.args.keys.now c.keys.next c.in_default.is))
    ∙ c.keys.invariant.whole
