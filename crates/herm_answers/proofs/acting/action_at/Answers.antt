use Rattle.std.proofs.Common.{◌≡◌, Some, option_map, refl, sym, ap, ◌∙◌}
use Rattle.herm_model.proofs.Options.{none-not_some, some-injective}
use Rattle.herm_code_machine.specs.Pieces as pieces
use Rattle.herm_pieces.specs.View.{piece_view, ready_view}
use Rattle.herm_answers.proofs.Comes.{action_is}
use Rattle.herm_answers.proofs.acting.action_at.Goals as goal

pub returns : goal.returns
returns c = record {
  action = λ s p m at next.
      let code = ready_view c.args.code.now in
      let n = action_is code s p m next in
      let piece : Some (piece_view c.in-Some.piece) ≡ Some p = ap (option_map piece_view) (sym c.in-Some.is) ∙ c.piece_at.ensures.piece ∙ ap (pieces.piece_at code) (sym at) ∙ n.piece in
      c.action_of.ensures.action ∙ ap (pieces.action_of code) (some-injective piece) ∙ n.found;
}
