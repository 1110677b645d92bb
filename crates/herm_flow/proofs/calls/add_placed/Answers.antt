use Rattle.std.proofs.Common.{[], ◌∷◌, inl, sym, subst, ◌∙◌, ⊎_elim, true≢false}
use Rattle.herm_model.specs.Lists.{IsIn}
use Rattle.herm_model.proofs.Lists.{in-append_left, in-append_right}
use Rattle.herm_flow.proofs.calls.add_placed.Goals as goal

pub returns-then-not-is_there : goal.returns-then-not-is_there
returns-then-not-is_there c = record { added = λ n h. ⊎_elim (λ m. m) (λ b. absurd (true≢false (sym b.1 ∙ (sym c.is_placed-is_there.ensures.placed ∙ c.if-not-is_there.true)))) h }

pub returns : goal.returns
returns c = record { added = λ n h. subst (IsIn n) (sym c.in_ok-push.ensures.items) (⊎_elim (λ m. in-append_left n c.args.common.now.items (c.args.number ∷ []) m) (λ b. in-append_right n c.args.common.now.items (c.args.number ∷ []) (inl b.0)) h) }
