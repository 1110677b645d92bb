use Rattle.std.proofs.Common.{◌≡◌, [], ◌∷◌, ℕ, Some, cond, nat_eq, inl, inr, sym, ap, subst, ◌∙◌, ⊎_elim, length, arith}
use Rattle.herm_model.specs.Lists.{IsIn}
use Rattle.herm_model.proofs.Lists.{in-append_left, in-append_right, in-append_cases}
use Rattle.herm_flow.specs.NumberTables.{at_number}
use Rattle.herm_flow.specs.Touched.{has_place}
use Rattle.herm_flow.proofs.Placed.{placed-in, placed-more}
use Rattle.herm_flow.proofs.touched.push_placed.Goals as goal

pub returns-then-is_there-clause-more : goal.returns-then-is_there-clause-more
returns-then-is_there-clause-more c = λ n h. ⊎_elim (λ m. m) (λ e. subst (λ x. IsIn x c.args.found.now.items) (sym e) (subst (IsIn c.args.number) c.as_slice-2.ensures.value (placed-in c.as_slice.result.now c.as_slice-2.result.now c.args.number (sym c.is_placed-is_there.ensures.placed ∙ c.if-is_there.true)))) h

pub returns-clause-placed : goal.returns-clause-placed
returns-clause-placed c =
    let place : c.len-place.result ≡ length c.args.found.now.items = omega (arith, c.len-place.ensures, c.args.found.now.ok) in
    placed-more c.args.places.now.items _ c.args.found.now.items _ c.args.number
    (ap (λ places. has_place places c.args.found.now.items c.args.number) (sym c.as_slice.ensures.value) ∙ (ap (λ found. has_place c.as_slice.result.now found c.args.number) (sym c.as_slice-2.ensures.value) ∙ (sym c.is_placed-is_there.ensures.placed ∙ c.if-is_there.false)))
    (λ m. c.in_ok-put.ensures.entries m ∙ ap (λ i. cond (nat_eq c.args.number m) (Some i) (at_number c.args.places.now.items m)) place)
    c.in_ok-push.ensures.items c.requires.placed

pub returns-clause-more : goal.returns-clause-more
returns-clause-more c = λ n h. subst (IsIn n) (sym c.in_ok-push.ensures.items) (⊎_elim (λ m. in-append_left n c.args.found.now.items (c.args.number ∷ []) m) (λ e. in-append_right n c.args.found.now.items (c.args.number ∷ []) (inl e)) h)

pub returns-clause-only : goal.returns-clause-only
returns-clause-only c = λ n m. ⊎_elim (λ a. inl a) (λ b. ⊎_elim (λ e. inr e) (λ x. absurd x) b) (in-append_cases n c.args.found.now.items (c.args.number ∷ []) (subst (IsIn n) c.in_ok-push.ensures.items m))
