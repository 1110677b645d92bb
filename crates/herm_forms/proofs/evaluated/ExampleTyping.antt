-- Which expressions of an example have types.
use Rattle.std.proofs.Common.{◌≡◌, ℕ, [], ◌∷◌, ◌||◌, Some, refl, sym, ap, ◌∙◌, subst, true≢false}
use Rattle.std.specs.Prelude.{slice_get, IsTrue}
use Rattle.herm_model.specs.Types.{Shape, by_in, by_out, boolean, integer, text, callmessage}
use Rattle.herm_model.specs.Copyable.{is_plain, is_composed, IsCopyable, plain, composed}
use Rattle.herm_model.specs.TypedExpressions.{is_boolean_shape}
use Rattle.herm_model.proofs.Lists.{or-left, or-right}
use Rattle.herm_model.proofs.Options.{some-injective}
use Rattle.herm_forms.specs.laws.ExpressionLaws.{example_types, ExampleTyping}

abbrev message_shape : Shape
message_shape = callmessage (record { mode = by_in; content = 1 } ∷ record { mode = by_out; content = 1 } ∷ []) []

no-shape : (s : Shape) → s ≡ message_shape → IsTrue (is_plain s || is_composed s) → ⊥
no-shape s e h = absurd (true≢false (sym h ∙ ap (λ s. is_plain s || is_composed s) e))

no-message : (t : ℕ) → 9 ≡ t → IsCopyable example_types t → ⊥
no-message t e (plain t' s f p) = no-shape s (some-injective (sym f ∙ ap (slice_get example_types) (sym e))) (or-left (is_plain s) (is_composed s) p)
no-message t e (composed t' s f p each) = no-shape s (some-injective (sym f ∙ ap (slice_get example_types) (sym e))) (or-right (is_plain s) (is_composed s) p)

pub example-typing : ExampleTyping
example-typing = record {
  test = (
    refl,
    0,
    boolean,
    refl,
    refl,
    (
      refl,
      1,
      integer,
      refl,
      refl,
      (refl, 2, refl, (refl, 2, text, refl, refl, (refl, refl), (refl, 1, refl, (refl, 1, integer, refl, refl, (refl, 1, refl, ((refl, refl), plain 1 integer refl refl)), (refl, refl))))),
      (refl, 8, 6, 0 ∷ [], (refl, refl), refl),
    ),
    (refl, 0, refl, ((refl, refl), plain 0 boolean refl refl)),
  );
  no_boolean = λ t h. let shape : Some integer ≡ Some boolean = subst (λ u. slice_get example_types u ≡ Some boolean) (sym (some-injective h.3.0.0)) h.2 in absurd (true≢false (sym (ap is_boolean_shape (some-injective shape))));
  no_copy = λ t h. no-message t (some-injective h.0.0) h.1;
  behind = refl;
  elsewhere = ((refl, refl), plain 1 integer refl refl);
}
