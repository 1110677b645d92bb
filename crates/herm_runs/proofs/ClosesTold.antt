-- What the entry of a close tells.
use Rattle.std.proofs.Common.{◌≡◌, ℕ, List, [], ◌∷◌, ◌++◌, map, length, true, refl, sym, ap, ◌∙◌, append-nil, arith, true≢false}
use Rattle.std.specs.Prelude.{IsTrue, IsFalse, ⊤}
use Rattle.herm_model.specs.Lists.{all_pass}
use Rattle.herm_model.specs.Values.{Value}
use Rattle.herm_model.specs.ValueTexts.{text_of}
use Rattle.herm_model.specs.WellMade.{is_well_made, may_go_on}
use Rattle.herm_model.proofs.Lists.{and-both, cons-head}
use Rattle.herm_model.proofs.Options.{some-injective, none-not_some}
use Rattle.herm_model.proofs.UntypedSpelling.{value-split}
use Rattle.herm_journal.specs.Actions.{close}
use Rattle.herm_journal.specs.Entries.{Text}
use Rattle.herm_journal.specs.Messages.{CellAction}
use Rattle.herm_journal.specs.Renaming.{forget_name}
use Rattle.herm_system.specs.PutAside.{IsToldBy}
use Rattle.herm_runs.specs.examples.Countdowns.{counting_down}
use Rattle.herm_runs.specs.examples.Closes.{closing, closed_with, Tells}
use Rattle.herm_runs.proofs.OneState.{texts_left}

-- No well made value has a text that begins with that of another and goes on otherwise.
no-such : (m a : Value) (b : ℕ) (rest : List ℕ) → IsTrue (is_well_made m) → IsTrue (is_well_made a) → IsFalse (may_go_on (b ∷ rest)) → text_of m ≡ text_of a ++ b ∷ rest → ⊥
no-such m a b rest h g x e =
    let split = value-split m a [] (b ∷ rest) h g refl x (append-nil (text_of m) ∙ e) in
    omega (arith, ap length split.1)

no-message : (ms : List Value) (t : Text) (a : Value) (b : ℕ) (rest : List ℕ) → IsTrue (all_pass is_well_made ms) → IsTrue (is_well_made a) → IsFalse (may_go_on (b ∷ rest)) → t ≡ text_of a ++ b ∷ rest → map text_of ms ≡ t ∷ [] → ⊥
no-message [] t a b rest h g x is e = let p : ⊥ = omega (arith, ap length e) in p
no-message (m ∷ n ∷ ms) t a b rest h g x is e = let p : ⊥ = omega (arith, ap length e) in p
no-message (m ∷ []) t a b rest h g x is e = no-such m a b rest (and-both (is_well_made m) true h).0 g x (cons-head e ∙ is)

-- An entry of a close whose text begins with that of a well made value and goes on otherwise tells of nothing.
pub tells-nothing : (a : Value) (b : ℕ) (rest : List ℕ) → IsTrue (is_well_made a) → IsFalse (may_go_on (b ∷ rest)) → (action : CellAction ⊤) → IsToldBy (counting_down forget_name) closing (closed_with (text_of a ++ b ∷ rest)) action → ⊥
tells-nothing a b rest g x (close i ms) h = no-message ms (text_of a ++ b ∷ rest) a b rest h.suits g x refl (ap (λ y. y.1) (some-injective (ap texts_left h.text)))
tells-nothing a b rest g x action h = none-not_some (ap texts_left h.text)

-- a close with a message that is not well made is not told of
pub not-told : (t : Text) (m : Value) → IsFalse (is_well_made m) → Tells t m → ⊥
not-told t m is h = true≢false (sym (and-both (is_well_made m) true h.suits).0 ∙ is)
