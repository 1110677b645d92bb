-- The name that stands at an exception's number.
use Rattle.std.proofs.Common.{◌≡◌, ◌<◌, ◌≤◌, ℕ, zero, suc, List, [], ◌∷◌, length, slice_get, get_or, None, refl, sym, ap, arith}
use Rattle.std.proofs.lemmas.Option.{slice_get_read}
use Rattle.herm_model.specs.Lists.{list_of}
use Rattle.herm_journal.specs.Entries.{Text}

pub name_is : (names : List Text) (e : ℕ) (name : Text) → e < length names → name ≡ get_or names e name → name ≡ list_of (λ (t : Text). t) (slice_get names e)
name_is names e name h is = sym (ap (list_of (λ (t : Text). t)) (slice_get_read names (length names) e name refl h is))

past : (names : List Text) (e : ℕ) → length names ≤ e → slice_get names e ≡ None
past [] e h = refl
past (n ∷ names) zero h = absurd (omega (arith, h))
past (n ∷ names) (suc e) h = past names e (omega (arith, h))

pub no_name : (names : List Text) (e : ℕ) → length names ≤ e → [] ≡ list_of (λ (t : Text). t) (slice_get names e)
no_name names e h = sym (ap (list_of (λ (t : Text). t)) (past names e h))
