-- The name that stands at an exception's number.
use Rattle.std.proofs.Common.{◌≡◌, ◌<◌, ℕ, List, length, slice_get, get_or, refl, sym, ap}
use Rattle.std.proofs.lemmas.Option.{slice_get_read}
use Rattle.herm_model.specs.Lists.{list_of}
use Rattle.herm_journal.specs.Entries.{Text}

pub name_is : (names : List Text) (e : ℕ) (name : Text) → e < length names → name ≡ get_or names e name → name ≡ list_of (λ (t : Text). t) (slice_get names e)
name_is names e name h is = sym (ap (list_of (λ (t : Text). t)) (slice_get_read names (length names) e name refl h is))
