-- Messages of ports, by the shapes of their types.
use Rattle.std.proofs.Common.{◌≡◌, ℕ, List, [], ◌∷◌, Bool, false, ◌&&◌, Some, None, slice_get, sym, ap, ◌∙◌}
use Rattle.herm_model.specs.Paths.{Fact}
use Rattle.herm_model.specs.Types.{Shape, TypeTable}
use Rattle.herm_model.specs.Typed.{whole, partly}
use Rattle.herm_model.specs.Values.{Cell}
use Rattle.herm_suits.specs.Decided.{is_of}
use Rattle.herm_suits.specs.Exact.{is_exact, is_message_of, is_of_port, is_message}

module _ {N : Type 0} (table : TypeTable) where
  pub none-listed : (t : ℕ) (fs : List Fact) (c : Cell N) (b : Bool) → fs ≡ [] → b ≡ is_of whole table t c → b ≡ is_message_of table t fs c
  none-listed t fs c b e h = h ∙ ap (λ fs. is_message_of table t fs c) (sym e)

  pub some-listed : (t : ℕ) (fs : List Fact) (c : Cell N) (f : Fact) (more : List Fact) → fs ≡ f ∷ more → (is_of partly table t c && is_exact c fs) ≡ is_message_of table t fs c
  some-listed t fs c f more e = ap (λ fs. is_of partly table t c && is_exact c fs) e ∙ ap (λ fs. is_message_of table t fs c) (sym e)

  pub port-there : (port : ℕ) (s : Shape) (c : Cell N) (b : Bool) → slice_get table port ≡ Some s → b ≡ is_of_port table (Some s) c → b ≡ is_message table port c
  port-there port s c b e h = h ∙ ap (λ o. is_of_port table o c) (sym e)

  pub no-port : (port : ℕ) (c : Cell N) → slice_get table port ≡ None → false ≡ is_message table port c
  no-port port c e = ap (λ o. is_of_port table o c) (sym e)

pub ruleset listed = (none-listed, some-listed)

pub ruleset ports = (port-there, no-port)
