-- What is read at a path, also through components, has the path's type, and stands there among the typed cells.
use Rattle.std.proofs.Common.{◌≡◌, ℕ, List, [], ◌∷◌, Some}
use Rattle.herm_model.specs.Lists.{IsIn}
use Rattle.herm_model.specs.Paths.{Path}
use Rattle.herm_model.specs.Types.{TypeTable, type_at}
use Rattle.herm_model.specs.Values.{Kind, Cell, cell, kind_of, Parts, read_at}
use Rattle.herm_model.specs.Typed.{HaveTypes}
use Rattle.herm_model.proofs.Options.{none-not_some}
use Rattle.herm_journal.specs.PartTypes.{IsPlaced}
use Rattle.herm_system.specs.Kinds.{each, typed_in}
use Rattle.herm_forms.proofs.forms.ReadTypes
use Rattle.herm_forms.proofs.placed.PlacedParts.{read-placed}
use Rattle.herm_held.proofs.TypedPlaces.{With, variables-placed}

module _ (N : Type 0) (table : TypeTable) where
  pub record TypeRead (ts : List ℕ) (p : Path) (ps : Parts N) (c : Cell N) : Type 0 where
    pub type : ℕ
    pub at : type_at table ts p ≡ Some type
    pub typed : IsIn (type, kind_of c) (typed_in table (each ts) ps)

  own-kind : (P : ℕ → Kind → Type 0) (t : ℕ) (c : Cell N) → IsPlaced table P t c → P t (kind_of c)
  own-kind P t (cell n k ps) h = h.0

  pub type-read : (ts : List ℕ) (p : Path) (ps : Parts N) (c : Cell N) → HaveTypes table ts ps → read_at p ps ≡ Some c → TypeRead ts p ps c
  type-read ts [] ps c h e = none-not_some e
  type-read ts (i ∷ q) ps c h e =
      let x = ReadTypes.type-read N table ts i q ps c h e in
      let among : ℕ → Kind → Type 0 = λ t k. IsIn (t, k) (typed_in table (each ts) ps) in
      let placed = read-placed table (With table among) (λ t k w. w.1) ts i q ps c x.0 (variables-placed table among ts ps h (λ t k i. i)) e x.1 in
      record { type = x.0; at = x.1; typed = (own-kind (With table among) x.0 c placed).0 }
