-- The values of the parameters of mode in, whatever they are read of, and the callmessage that is assembled of them.
use Rattle.std.proofs.Common.{◌≡◌, ℕ, ◌+◌, List, [], ◌∷◌, map, filter, cond, Some, option_map, refl, ap, subst}
use Rattle.std.specs.Prelude.{⊤}
use Rattle.herm_model.specs.Types.{TypeTable, Mode, by_in, by_inout, by_out, Parameter}
use Rattle.herm_model.specs.Values.{Kind, Cell, Parts, no_parts, gap, part, Value}
use Rattle.herm_model.specs.CellNames.{count, copy_from, copy_in}
use Rattle.herm_model.specs.Typed.{whole, exactly, parameter_content, Content, Fits, IsFull}
use Rattle.herm_model.specs.laws.ArgumentLaws.{types_by}
use Rattle.herm_model.proofs.Options.{none-not_some, some-injective, map-some}
use Rattle.herm_journal.specs.Messages.{AreFull}
use Rattle.herm_journal.specs.PartTypes.{each, IsPlaced, ArePlaced}
use Rattle.herm_forms.specs.Frames.{Name}
use Rattle.herm_forms.specs.Callmessages.{assemble}
use Rattle.herm_forms.specs.Acts.{is_inout}
use Rattle.herm_forms.proofs.forms.Assignments.{copied-full}
use Rattle.herm_forms.proofs.placed.PlacedParts.{Agrees, copy-placed}
use Rattle.herm_forms.proofs.placed.PlacedWants.{AreListed}

abbrev pub modes_of : List Parameter → List Mode
modes_of params = map (λ (p : Parameter). p.mode) params

-- a value for each parameter of mode in, with a property at the parameter's type
module _ (P : ℕ → Value → Type 0) where
  abbrev pub InputIs : Mode → ℕ → Parts ⊤ → (Parts ⊤ → Type 0) → Type 0
  InputIs by_in t no_parts more = ⊥
  InputIs by_in t (gap ps) more = ⊥
  InputIs by_in t (part v ps) more = P t v × more ps
  InputIs by_inout t ps more = more ps
  InputIs by_out t ps more = more ps

  abbrev pub InputsAre : List Parameter → Parts ⊤ → Type 0
  InputsAre [] no_parts = ⊤
  InputsAre [] (gap ps) = ⊥
  InputsAre [] (part v ps) = ⊥
  InputsAre (p ∷ params) ps = InputIs p.mode p.content ps (InputsAre params)

-- full values, with as many full ones that move, are assembled to full parameters
module _ (types : TypeTable) (copy : ℕ → Name) where
  abbrev content_of : Parameter → Content
  content_of p = parameter_content whole p.mode p.content

  pub record Assembled (modes : List Mode) (contents : List Content) (inputs : Parts ⊤) (s : ℕ) (moved : List (Cell Name)) : Type 0 where
    pub parts : Parts Name
    pub is : assemble modes (copy_in copy s inputs) moved ≡ Some parts
    pub fits : Fits types (exactly contents) parts

  abbrev Assembles : List Parameter → Type 0
  Assembles params = (inputs : Parts ⊤) (s : ℕ) (moved : List (Cell Name)) → InputsAre (IsFull types) params inputs → AreFull types (types_by is_inout params) moved → Assembled (modes_of params) (map content_of params) inputs s moved

  one-more : (m : Mode) (p : Parameter) (params : List Parameter) → Assembles params → (inputs : Parts ⊤) (s : ℕ) (moved : List (Cell Name)) → InputIs (IsFull types) m p.content inputs (InputsAre (IsFull types) params)
      → AreFull types (map (λ (p : Parameter). p.content) (cond (is_inout m) (p ∷ filter (λ (p : Parameter). is_inout p.mode) params) (filter (λ (p : Parameter). is_inout p.mode) params))) moved
      → Assembled (m ∷ modes_of params) (parameter_content whole m p.content ∷ map content_of params) inputs s moved
  one-more by_in p params again no_parts s moved h k = absurd h
  one-more by_in p params again (gap inputs) s moved h k = absurd h
  one-more by_in p params again (part v inputs) s moved h k =
      let r = again inputs (s + count v) moved h.1 k in
      record { parts = part (copy_from copy s v) r.parts; is = ap (option_map (part (copy_from copy s v))) r.is; fits = (copied-full types p.content copy s v h.0, r.fits) }
  one-more by_inout p params again inputs s [] h k = absurd k
  one-more by_inout p params again inputs s (d ∷ moved) h k =
      let r = again inputs s moved h k.1 in
      record { parts = part d r.parts; is = ap (option_map (part d)) r.is; fits = (k.0, r.fits) }
  one-more by_out p params again inputs s moved h k =
      let r = again inputs s moved h k in
      record { parts = gap r.parts; is = ap (option_map gap) r.is; fits = (tt, r.fits) }

  pub assembled : (params : List Parameter) → Assembles params
  assembled [] no_parts s [] h k = record { parts = no_parts; is = refl; fits = tt }
  assembled [] no_parts s (d ∷ moved) h k = absurd k
  assembled [] (gap inputs) s moved h k = absurd h
  assembled [] (part v inputs) s moved h k = absurd h
  assembled (p ∷ params) inputs s moved h k = one-more p.mode p params (assembled params) inputs s moved h k

-- values at places of their types, with such ones that move, are assembled to parameters at places of theirs
module _ (types : TypeTable) (P : ℕ → Kind → Type 0) (agrees : Agrees types P) (copy : ℕ → Name) where
  abbrev Stood : List Parameter → Type 0
  Stood params = (inputs : Parts ⊤) (s : ℕ) (moved : List (Cell Name)) (ps : Parts Name) → InputsAre (IsPlaced types P) params inputs → AreListed types P (types_by is_inout params) moved → assemble (modes_of params) (copy_in copy s inputs) moved ≡ Some ps
      → ArePlaced types P (each (map (λ (p : Parameter). p.content) params)) ps

  one-stands : (m : Mode) (p : Parameter) (params : List Parameter) → Stood params → (inputs : Parts ⊤) (s : ℕ) (moved : List (Cell Name)) (ps : Parts Name) → InputIs (IsPlaced types P) m p.content inputs (InputsAre (IsPlaced types P) params)
      → AreListed types P (map (λ (p : Parameter). p.content) (cond (is_inout m) (p ∷ filter (λ (p : Parameter). is_inout p.mode) params) (filter (λ (p : Parameter). is_inout p.mode) params))) moved
      → assemble (m ∷ modes_of params) (copy_in copy s inputs) moved ≡ Some ps → ArePlaced types P (each (p.content ∷ map (λ (p : Parameter). p.content) params)) ps
  one-stands by_in p params again no_parts s moved ps h k is = absurd h
  one-stands by_in p params again (gap inputs) s moved ps h k is = absurd h
  one-stands by_in p params again (part v inputs) s moved ps h k is =
      let r = map-some (part (copy_from copy s v)) (assemble (modes_of params) (copy_in copy (s + count v) inputs) moved) ps is in
      subst (ArePlaced types P (each (p.content ∷ map (λ (p : Parameter). p.content) params))) r.2 (copy-placed types P agrees copy s p.content v h.0, again inputs (s + count v) moved r.0 h.1 k r.1)
  one-stands by_inout p params again inputs s [] ps h k is = none-not_some is
  one-stands by_inout p params again inputs s (d ∷ moved) ps h k is =
      let r = map-some (part d) (assemble (modes_of params) (copy_in copy s inputs) moved) ps is in
      subst (ArePlaced types P (each (p.content ∷ map (λ (p : Parameter). p.content) params))) r.2 (k.0, again inputs s moved r.0 h k.1 r.1)
  one-stands by_out p params again inputs s moved ps h k is =
      let r = map-some gap (assemble (modes_of params) (copy_in copy s inputs) moved) ps is in
      subst (ArePlaced types P (each (p.content ∷ map (λ (p : Parameter). p.content) params))) r.2 (again inputs s moved r.0 h k r.1)

  pub inputs-stand : (params : List Parameter) → Stood params
  inputs-stand [] no_parts s [] ps h k is = subst (ArePlaced types P (each [])) (some-injective is) tt
  inputs-stand [] no_parts s (d ∷ moved) ps h k is = none-not_some is
  inputs-stand [] (gap inputs) s moved ps h k is = absurd h
  inputs-stand [] (part v inputs) s moved ps h k is = absurd h
  inputs-stand (p ∷ params) inputs s moved ps h k is = one-stands p.mode p params (inputs-stand params) inputs s moved ps h k is
