-- What answers leave keeps a property of cells with the types of their places.
use Rattle.std.proofs.Common.{◌≡◌, ℕ, suc, List, [], ◌∷◌, Option, Some, None, refl, sym, subst}
use Rattle.std.specs.Prelude.{slice_get, ⊤}
use Rattle.herm_model.specs.Paths.{Path}
use Rattle.herm_model.specs.Types.{inport, type_at}
use Rattle.herm_model.specs.Outcomes.{Outcome, ok, raised, disconnected}
use Rattle.herm_model.specs.Values.{Kind, an_inport, Cell, cell, no_parts}
use Rattle.herm_journal.specs.Actions.{make_port, put, take, close, answer}
use Rattle.herm_journal.specs.Messages.{CellAction}
use Rattle.herm_journal.specs.PartTypes.{part_types_at, IsPlaced, ArePlaced}
use Rattle.herm_forms.specs.Frames
use Rattle.herm_forms.specs.Frames.{Name, Frame, goes, stuck, cleared, drop, putting, putting_all, finalise_all, finalise_at_once}
use Rattle.herm_forms.specs.Exchanges
use Rattle.herm_forms.specs.Exchanges.{receive_at}
use Rattle.herm_forms.specs.ClosesAndAnswers.{work_done}
use Rattle.herm_forms.specs.Modules.{Module}
use Rattle.herm_forms.proofs.placed.PlacedParts.{Agrees}
use Rattle.herm_forms.proofs.placed.PlacedForms.{BodyIs, AllAre, put-is, all-cond, all-putting, all-moving, all-is, end-is}

module _ {N : Type 0} (name : Name → N) (c : Module) (P : ℕ → Kind → Type 0) (agrees : Agrees c.types P) (row : ℕ → Option ℕ) where
  abbrev Typed : Path → ℕ → Type 0
  Typed p t = type_at c.types c.variables p ≡ Some t

  -- a new inport of this type
  pub new-is : (x : Path) (t message : ℕ) (declared : List _) (a : CellAction N) (b : Frame N) → Typed x t → slice_get c.types t ≡ Some (inport message declared) → ((n : ℕ) → a ≡ make_port (Some n) → P t (an_inport n))
      → BodyIs name c P agrees row b → AllAre name c P agrees row (Exchanges.new_inport name x a b)
  new-is x t message declared (make_port (Some n)) b type shape has e =
      all-putting name c P agrees row x t ok (cell (name (b.number, b.serial)) (an_inport n) no_parts) (record b { serial = suc b.serial }) type
      (has n refl, subst (λ o. ArePlaced c.types P {N = N} (part_types_at o (an_inport n)) no_parts) (sym shape) tt) e
  new-is x t message declared (make_port None) b type shape has e = e
  new-is x t message declared a b type shape has e = tt

  -- a message that comes back
  pub send-is : (lost : List Path) (x : Path) (t : ℕ) (a : CellAction N) (b : Frame N) → Typed x t → ((m : Cell N) → a ≡ put None m → IsPlaced c.types P t m) → BodyIs name c P agrees row b → AllAre name c P agrees row (Exchanges.send lost x a b)
  send-is lost x t (put (Some k) m) b type back e = all-moving name c P agrees row lost x t (λ d b. goes ok b) b type e (λ d b' h e'. e')
  send-is lost x t (put None m) b type back e =
      all-moving name c P agrees row lost x t (λ d b. putting x (raised disconnected) m b) b type e (λ d b' h e'. all-putting name c P agrees row x t (raised disconnected) m b' type (back m refl) e')
  send-is lost x t a b type back e = tt

  -- a message that was taken
  pub receive-is : (x : Path) (t : ℕ) (a : CellAction N) (b : Frame N) → Typed x t → ((number : ℕ) (m : Cell N) → a ≡ take number m → IsPlaced c.types P t m) → BodyIs name c P agrees row b → AllAre name c P agrees row (Exchanges.receive x a b)
  receive-is x t (take number m) b type brought e = all-putting name c P agrees row x t ok m b type (brought number m refl) e
  receive-is x t a b type brought e = tt

  -- the front of the work list
  pub work-is : (item : Cell N) (a : CellAction N) (b : Frame N) → BodyIs name c P agrees row b → AllAre name c P agrees row (work_done item a b)
  work-is item (close count left) b e = end-is name c P agrees row item (finalise_all left b) (all-is name c P agrees row left b e)
  work-is item (answer k r) b e = end-is name c P agrees row item b e
  work-is item a b e = tt

  -- the values of a reply, at the types of the arguments that they go to
  abbrev pub ArePlacedAt : List Path → List (Cell N) → Type 0
  ArePlacedAt [] cs = ⊤
  ArePlacedAt (p ∷ paths) [] = ⊤
  ArePlacedAt (p ∷ paths) (d ∷ cs) = ((t : ℕ) × Typed p t × IsPlaced c.types P t d) × ArePlacedAt paths cs

  pub putting-is : (paths : List Path) (o : Outcome) (cs : List (Cell N)) (b : Frame N) → ArePlacedAt paths cs → BodyIs name c P agrees row b → AllAre name c P agrees row (putting_all paths o cs b)
  putting-is [] o [] b h e = e
  putting-is [] o (d ∷ cs) b h e = tt
  putting-is (p ∷ paths) o [] b h e = tt
  putting-is (p ∷ paths) o (d ∷ cs) b h e =
      all-cond name c P agrees row _ (putting_all paths o cs (Frames.put p d b)) stuck (putting-is paths o cs (Frames.put p d b) h.1 (put-is name c P agrees row p h.0.0 d b h.0.1 h.0.2 e)) tt
