-- What a typed form leaves of a process: sound values, full rows to visit, a work list of inports and callmessages, and its call.
use Rattle.std.proofs.Common.{◌≡◌, ◌⊎◌, inl, inr, ℕ, List, [], ◌∷◌, Bool, true, false, cond, nat_eq, Option, Some, None, refl, sym, ap, ◌∙◌, subst}
use Rattle.std.specs.Prelude.{IsTrue, ⊤}
use Rattle.std.proofs.lemmas.Bool.{eqb-true}
use mathlib.Core.Bool.{false≢true}
use Rattle.herm_model.specs.Lists.{IsIn}
use Rattle.herm_model.specs.Paths.{Path, Fact}
use Rattle.herm_model.specs.Expressions.{Atom}
use Rattle.herm_model.specs.Statements.{Form, For, Call, Process}
use Rattle.herm_model.specs.FactsOfStatements.{needs}
use Rattle.herm_model.specs.Outcomes.{Outcome, raised, disconnected}
use Rattle.herm_model.specs.Values.{Parts}
use Rattle.herm_model.specs.Typed.{Fits, many}
use Rattle.herm_model.proofs.Options.{none-not_some, some-injective}
use Rattle.herm_journal.specs.Actions.{put, hear}
use Rattle.herm_journal.specs.Messages.{CellAction, CellReply}
use Rattle.herm_forms.specs.Frames.{Name, Loop, Frame, Completion, goes, stays, stuck, if_there, drop, finalise_at_once}
use Rattle.herm_forms.specs.LoopForms.{rows_for}
use Rattle.herm_forms.specs.Modules.{Module}
use Rattle.herm_forms.specs.Callmessages.{Composed}
use Rattle.herm_forms.specs.Acts.{is_action, is_out, arguments_at, composed, act, settle, settle_reply}
use Rattle.herm_forms.specs.laws.EdgeLaws.{AreSound, held_after}
use Rattle.herm_forms.specs.OpenCalls.{Calling, calling_form, IsReply}
use Rattle.herm_forms.specs.laws.CallLaws.{without_lent}
use Rattle.herm_forms.specs.Incoming.{ComesIn}
use Rattle.herm_forms.specs.laws.TypedForms.{IsTypedIn}
use Rattle.herm_forms.proofs.KeptBodies.{IsCall, Opens, All, went, stayed, never, all-act, all-settle, all-settle_reply}
use Rattle.herm_forms.proofs.forms.PlainForms
use Rattle.herm_forms.proofs.typed.EachForm.{each-local, each-answer}
use Rattle.herm_forms.proofs.typed.FormsSound.{forms-sound}
use Rattle.herm_forms.proofs.typed.CallForms.{open-calls}
use Rattle.herm_source.specs.States.{own_name}
use Rattle.herm_source.specs.Local.{row_of, row_type}
use Rattle.herm_source.proofs.sound.Shapes.{LoopsFit, AreLists, AreItems, IsAtWork, IsShaped, HasLoops, work-kept, any-work, shape-kept, loops-kept}
use Rattle.herm_source.proofs.sound.LoopLists.{same-differ}

abbrev pub Found : Module → Form → (Fact → Bool) → Type 0
Found c form has = (f : Fact) → IsIn f (needs c.types c.variables form) → IsTrue (has f)

-- the rows that the loop of a statement has yet to visit are full
pub rows-fit : (c : Module) (s t : ℕ) → row_type c s ≡ Some t → (loops : List (Loop Name)) → LoopsFit c loops → (rs : Parts Name) → rows_for s loops ≡ Some rs → Fits c.types (many t) rs
rows-fit c s t row [] fit rs e = none-not_some e
rows-fit c s t row (l ∷ loops) fit rs e = by (nat_eq l.statement s) refl e (rows-fit c s t row loops (λ m h. fit m (inr h)) rs)
  where
    by : (b : Bool) → nat_eq l.statement s ≡ b → cond b (Some l.rows) (rows_for s loops) ≡ Some rs → (rows_for s loops ≡ Some rs → Fits c.types (many t) rs) → Fits c.types (many t) rs
    by true is e again =
        let own = fit l (inl refl) in
        let same : own.0 ≡ t = some-injective (sym own.1 ∙ ap (row_type c) (eqb-true l.statement s is) ∙ row) in
        subst (λ rs. Fits c.types (many t) rs) (some-injective e) (subst (λ t. Fits c.types (many t) l.rows) same own.2)
    by false is e again = again e

module _ (c : Module) (form : Form) (has : Fact → Bool) where
  -- a result that goes on leaves sound values and the rest as it should be, with no call open
  abbrev pub GoesWell : Completion Name → Type 0
  GoesWell (goes o b) = AreSound c (held_after c.types c.variables form o has) b.variables × IsShaped c None b
  GoesWell (stays b) = ⊥
  GoesWell stuck = ⊤

  -- one that stays has opened a call, and has the loops that were there
  abbrev pub OpensCall : List (Loop Name) → Frame Name → Type 0
  OpensCall loops b = (k : Calling) × (calling_form form ≡ Some k) × AreSound c (without_lent c k has) b.variables × (b.loops ≡ loops) × AreItems b.work × (n : ℕ) × (b.call ≡ Some n)

  abbrev pub AnswersWell : List (Loop Name) → Completion Name → Type 0
  AnswersWell loops (goes o b) = AreSound c (held_after c.types c.variables form o has) b.variables × IsShaped c None b
  AnswersWell loops (stays b) = OpensCall loops b
  AnswersWell loops stuck = ⊤

  goes-well : (r : Completion Name) → All (IsShaped c None) (λ b. ⊥) r → ((o : Outcome) (b : Frame Name) → r ≡ goes o b → AreSound c (held_after c.types c.variables form o has) b.variables) → GoesWell r
  goes-well (goes o b) (went o' b' h) sound = (sound o b refl, h)
  goes-well (stays b) (stayed b' h) sound = absurd h
  goes-well stuck never sound = tt

abbrev is_staying : Completion Name → Bool
is_staying (stays b) = true
is_staying _ = false

module _ (exceptions : ℕ) (processes : List Process) (c : Module) where
  -- what a local step leaves
  pub acts-well : (form : Form) (number : ℕ) → IsTypedIn exceptions processes c form → ((t : ℕ) → row_of c form ≡ Some t → row_type c number ≡ Some t) → (has : Fact → Bool) (b : Frame Name)
      → AreSound c has b.variables → Found c form has → IsShaped c None b → GoesWell c form has (act own_name c number form b)
  acts-well (For r t) number is row has b sound found shaped = by (act own_name c number (For r t) b) refl (all-act own_name (IsAtWork c None) (λ b. ⊥) (work-kept c None) c number (For r t) b (shaped.1, shaped.2) (λ _. any-work c None))
    where
      by : (x : Completion Name) → act own_name c number (For r t) b ≡ x → All (IsAtWork c None) (λ b. ⊥) x → GoesWell c (For r t) has x
      by (goes o b') at (went o' b'' h) =
          let type = is.typed.3.0.0 in
          let row' = row is.typed.0 type in
          let x = (forms-sound exceptions processes c).visit r t is is.typed.0 type own_name number has b b' o sound (rows-fit c number is.typed.0 row' b.loops shaped.0.0) at in
          (x.0, (((λ l m. each l (x.1 l m)), same-differ number b.loops b'.loops x.2 shaped.0.1), h.0, h.1))
        where
          each : (l : Loop Name) → IsIn l b.loops ⊎ ((l.statement ≡ number) × Fits c.types (many is.typed.0) l.rows) → (t : ℕ) × (row_type c l.statement ≡ Some t) × Fits c.types (many t) l.rows
          each l (inl h) = shaped.0.0 l h
          each l (inr h) = (is.typed.0, ap (row_type c) h.0 ∙ row is.typed.0 is.typed.3.0.0, h.1)
      by (stays b') at (stayed b'' h) = absurd h
      by stuck at never = tt
  acts-well form number is row has b sound found shaped =
      goes-well c form has (act own_name c number form b) (all-act own_name (IsShaped c None) (λ b. ⊥) (shape-kept c None) c number form b shaped (λ v. absurd v))
      (λ o b' at. each-local exceptions processes c form (λ v. v) is own_name number has b b' o sound found at)

  -- only a call stays where it is, once its callmessage is placed
  abbrev Placed : (form : Form) → (Fact → Bool) → Frame Name → Type 0
  Placed form has b = (k : Calling) × (calling_form form ≡ Some k) × AreSound c (without_lent c k has) b.variables

  stays-placed : (form : Form) → IsCall form → (place : ℕ) (action : CellAction Name) (has : Fact → Bool) (b b' : Frame Name) → AreSound c has b.variables → settle own_name c form place action b ≡ stays b' → Placed form has b'
  stays-placed (Call o arguments) is place (put (Some n) m) has b b' sound at = (record { port = o; arguments = arguments }, refl, (open-calls exceptions processes c (record { port = o; arguments = arguments })).placed own_name place n m has b b' sound at)
  stays-placed (Call o arguments) is place (put None m) has b b' sound at = by (composed own_name c o arguments b) at
    where
      by : {A : Type 0} (x : Option (Composed Name)) → if_there (λ (x : Composed Name). goes (raised disconnected) (drop (arguments_at c is_out o arguments) (finalise_at_once m x.frame))) x ≡ stays b' → A
      by None at = absurd (false≢true (ap is_staying at))
      by (Some x) at = absurd (false≢true (ap is_staying at))
  stays-placed (Call o arguments) is place action has b b' sound at = absurd (false≢true (ap is_staying at))
  stays-placed form is place action has b b' sound at = absurd is

  -- what an answer leaves
  pub settles-well : (form : Form) → IsTypedIn exceptions processes c form → IsTrue (is_action c form) → (place : ℕ) (action : CellAction Name) (has : Fact → Bool) (b : Frame Name)
      → AreSound c has b.variables → Found c form has → ComesIn own_name c form b place action → IsShaped c None b → AnswersWell c form has b.loops (settle own_name c form place action b)
  settles-well form is acts place action has b sound found comes shaped = by (settle own_name c form place action b) refl (all-settle own_name (HasLoops c None b.loops) Opened (loops-kept c None b.loops) c form place action b ((shaped.1, shaped.2), refl) opens)
    where
      Opened : Frame Name → Type 0
      Opened b' = IsCall form × (b'.loops ≡ b.loops) × AreItems b'.work × (n : ℕ) × (b'.call ≡ Some n)

      opens : IsCall form → Opens (HasLoops c None b.loops) Opened
      opens call n b' h = (call, h.1, h.0.0, n, refl)

      by : (x : Completion Name) → settle own_name c form place action b ≡ x → All (HasLoops c None b.loops) Opened x → AnswersWell c form has b.loops x
      by (goes o b') at (went o' b'' h) = (each-answer exceptions processes c form is acts own_name place action has b b' o sound found comes at, (subst (AreLists c) (sym h.1) shaped.0, h.0.0, h.0.1))
      by (stays b') at (stayed b'' h) = let p = stays-placed form h.0 place action has b b' sound at in (p.0, p.1, p.2, h.1, h.2, h.3, h.4)
      by stuck at never = tt

  -- what the reply to an open call leaves
  heard : (o : Path) (arguments : List Atom) → IsTypedIn exceptions processes c (Call o arguments) → (call : ℕ) (action : CellAction Name) (has : Fact → Bool) (b b' : Frame Name) (x : Outcome)
      → ((n : ℕ) (r : CellReply Name) → action ≡ hear n r → IsReply c (record { port = o; arguments = arguments }) r) → AreSound c (without_lent c (record { port = o; arguments = arguments }) has) b.variables
      → settle_reply c (Call o arguments) call action b ≡ goes x b' → AreSound c (held_after c.types c.variables (Call o arguments) x has) b'.variables
  heard o arguments is call (hear n r) has b b' x reply sound at = (open-calls exceptions processes c (record { port = o; arguments = arguments })).replied is n call r has b b' x (reply n r refl) sound at
  heard o arguments is call action has b b' x reply sound at = PlainForms.never x b' at

  pub replies-well : (form : Form) (k : Calling) → calling_form form ≡ Some k → IsTypedIn exceptions processes c form → (call : ℕ) (action : CellAction Name) (has : Fact → Bool) (b : Frame Name)
      → ((n : ℕ) (r : CellReply Name) → action ≡ hear n r → IsReply c k r) → AreSound c (without_lent c k has) b.variables → IsShaped c None (record b { call = None }) → GoesWell c form has (settle_reply c form call action b)
  replies-well (Call o arguments) k same is call action has b reply sound shaped =
      let e : record { port = o; arguments = arguments } ≡ k = some-injective same in
      goes-well c (Call o arguments) has (settle_reply c (Call o arguments) call action b) (all-settle_reply own_name (IsShaped c None) (λ b. ⊥) (shape-kept c None) c (Call o arguments) call action b shaped)
      (λ x b' at. heard o arguments is call action has b b' x (λ n r h. subst (λ k. IsReply c k r) (sym e) (reply n r h)) (subst (λ k. AreSound c (without_lent c k has) b.variables) (sym e) sound) at)
  replies-well form k same is call action has b reply sound shaped = none-not_some same
