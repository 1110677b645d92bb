-- The instructions of loops go on where control goes, and keep a list of full rows for each slot.
use Rattle.std.proofs.Common.{◌≡◌, inl, inr, ℕ, ◌+◌, List, [], ◌∷◌, ◌++◌, map, Bool, true, false, cond, not, nat_eq, Option, Some, option_and_then, refl, sym, ap, subst, ◌∙◌, true≢false}
use Rattle.std.specs.Prelude.{slice_get, filter, ⊤}
use Rattle.std.proofs.lemmas.Bool.{eq-eqb, eqb-true}
use Rattle.herm_model.specs.Lists.{IsIn, list_of}
use Rattle.herm_model.specs.Paths.{Path}
use Rattle.herm_model.specs.Types.{TypeTable}
use Rattle.herm_model.specs.CellNames.{count_in, copy_in, rename_in}
use Rattle.herm_model.specs.Expressions.{Literal}
use Rattle.herm_model.specs.Outcomes.{Outcome, ok, turn, done}
use Rattle.herm_model.specs.Statements.{Form, Differ}
use Rattle.herm_model.specs.FactsOfStatements.{present, room_for}
use Rattle.herm_model.specs.Typed.{many, Fits}
use Rattle.herm_model.specs.TypedStatements.{IsTarget}
use Rattle.herm_model.specs.TypedExpressions.{IsLiteralOf}
use Rattle.herm_model.specs.Values.{Parts, no_parts, gap, part, parts_of, cell_at, has_place, put_at, Value}
use Rattle.herm_model.specs.WellFormedTables.{IsType, IsWellFormedTable}
use Rattle.herm_model.proofs.FactTests.{IsIn-listed}
use Rattle.herm_model.proofs.Lists.{in-map, in-map_from, in-filter_from}
use Rattle.herm_model.proofs.Options.{none-not_some}
use Rattle.herm_model.proofs.Typing.{renamed-Fits, Fits-renamed}
use Rattle.herm_model.proofs.Renaming.{rename-copy_in, copy_in-constant}
use Rattle.herm_forms.specs.LoopForms.{rows_for, set_rows, next_row}
use Rattle.herm_forms.specs.Frames.{Name, Loop, Frame, goes, stuck, if_there, finalise_parts, put}
use Rattle.herm_forms.specs.LeavingLoops.{finalise_loops}
use Rattle.herm_forms.specs.laws.EdgeLaws.{AreDeep, AreSound, held_after}
use Rattle.herm_forms.proofs.evaluated.CopiedValues.{deep-at}
use Rattle.herm_forms.proofs.forms.PlainForms.{same_facts}
use Rattle.herm_forms.proofs.forms.ReadTypes.{is-table}
use Rattle.herm_forms.proofs.forms.SetTargets.{put-full}
use Rattle.herm_forms.proofs.forms.ToldFacts.{in-closed}
use Rattle.herm_forms.proofs.forms.VisitedRows.{old-loops}
use Rattle.herm_forms.proofs.typed.LocalGoes.{looked-there}
use Rattle.herm_forms.proofs.typed.Room.{has-parent, place-there}
use Rattle.herm_instructions.specs.Instructions.{LoopStart, LoopNext, LoopDrop}
use Rattle.herm_instructions.specs.Labels.{Slot, Label}
use Rattle.herm_instructions.specs.Images.{CodeModule, Image}
use Rattle.herm_instructions.specs.Operands.{type_of_literal}
use Rattle.herm_instructions.specs.Effects.{row_type, without_slot, slots_behind}
use Rattle.herm_instructions.proofs.FactsBehind.{facts-held_behind}
use Rattle.herm_code_machine.specs.ReadyCode.{ReadyCode}
use Rattle.herm_code_machine.specs.Effects.{drop_loop}
use Rattle.herm_code_machine.specs.CodeLocal.{AreSlots}
use Rattle.herm_code_machine.proofs.sound.AtLabels.{has_of, numbers, Holds, has_behind, holds-behind}
use Rattle.herm_code_machine.proofs.sound.EachEffect.{ready, processes, Goes, Found, deep-variables}

copied-rows : (types : TypeTable) (row : ℕ) (name : ℕ → Name) (s : ℕ) (ps : Parts Name) → Fits types (many row) ps → Fits types (many row) (copy_in name s ps)
copied-rows types row name s ps h =
    let none : Name → ⊤ = λ n. tt in
    let same : rename_in none (copy_in name s ps) ≡ rename_in none ps = rename-copy_in name none s ps ∙ copy_in-constant {N = Name} {M = ⊤} tt s ps in
    renamed-Fits none types (many row) (copy_in name s ps) (subst (Fits types (many row)) (sym same) (Fits-renamed none types (many row) ps h))

-- the lists have the numbers of the slots
pub slots-numbers : (types : TypeTable) (slots : List Slot) (loops : List (Loop Name)) → AreSlots types slots loops → numbers loops ≡ map (λ (s : Slot). s.number) slots
slots-numbers types [] [] h = refl
slots-numbers types [] (l ∷ loops) h = absurd h
slots-numbers types (s ∷ slots) [] h = absurd h
slots-numbers types (s ∷ slots) (l ∷ loops) h = ap (λ n. n ∷ numbers loops) h.0 ∙ ap (λ ns. s.number ∷ ns) (slots-numbers types slots loops h.2)

-- the rows of a slot
pub rows-there : (types : TypeTable) (slots : List Slot) (loops : List (Loop Name)) → AreSlots types slots loops → Differ (numbers loops) → (slot : Slot) → IsIn slot slots
    → (rs : Parts Name) × (rows_for slot.number loops ≡ Some rs) × Fits types (many slot.row) rs
rows-there types [] loops h d slot i = absurd i
rows-there types (s ∷ slots) [] h d slot i = absurd h
rows-there types (s ∷ slots) (l ∷ loops) h d slot (inl e) = (
  l.rows,
  ap (λ (b : Bool). cond b (Some l.rows) (rows_for slot.number loops)) (eq-eqb l.statement slot.number (h.0 ∙ ap (λ (s : Slot). s.number) (sym e))),
  subst (λ (s : Slot). Fits types (many s.row) l.rows) (sym e) h.1,
)
rows-there types (s ∷ slots) (l ∷ loops) h d slot (inr i) = by (nat_eq l.statement slot.number) refl (rows-there types slots loops h.2 d.1 slot i)
  where
    by : (b : Bool) → nat_eq l.statement slot.number ≡ b → (rs : Parts Name) × (rows_for slot.number loops ≡ Some rs) × Fits types (many slot.row) rs
        → (rs : Parts Name) × (cond b (Some l.rows) (rows_for slot.number loops) ≡ Some rs) × Fits types (many slot.row) rs
    by false e later = later
    by true e later =
        absurd (d.0 (subst (IsIn l.statement) (sym (slots-numbers types slots loops h.2)) (subst (λ n. IsIn n (map (λ (s : Slot). s.number) slots)) (sym (eqb-true l.statement slot.number e)) (in-map (λ (s : Slot). s.number) slot slots i))))

-- the rows of a slot changed
pub set-slots : (types : TypeTable) (slots : List Slot) (loops : List (Loop Name)) → AreSlots types slots loops → Differ (numbers loops) → (slot : Slot) → IsIn slot slots → (rs : Parts Name) → Fits types (many slot.row) rs
    → AreSlots types slots (set_rows slot.number rs loops) × (numbers (set_rows slot.number rs loops) ≡ numbers loops)
set-slots types [] loops h d slot i rs fits = absurd i
set-slots types (s ∷ slots) [] h d slot i rs fits = absurd h
set-slots types (s ∷ slots) (l ∷ loops) h d slot i rs fits = by (nat_eq l.statement slot.number) refl i (λ i. set-slots types slots loops h.2 d.1 slot i rs fits)
  where
    own : l.statement ≡ slot.number → IsIn slot (s ∷ slots) → Fits types (many s.row) rs
    own e (inl same) = subst (λ (s : Slot). Fits types (many s.row) rs) same fits
    own e (inr i) = absurd (d.0 (subst (IsIn l.statement) (sym (slots-numbers types slots loops h.2)) (subst (λ n. IsIn n (map (λ (s : Slot). s.number) slots)) (sym e) (in-map (λ (s : Slot). s.number) slot slots i))))

    other : nat_eq l.statement slot.number ≡ false → IsIn slot (s ∷ slots) → IsIn slot slots
    other e (inl same) = absurd (true≢false (sym (eq-eqb l.statement slot.number (h.0 ∙ ap (λ (s : Slot). s.number) (sym same))) ∙ e))
    other e (inr i) = i

    by : (b : Bool) → nat_eq l.statement slot.number ≡ b → IsIn slot (s ∷ slots) → (IsIn slot slots → AreSlots types slots (set_rows slot.number rs loops) × (numbers (set_rows slot.number rs loops) ≡ numbers loops))
        → AreSlots types (s ∷ slots) (cond b (record { statement = slot.number; rows = rs } ∷ loops) (l ∷ set_rows slot.number rs loops)) × (numbers (cond b (record { statement = slot.number; rows = rs } ∷ loops) (l ∷ set_rows slot.number rs loops)) ≡ numbers (l ∷ loops))
    by true e i again = let n = eqb-true l.statement slot.number e in ((sym n ∙ h.0, own n i, h.2), ap (λ n. n ∷ numbers loops) (sym n))
    by false e i again = let later = again (other e i) in ((h.0, h.1, later.0), ap (λ ns. l.statement ∷ ns) later.1)

-- a slot gone
pub less-slots : (types : TypeTable) (n : ℕ) (slots : List Slot) (loops : List (Loop Name)) → AreSlots types slots loops → AreSlots types (without_slot n slots) (filter (λ (l : Loop Name). not (nat_eq l.statement n)) loops)
less-slots types n [] [] h = tt
less-slots types n [] (l ∷ loops) h = absurd h
less-slots types n (s ∷ slots) [] h = absurd h
less-slots types n (s ∷ slots) (l ∷ loops) h = subst (λ b. AreSlots types (cond b (s ∷ without_slot n slots) (without_slot n slots)) (filter (λ (l : Loop Name). not (nat_eq l.statement n)) (l ∷ loops))) (ap (λ k. not (nat_eq k n)) h.0) (by (not (nat_eq l.statement n)) (less-slots types n slots loops h.2))
  where
    by : (b : Bool) → AreSlots types (without_slot n slots) (filter (λ (l : Loop Name). not (nat_eq l.statement n)) loops) → AreSlots types (cond b (s ∷ without_slot n slots) (without_slot n slots)) (cond b (l ∷ filter (λ (l : Loop Name). not (nat_eq l.statement n)) loops) (filter (λ (l : Loop Name). not (nat_eq l.statement n)) loops))
    by true later = (h.0, h.1, later)
    by false later = later

fewer-differ : (stay : Loop Name → Bool) (loops : List (Loop Name)) → Differ (numbers loops) → Differ (numbers (filter stay loops))
fewer-differ stay [] d = tt
fewer-differ stay (l ∷ loops) d = by (stay l) (fewer-differ stay loops d.1)
  where
    by : (b : Bool) → Differ (numbers (filter stay loops)) → Differ (numbers (cond b (l ∷ filter stay loops) (filter stay loops)))
    by true later = ((λ i. let r = in-map_from (λ (l : Loop Name). l.statement) l.statement (filter stay loops) i in d.0 (subst (λ n. IsIn n (numbers loops)) (sym r.2) (in-map (λ (l : Loop Name). l.statement) r.0 loops (in-filter_from stay r.0 loops r.1).0))), later)
    by false later = later

-- what is finalised of loops leaves the variables and the lists
pub left-alone : (kept : ℕ → Bool) (loops : List (Loop Name)) (b : Frame Name) → ((finalise_loops kept loops b).variables ≡ b.variables) × ((finalise_loops kept loops b).loops ≡ b.loops)
left-alone kept [] b = (refl, refl)
left-alone kept (l ∷ loops) b = by (kept l.statement) (λ b. left-alone kept loops b)
  where
    by : (t : Bool) → ((b : Frame Name) → ((finalise_loops kept loops b).variables ≡ b.variables) × ((finalise_loops kept loops b).loops ≡ b.loops)) → ((finalise_loops kept loops (cond t b (finalise_parts l.rows b))).variables ≡ b.variables) × ((finalise_loops kept loops (cond t b (finalise_parts l.rows b))).loops ≡ b.loops)
    by true again = again b
    by false again = again (finalise_parts l.rows b)

module _ (exceptions' : ℕ) (image : Image) (formed : IsWellFormedTable exceptions' image.types) (literals : (l : Literal) → IsIn l image.constants → IsLiteralOf image.types l (type_of_literal l))
    (m : CodeModule) (known : (t : ℕ) → IsIn t m.variables → IsType image.types t) (labels : CodeModule → ℕ → Option Label) (name : Name → Name) (HasWay : Outcome → Type 0)
    (l : Label) (stack : List Value) (b : Frame Name) (holds : Holds (ready exceptions' image formed literals m known labels name HasWay) l stack b) where
  abbrev c : ReadyCode
  c = ready exceptions' image formed literals m known labels name HasWay

  abbrev deep : AreDeep (c).scope
  deep = deep-variables exceptions' image formed literals m known labels name HasWay

  pub start-goes : (t : Path) (s : ℕ) → Found exceptions' image formed literals m known labels name HasWay (LoopStart t s) l → Goes exceptions' image formed literals m known labels name HasWay (LoopStart t s) l stack b
  start-goes t s finds =
      let x = finds.typed in
      let row = x.0 in
      let of = x.2 in
      let d = looked-there exceptions' (processes exceptions' image formed literals m known labels name HasWay) c.scope Form.Leave (record { table = formed; variables = known; typed = tt }) (has_of l) b.variables holds.sound t of.0 of.1
      (λ f h. IsIn-listed f l.facts (finds.needs f (in-closed image.types m.variables (present image.types m.variables t) f h))) in
      let table = is-table Name image.types of.0 row x.1 d.0 of.2 d.2 in
      let rs = copy_in (λ n. name (b.number, n)) b.serial table.rows' in
      let left : Frame Name = record b { serial = b.serial + count_in table.rows'; loops = record { statement = s; rows = rs } ∷ b.loops } in
      let shape : slots_behind image.types m.variables (LoopStart t s) l.slots ≡ record { number = s; row = row } ∷ l.slots =
      ap (λ o. map (λ u. record { number = s; row = u }) (list_of row_type (option_and_then (slice_get image.types) o)) ++ l.slots) (of.1).0
      ∙ ap (λ o. map (λ u. record { number = s; row = u }) (list_of row_type o) ++ l.slots) of.2 in
      record {
        outcome = ok;
        frame = left;
        completes = ap (if_there (λ table. goes ok (record b { serial = b.serial + count_in (parts_of table); loops = record { statement = s; rows = copy_in (λ n. name (b.number, n)) b.serial (parts_of table) } ∷ b.loops }))) (d.1 ∙ ap Some table.is);
        way = finds.on ok refl;
        holds = holds-behind image m c (LoopStart t s) l ok stack left
            (same_facts c.scope (has_of l) (has_behind image m c (LoopStart t s) l ok) b.variables (λ f. sym (facts-held_behind image.types m.variables (LoopStart t s) ok l.facts f)) holds.sound)
            holds.stack
            (subst (λ slots. AreSlots image.types slots (record { statement = s; rows = rs } ∷ b.loops)) (sym shape) (refl, copied-rows image.types row (λ n. name (b.number, n)) b.serial table.rows' table.fits, holds.slots))
            ((λ i. finds.slots (subst (IsIn s) (slots-numbers image.types l.slots b.loops holds.slots) i)), holds.differ);
      }

  pub next-goes : (r : Path) (s j : ℕ) → Found exceptions' image formed literals m known labels name HasWay (LoopNext r s j) l → Goes exceptions' image formed literals m known labels name HasWay (LoopNext r s j) l stack b
  next-goes [] s j finds = none-not_some (finds.slots).3.0.0
  next-goes (i ∷ q) s j finds =
      let f = finds.slots in
      let slot = f.0 in
      let rs = rows-there image.types l.slots b.loops holds.slots holds.differ slot f.1 in
      let there : rows_for s b.loops ≡ Some rs.0 = ap (λ n. rows_for n b.loops) (sym f.2) ∙ rs.1 in
      by slot f.1 f.2 f.3 rs.0 rs.2 there
    where
      by : (slot : Slot) → IsIn slot l.slots → slot.number ≡ s → IsTarget image.types m.variables (i ∷ q) slot.row → (rs : Parts Name) → Fits image.types (many slot.row) rs → rows_for s b.loops ≡ Some rs → Goes exceptions' image formed literals m known labels name HasWay (LoopNext (i ∷ q) s j) l stack b
      by slot in-slots number target no_parts fits there = record {
        outcome = done;
        frame = b;
        completes = ap (if_there (λ rows. next_row s (i ∷ q) rows b)) there;
        way = finds.jumps (record { outcome = done; index = j }) (inl refl);
        holds = holds-behind image m c (LoopNext (i ∷ q) s j) l done stack b
            (same_facts c.scope (has_of l) (has_behind image m c (LoopNext (i ∷ q) s j) l done) b.variables (λ f. sym (facts-held_behind image.types m.variables (LoopNext (i ∷ q) s j) done l.facts f)) holds.sound)
            holds.stack holds.slots holds.differ;
      }
      by slot in-slots number target (gap rs) fits there = absurd fits
      by slot in-slots number target (part d rs) fits there =
          let parent' = has-parent c.scope (has_of l) (i ∷ q) slot.row target.0.0 target.1 (λ f h. IsIn-listed f l.facts (finds.needs f (in-closed image.types m.variables (room_for image.types m.variables (i ∷ q)) f h))) in
          let place = place-there c.scope (has_of l) b.variables holds.sound (i ∷ q) slot.row target.0.0 target.1 parent' in
          let cut : Frame Name = record b { loops = set_rows s rs b.loops } in
          let set = set-slots image.types l.slots b.loops holds.slots holds.differ slot in-slots rs fits.1 in
          let lists : AreSlots image.types l.slots (set_rows s rs b.loops) = subst (λ n. AreSlots image.types l.slots (set_rows n rs b.loops)) number set.0 in
          let same : numbers (set_rows s rs b.loops) ≡ numbers b.loops = ap (λ n. numbers (set_rows n rs b.loops)) (sym number) ∙ set.1 in
          let goes' : cond (has_place b.variables (i ∷ q)) (goes turn (put (i ∷ q) d cut)) stuck ≡ goes turn (put (i ∷ q) d cut) = ap (λ p. cond p (goes turn (put (i ∷ q) d cut)) stuck) place in
          let sound = put-full c.scope i q slot.row target.0.0 (deep-at c.scope deep i q slot.row target.0.0) (Form.For (i ∷ q) (i ∷ q)) turn (has_of l) (has_of l) d cut holds.sound fits.0 (λ f. refl) turn (put (i ∷ q) d cut) (has_place b.variables (i ∷ q)) refl goes' in
          let old = old-loops (cell_at (i ∷ q) b.variables) (record cut { variables = put_at (i ∷ q) d b.variables }) in
          record {
            outcome = turn;
            frame = put (i ∷ q) d cut;
            completes = ap (if_there (λ rows. next_row s (i ∷ q) rows b)) there ∙ goes';
            way = finds.on turn refl;
            holds = holds-behind image m c (LoopNext (i ∷ q) s j) l turn stack (put (i ∷ q) d cut)
                (same_facts c.scope (held_after image.types m.variables (Form.For (i ∷ q) (i ∷ q)) turn (has_of l)) (has_behind image m c (LoopNext (i ∷ q) s j) l turn) (put (i ∷ q) d cut).variables
                (λ f. sym (facts-held_behind image.types m.variables (LoopNext (i ∷ q) s j) turn l.facts f)) sound)
                holds.stack (subst (λ loops. AreSlots image.types l.slots loops) (sym old) lists) (subst Differ (sym (ap numbers old ∙ same)) holds.differ);
          }

  pub end-goes : (s : ℕ) → Found exceptions' image formed literals m known labels name HasWay (LoopDrop s) l → Goes exceptions' image formed literals m known labels name HasWay (LoopDrop s) l stack b
  end-goes s finds =
      let kept : ℕ → Bool = λ n. not (nat_eq n s) in
      let alone = left-alone kept b.loops (record b { loops = filter (λ (l : Loop Name). kept l.statement) b.loops }) in
      record {
        outcome = ok;
        frame = drop_loop s b;
        completes = refl;
        way = finds.on ok refl;
        holds = holds-behind image m c (LoopDrop s) l ok stack (drop_loop s b)
            (same_facts c.scope (has_of l) (has_behind image m c (LoopDrop s) l ok) (drop_loop s b).variables (λ f. sym (facts-held_behind image.types m.variables (LoopDrop s) ok l.facts f)) (subst (AreSound c.scope (has_of l)) (sym alone.0) holds.sound))
            holds.stack
            (subst (λ loops. AreSlots image.types (without_slot s l.slots) loops) (sym alone.1) (less-slots image.types s l.slots b.loops holds.slots))
            (subst (λ loops. Differ (numbers loops)) (sym alone.1) (fewer-differ (λ (l : Loop Name). kept l.statement) b.loops holds.differ));
      }
