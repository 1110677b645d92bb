-- The rows that a loop visits: each is set at any place, and those that are left stay full.
use Rattle.std.proofs.Common.{◌≡◌, ◌⊎◌, inl, inr, ℕ, ◌+◌, List, [], ◌∷◌, Bool, true, false, cond, Option, Some, None, refl, sym, ap, ◌∙◌, subst}
use Rattle.std.specs.Prelude.{slice_get, IsTrue, nat_eq, ⊤}
use Rattle.herm_model.specs.Lists.{IsIn}
use Rattle.herm_model.specs.Paths.{Fact}
use Rattle.herm_model.specs.Types.{TypeTable, rows, type_at, is_within_depth, greatest_depth}
use Rattle.herm_model.specs.Statements.{For}
use Rattle.herm_model.specs.Outcomes.{Outcome, turn, done}
use Rattle.herm_model.specs.Values.{Cell, Parts, no_parts, gap, part, parts_of, cell_at, read_at, has_place, put_at}
use Rattle.herm_model.specs.CellNames.{count_in, copy_in, rename_in}
use Rattle.herm_model.specs.Typed.{many, Fits}
use Rattle.herm_model.proofs.Renaming.{rename-copy_in, copy_in-constant}
use Rattle.herm_model.proofs.Typing.{Fits-renamed, renamed-Fits}
use Rattle.herm_forms.specs.Frames.{Name, Loop, Frame, goes, stuck, if_there, finalise_old, put}
use Rattle.herm_forms.specs.LoopForms.{rows_for, set_rows, next_row, visit}
use Rattle.herm_forms.specs.Modules.{Module}
use Rattle.herm_forms.specs.laws.EdgeLaws.{AreSound, held_after}
use Rattle.herm_forms.specs.laws.ComponentLaws.{RowsAreVisited}
use Rattle.herm_forms.proofs.forms.PlainForms.{same_body, never}
use Rattle.herm_forms.proofs.forms.SetTargets.{put-full}
use Rattle.herm_forms.proofs.forms.ReadTypes.{read-typed, is-table}
use Rattle.herm_forms.proofs.forms.FoundRows.{goes-sound}

-- a copy of full rows
copied-rows : (types : TypeTable) (row : ℕ) (name : ℕ → Name) (s : ℕ) (ps : Parts Name) → Fits types (many row) ps → Fits types (many row) (copy_in name s ps)
copied-rows types row name s ps h =
    let none : Name → ⊤ = λ n. tt in
    let same : rename_in none (copy_in name s ps) ≡ rename_in none ps = rename-copy_in name none s ps ∙ copy_in-constant {N = Name} {M = ⊤} tt s ps in
    renamed-Fits none types (many row) (copy_in name s ps) (subst (Fits types (many row)) (sym same) (Fits-renamed none types (many row) ps h))

-- a loop behind a change of one loop's rows
set-in : {N : Type 0} (s : ℕ) (rs : Parts N) (loops : List (Loop N)) (l : Loop N) → IsIn l (set_rows s rs loops) → IsIn l loops ⊎ (l ≡ record { statement = s; rows = rs })
set-in s rs [] l h = absurd h
set-in s rs (k ∷ loops) l h = by (nat_eq k.statement s) h (set-in s rs loops l)
  where
    by : (b : Bool) → IsIn l (cond b (record { statement = s; rows = rs } ∷ loops) (k ∷ set_rows s rs loops)) → (IsIn l (set_rows s rs loops) → IsIn l loops ⊎ (l ≡ record { statement = s; rows = rs }))
        → IsIn l (k ∷ loops) ⊎ (l ≡ record { statement = s; rows = rs })
    by true (inl e) again = inr e
    by true (inr h) again = inl (inr h)
    by false (inl e) again = inl (inl e)
    by false (inr h) again = later (again h)
      where
        later : IsIn l loops ⊎ (l ≡ record { statement = s; rows = rs }) → IsIn l (k ∷ loops) ⊎ (l ≡ record { statement = s; rows = rs })
        later (inl h) = inl (inr h)
        later (inr e) = inr e

pub old-loops : {N : Type 0} (o : Option (Cell N)) (b : Frame N) → (finalise_old o b).loops ≡ b.loops
old-loops None b = refl
old-loops (Some c) b = refl

module _ (c : Module) (i : ℕ) (q : List ℕ) (j : ℕ) (r : List ℕ) (row u : ℕ) (key : List ℕ) (table : type_at c.types c.variables (i ∷ q) ≡ Some u) (shape : slice_get c.types u ≡ Some (rows row key)) (target : type_at c.types c.variables (j ∷ r) ≡ Some row)
    (deep : IsTrue (is_within_depth greatest_depth c.types row)) (name : Name → Name) (statement : ℕ) (has : Fact → Bool) (b : Frame Name) (sound : AreSound c has b.variables)
    (left : (rs : Parts Name) → rows_for statement b.loops ≡ Some rs → Fits c.types (many row) rs) where
  abbrev IsOfBefore : Loop Name → Type 0
  IsOfBefore l = IsIn l b.loops ⊎ ((l.statement ≡ statement) × Fits c.types (many row) l.rows)

  abbrev Goal : Outcome → Frame Name → Type 0
  Goal o b' = AreSound c (held_after c.types c.variables (For (j ∷ r) (i ∷ q)) o has) b'.variables × ((l : Loop Name) → IsIn l b'.loops → IsOfBefore l)

  placed : (d : Cell Name) → Fits c.types (many row) (part d no_parts) → (cut : Frame Name) → AreSound c has cut.variables → ((l : Loop Name) → IsIn l cut.loops → IsOfBefore l) → (o : Outcome) (b' : Frame Name) (p : Bool) → has_place cut.variables (j ∷ r) ≡ p
      → cond p (goes turn (put (j ∷ r) d cut)) stuck ≡ goes o b' → Goal o b'
  placed d whole' cut rest loops o b' false place is = never o b' is
  placed d whole' cut rest loops o b' true place is = (
    put-full c j r row target deep (For (j ∷ r) (i ∷ q)) turn has has d cut rest whole'.0 (λ f. refl) o b' true place is,
    (λ l h.
        let same : (put (j ∷ r) d cut).loops ≡ b'.loops = ap (λ (b : Frame Name). b.loops) (same_body turn o (put (j ∷ r) d cut) b' is) in
        let old = old-loops (cell_at (j ∷ r) cut.variables) (record cut { variables = put_at (j ∷ r) d cut.variables }) in
        loops l (subst (IsIn l) (sym same ∙ old) h)),
  )

  next-sound : (rs : Parts Name) → Fits c.types (many row) rs → (cut : Frame Name) → AreSound c has cut.variables → ((l : Loop Name) → IsIn l cut.loops → IsOfBefore l) → (o : Outcome) (b' : Frame Name) → next_row statement (j ∷ r) rs cut ≡ goes o b' → Goal o b'
  next-sound no_parts fits cut rest loops o b' is = (
    goes-sound c (For (j ∷ r) (i ∷ q)) has has cut rest done (λ f. refl) o b' is,
    (λ l h. loops l (subst (λ (b : Frame Name). IsIn l b.loops) (sym (same_body done o cut b' is)) h)),
  )
  next-sound (gap rs) fits cut rest loops o b' is = absurd fits
  next-sound (part d rs) fits cut rest loops o b' is =
      placed d (fits.0, tt) (record cut { loops = set_rows statement rs cut.loops }) rest (λ l h. by l (set-in statement rs cut.loops l h)) o b' (has_place cut.variables (j ∷ r)) refl is
    where
      by : (l : Loop Name) → IsIn l cut.loops ⊎ (l ≡ record { statement = statement; rows = rs }) → IsOfBefore l
      by l (inl h) = loops l h
      by l (inr e) = inr (ap (λ (l : Loop Name). l.statement) e, subst (λ (l : Loop Name). Fits c.types (many row) l.rows) (sym e) fits.1)

  first-sound : (o : Outcome) (b' : Frame Name) (x : Option (Cell Name)) → read_at (i ∷ q) b.variables ≡ x
      → if_there
      (λ t. next_row statement (j ∷ r) (copy_in (λ s. name (b.number, s)) b.serial (parts_of t))
      (record b { serial = b.serial + count_in (parts_of t); loops = record { statement = statement; rows = copy_in (λ s. name (b.number, s)) b.serial (parts_of t) } ∷ b.loops }))
      x ≡ goes o b' → Goal o b'
  first-sound o b' None read is = never o b' is
  first-sound o b' (Some d) read is =
      let x = is-table Name c.types u row key d shape (read-typed Name c.types c.variables i q u b.variables d sound.types table read) in
      let rs = copy_in (λ s. name (b.number, s)) b.serial (parts_of d) in
      let fits : Fits c.types (many row) rs = copied-rows c.types row (λ s. name (b.number, s)) b.serial (parts_of d) (subst (λ d. Fits c.types (many row) (parts_of d)) (sym x.is) x.fits) in
      next-sound rs fits (record b { serial = b.serial + count_in (parts_of d); loops = record { statement = statement; rows = rs } ∷ b.loops }) sound (λ l h. by rs fits l h) o b' is
    where
      by : (rs : Parts Name) → Fits c.types (many row) rs → (l : Loop Name) → IsIn l (record { statement = statement; rows = rs } ∷ b.loops) → IsOfBefore l
      by rs fits l (inl e) = inr (ap (λ (l : Loop Name). l.statement) e, subst (λ (l : Loop Name). Fits c.types (many row) l.rows) (sym e) fits)
      by rs fits l (inr h) = inl h

  visited : (o : Outcome) (b' : Frame Name) → visit name statement (j ∷ r) (i ∷ q) b ≡ goes o b' → Goal o b'
  visited o b' is = by (rows_for statement b.loops) refl is
    where
      by : (x : Option (Parts Name)) → rows_for statement b.loops ≡ x
          → elim x [
            | None ↦ if_there
                (λ t. next_row statement (j ∷ r) (copy_in (λ s. name (b.number, s)) b.serial (parts_of t))
                (record b { serial = b.serial + count_in (parts_of t); loops = record { statement = statement; rows = copy_in (λ s. name (b.number, s)) b.serial (parts_of t) } ∷ b.loops }))
                (read_at (i ∷ q) b.variables)
            | Some rs ↦ next_row statement (j ∷ r) rs b
          ] ≡ goes o b' → Goal o b'
      by None e is = first-sound o b' (read_at (i ∷ q) b.variables) refl is
      by (Some rs) e is = next-sound rs (left rs e) b sound (λ l h. inl h) o b' is

pub rows-visited : (c : Module) → RowsAreVisited c
rows-visited c i q j r row u key table shape target deep name statement has b b' o sound left is = visited c i q j r row u key table shape target deep name statement has b sound left o b' is
