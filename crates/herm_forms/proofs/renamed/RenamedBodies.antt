-- Changing the names of cells commutes with the primitives of a body.
use Rattle.std.proofs.Common.{◌≡◌, suc, ◌+◌, List, [], ◌∷◌, ◌++◌, map, Bool, true, false, cond, Option, Some, None, option_map, refl, sym, ap, ap₂, ◌∙◌}
use Rattle.herm_model.specs.Paths.{Path}
use Rattle.herm_model.specs.Outcomes.{Outcome}
use Rattle.std.specs.Prelude.{nat_lt}
use Rattle.herm_model.specs.Values.{has_place, Kind, Cell, cell, Parts, part_at, inside, cell_at, read_at, put_at}
use Rattle.herm_model.specs.CellNames.{count, count_in, copy_from, copy_in, rename, rename_in}
use Rattle.herm_model.specs.Finalising.{finalised, finalised_in, pending, pending_in}
use Rattle.herm_model.proofs.Renaming.{size-rename, map-append, part_at-rename, inside-rename, cell_at-rename, read_at-rename, set_at-rename, count-rename, count_in-rename, finalised-rename, finalised_in-rename, pending-rename, pending_in-rename, copy_from-rename, copy_in-rename, rename-copy_from, rename-copy_in}
use Rattle.herm_forms.specs.Frames.{Name, Frame, Completion, goes, stays, stuck, if_there, finalise, finalise_parts, finalise_old, finalise_all, finalise_name, finalise_at_once, cleared, drop_at, drop, reading, taking, put, putting, putting_all, Taken, with_taken, take_all, making, copying, copying_parts}
use Rattle.herm_forms.specs.Renaming.{rename_body}

module _ {N M : Type 0} (f : N → M) where
  abbrev pub rename_result : Completion N → Completion M
  rename_result (goes o b) = goes o (rename_body f b)
  rename_result (stays b) = stays (rename_body f b)
  rename_result stuck = stuck

  abbrev pub rename_taken : Taken N → Taken M
  rename_taken t = record { cells = map (rename f) t.cells; frame = rename_body f t.frame }

  -- finalising
  pub finalise-renamed : (c : Cell N) (b : Frame N) → finalise (rename f c) (rename_body f b) ≡ rename_body f (finalise c b)
  finalise-renamed c b =
      ap₂ (λ (work : List (Cell M)) (names : List M). record (rename_body f b) { work = work; finalised = names })
      (ap (λ cs. map (rename f) b.work ++ cs) (pending-rename f c) ∙ sym (map-append (rename f) b.work (pending c)))
      (ap (λ ns. map f b.finalised ++ ns) (finalised-rename f c) ∙ sym (map-append f b.finalised (finalised c)))

  pub finalise_parts-renamed : (ps : Parts N) (b : Frame N) → finalise_parts (rename_in f ps) (rename_body f b) ≡ rename_body f (finalise_parts ps b)
  finalise_parts-renamed ps b =
      ap₂ (λ (work : List (Cell M)) (names : List M). record (rename_body f b) { work = work; finalised = names })
      (ap (λ cs. map (rename f) b.work ++ cs) (pending_in-rename f ps) ∙ sym (map-append (rename f) b.work (pending_in ps)))
      (ap (λ ns. map f b.finalised ++ ns) (finalised_in-rename f ps) ∙ sym (map-append f b.finalised (finalised_in ps)))

  pub finalise_old-renamed : (o : Option (Cell N)) (b : Frame N) → finalise_old (option_map (rename f) o) (rename_body f b) ≡ rename_body f (finalise_old o b)
  finalise_old-renamed None b = refl
  finalise_old-renamed (Some c) b = finalise-renamed c b

  pub finalise_all-renamed : (cs : List (Cell N)) (b : Frame N) → finalise_all (map (rename f) cs) (rename_body f b) ≡ rename_body f (finalise_all cs b)
  finalise_all-renamed [] b = refl
  finalise_all-renamed (c ∷ cs) b = ap (finalise_all (map (rename f) cs)) (finalise-renamed c b) ∙ finalise_all-renamed cs (finalise c b)

  pub end_name-renamed : (n : N) (b : Frame N) → finalise_name (f n) (rename_body f b) ≡ rename_body f (finalise_name n b)
  end_name-renamed n b = ap (λ (names : List M). record (rename_body f b) { finalised = names }) (sym (map-append f b.finalised (n ∷ [])))

  pub end_cell-renamed : (c : Cell N) (b : Frame N) → finalise_at_once (rename f c) (rename_body f b) ≡ rename_body f (finalise_at_once c b)
  end_cell-renamed (cell n k ps) b = ap (finalise_parts (rename_in f ps)) (end_name-renamed n b) ∙ finalise_parts-renamed ps (finalise_name n b)

  -- paths
  pub cleared-renamed : (p : Path) (b : Frame N) → cleared p (rename_body f b) ≡ rename_body f (cleared p b)
  cleared-renamed p b = ap (λ (ps : Parts M). record (rename_body f b) { variables = ps }) (sym (set_at-rename f p None b.variables))

  pub drop_at-renamed : (p : Path) (b : Frame N) → drop_at p (rename_body f b) ≡ rename_body f (drop_at p b)
  drop_at-renamed p b =
      ap₂ finalise_old (cell_at-rename f p b.variables) (cleared-renamed p b) ∙ finalise_old-renamed (cell_at p b.variables) (cleared p b)

  pub drop-renamed : (paths : List Path) (b : Frame N) → drop paths (rename_body f b) ≡ rename_body f (drop paths b)
  drop-renamed [] b = refl
  drop-renamed (p ∷ paths) b = ap (drop paths) (drop_at-renamed p b) ∙ drop-renamed paths (drop_at p b)

  pub has_place-renamed : (p : Path) (ps : Parts N) → has_place (rename_in f ps) p ≡ has_place ps p
  has_place-renamed [] ps = refl
  has_place-renamed (i ∷ []) ps = ap (nat_lt i) (size-rename f ps)
  has_place-renamed (i ∷ j ∷ p) ps =
      ap (λ o. has_place (inside o) (j ∷ p)) (part_at-rename f i ps) ∙ ap (λ qs. has_place qs (j ∷ p)) (inside-rename f (part_at i ps)) ∙ has_place-renamed (j ∷ p) (inside (part_at i ps))

  pub put-renamed : (p : Path) (c : Cell N) (b : Frame N) → put p (rename f c) (rename_body f b) ≡ rename_body f (put p c b)
  put-renamed p c b =
      ap₂ (λ o (ps : Parts M). finalise_old o (record (rename_body f b) { variables = ps })) (cell_at-rename f p b.variables) (sym (set_at-rename f p (Some c) b.variables))
      ∙ finalise_old-renamed (cell_at p b.variables) (record b { variables = put_at p c b.variables })

  -- combinators
  pub if_there-renamed : {X Y : Type 0} (g : X → Y) (next : X → Completion N) (next' : Y → Completion M) → ((x : X) → next' (g x) ≡ rename_result (next x)) → (o : Option X)
      → if_there next' (option_map g o) ≡ rename_result (if_there next o)
  if_there-renamed g next next' e None = refl
  if_there-renamed g next next' e (Some x) = e x

  pub cond-renamed : (b : Bool) (r s : Completion N) → cond b (rename_result r) (rename_result s) ≡ rename_result (cond b r s)
  cond-renamed true r s = refl
  cond-renamed false r s = refl

  pub reading-renamed : (p : Path) (next : Cell N → Completion N) (next' : Cell M → Completion M) → ((c : Cell N) → next' (rename f c) ≡ rename_result (next c)) → (b : Frame N)
      → reading p next' (rename_body f b) ≡ rename_result (reading p next b)
  reading-renamed p next next' e b = ap (if_there next') (read_at-rename f p b.variables) ∙ if_there-renamed (rename f) next next' e (read_at p b.variables)

  pub taking-renamed : (p : Path) (next : Cell N → Frame N → Completion N) (next' : Cell M → Frame M → Completion M) → ((c : Cell N) (b : Frame N) → next' (rename f c) (rename_body f b) ≡ rename_result (next c b)) → (b : Frame N)
      → taking p next' (rename_body f b) ≡ rename_result (taking p next b)
  taking-renamed p next next' e b =
      ap (if_there (λ c. next' c (cleared p (rename_body f b)))) (cell_at-rename f p b.variables)
      ∙ if_there-renamed (rename f) (λ c. next c (cleared p b)) (λ c. next' c (cleared p (rename_body f b)))
      (λ c. ap (next' (rename f c)) (cleared-renamed p b) ∙ e c (cleared p b)) (cell_at p b.variables)

  pub putting-renamed : (p : Path) (o : Outcome) (c : Cell N) (b : Frame N) → putting p o (rename f c) (rename_body f b) ≡ rename_result (putting p o c b)
  putting-renamed p o c b =
      ap₂ (λ t x. cond t (goes o x) stuck) (has_place-renamed p b.variables) (put-renamed p c b) ∙ cond-renamed (has_place b.variables p) (goes o (put p c b)) stuck

  pub putting_all-renamed : (paths : List Path) (o : Outcome) (cs : List (Cell N)) (b : Frame N) → putting_all paths o (map (rename f) cs) (rename_body f b) ≡ rename_result (putting_all paths o cs b)
  putting_all-renamed [] o [] b = refl
  putting_all-renamed [] o (c ∷ cs) b = refl
  putting_all-renamed (p ∷ paths) o [] b = refl
  putting_all-renamed (p ∷ paths) o (c ∷ cs) b =
      ap₂ (λ t x. cond t x stuck) (has_place-renamed p b.variables) (ap (putting_all paths o (map (rename f) cs)) (put-renamed p c b) ∙ putting_all-renamed paths o cs (put p c b))
      ∙ cond-renamed (has_place b.variables p) (putting_all paths o cs (put p c b)) stuck

  with_taken-renamed : (c : Cell N) (o : Option (Taken N)) → with_taken (rename f c) (option_map rename_taken o) ≡ option_map rename_taken (with_taken c o)
  with_taken-renamed c None = refl
  with_taken-renamed c (Some t) = refl

  took-renamed : (paths : List Path) (x : Frame N) (y : Frame M) → take_all paths y ≡ option_map rename_taken (take_all paths x) → (o : Option (Cell N))
      → elim (option_map (rename f) o) [ None ↦ None | Some c ↦ with_taken c (take_all paths y) ] ≡ option_map rename_taken (elim o [ None ↦ None | Some c ↦ with_taken c (take_all paths x) ])
  took-renamed paths x y e None = refl
  took-renamed paths x y e (Some c) = ap (with_taken (rename f c)) e ∙ with_taken-renamed c (take_all paths x)

  pub take_all-renamed : (paths : List Path) (b : Frame N) → take_all paths (rename_body f b) ≡ option_map rename_taken (take_all paths b)
  take_all-renamed [] b = refl
  take_all-renamed (p ∷ paths) b =
      ap (λ (o : Option (Cell M)). elim o [ None ↦ None | Some c ↦ with_taken c (take_all paths (cleared p (rename_body f b))) ]) (cell_at-rename f p b.variables)
      ∙ took-renamed paths (cleared p b) (cleared p (rename_body f b)) (ap (take_all paths) (cleared-renamed p b) ∙ take_all-renamed paths (cleared p b)) (cell_at p b.variables)

  module _ (name : Name → N) where
    pub making-renamed : (k : Kind) (ps : Parts N) (next : Cell N → Frame N → Completion N) (next' : Cell M → Frame M → Completion M) → ((c : Cell N) (b : Frame N) → next' (rename f c) (rename_body f b) ≡ rename_result (next c b)) → (b : Frame N)
        → making (λ n. f (name n)) k (rename_in f ps) next' (rename_body f b) ≡ rename_result (making name k ps next b)
    making-renamed k ps next next' e b = e (cell (name (b.number, b.serial)) k ps) (record b { serial = suc b.serial })

    pub copying-renamed : {X : Type 0} (v : Cell X) (next : Cell N → Frame N → Completion N) (next' : Cell M → Frame M → Completion M) → ((c : Cell N) (b : Frame N) → next' (rename f c) (rename_body f b) ≡ rename_result (next c b)) → (b : Frame N)
        → copying (λ n. f (name n)) v next' (rename_body f b) ≡ rename_result (copying name v next b)
    copying-renamed v next next' e b =
        ap (λ c. next' c (rename_body f (record b { serial = b.serial + count v }))) (sym (rename-copy_from (λ s. name (b.number, s)) f b.serial v))
        ∙ e (copy_from (λ s. name (b.number, s)) b.serial v) (record b { serial = b.serial + count v })

    -- a copy of a cell does not depend on its names
    pub copying_cell-renamed : (v : Cell N) (next : Cell N → Frame N → Completion N) (next' : Cell M → Frame M → Completion M) → ((c : Cell N) (b : Frame N) → next' (rename f c) (rename_body f b) ≡ rename_result (next c b)) → (b : Frame N)
        → copying (λ n. f (name n)) (rename f v) next' (rename_body f b) ≡ rename_result (copying name v next b)
    copying_cell-renamed v next next' e b =
        ap₂ (λ c s. next' c (record (rename_body f b) { serial = b.serial + s })) (copy_from-rename f (λ s. f (name (b.number, s))) b.serial v) (count-rename f v)
        ∙ copying-renamed v next next' e b

    pub copying_parts-renamed : (ps : Parts N) (next : Parts N → Frame N → Completion N) (next' : Parts M → Frame M → Completion M) → ((qs : Parts N) (b : Frame N) → next' (rename_in f qs) (rename_body f b) ≡ rename_result (next qs b)) → (b : Frame N)
        → copying_parts (λ n. f (name n)) (rename_in f ps) next' (rename_body f b) ≡ rename_result (copying_parts name ps next b)
    copying_parts-renamed ps next next' e b =
        ap₂ (λ qs s. next' qs (record (rename_body f b) { serial = b.serial + s }))
        (copy_in-rename f (λ s. f (name (b.number, s))) b.serial ps ∙ sym (rename-copy_in (λ s. name (b.number, s)) f b.serial ps)) (count_in-rename f ps)
        ∙ e (copy_in (λ s. name (b.number, s)) b.serial ps) (record b { serial = b.serial + count_in ps })
