-- The counts of steps and actions make no difference to what the primitives do.
use Rattle.std.proofs.Common.{◌≡◌, ℕ, ◌+◌, List, [], ◌∷◌, Option, Some, None, refl, ap, ◌∙◌}
use Rattle.std.specs.Prelude.{option_map, option_and_then, ⊤}
use Rattle.herm_model.specs.Paths.{Path}
use Rattle.herm_model.specs.Types.{Mode}
use Rattle.herm_model.specs.Values.{Cell, Parts, cell_at}
use Rattle.herm_model.specs.CellNames.{count_in, copy_in}
use Rattle.herm_forms.specs.Frames.{Name, Frame, finalise_old, cleared, drop_at, drop, Taken, with_taken, take_all}
use Rattle.herm_forms.specs.Callmessages.{Composed, with_message, compose, assemble}

module _ {N : Type 0} (steps actions : ℕ) where
  abbrev pub recount : Frame N → Frame N
  recount b = record b { steps = steps; actions = actions }

  abbrev pub recount_taken : Taken N → Taken N
  recount_taken t = record { cells = t.cells; frame = recount t.frame }

  abbrev pub recount_composed : Composed N → Composed N
  recount_composed c = record { message = c.message; call = c.call; frame = recount c.frame }

  recount-finalise_old : (o : Option (Cell N)) (b : Frame N) → finalise_old o (recount b) ≡ recount (finalise_old o b)
  recount-finalise_old None b = refl
  recount-finalise_old (Some c) b = refl

  pub recount-drop : (paths : List Path) (b : Frame N) → drop paths (recount b) ≡ recount (drop paths b)
  recount-drop [] b = refl
  recount-drop (p ∷ paths) b = ap (drop paths) (recount-finalise_old (cell_at p b.variables) (cleared p b)) ∙ recount-drop paths (drop_at p b)

  recount-with_taken : (c : Cell N) (o : Option (Taken N)) → with_taken c (option_map recount_taken o) ≡ option_map recount_taken (with_taken c o)
  recount-with_taken c None = refl
  recount-with_taken c (Some t) = refl

  take-more : (p : Path) (paths : List Path) (b : Frame N) (o : Option (Cell N)) → take_all paths (cleared p (recount b)) ≡ option_map recount_taken (take_all paths (cleared p b))
      → elim o [ None ↦ None | Some c ↦ with_taken c (take_all paths (cleared p (recount b))) ] ≡ option_map recount_taken (elim o [ None ↦ None | Some c ↦ with_taken c (take_all paths (cleared p b)) ])
  take-more p paths b None e = refl
  take-more p paths b (Some c) e = ap (with_taken c) e ∙ recount-with_taken c (take_all paths (cleared p b))

  pub recount-take_all : (paths : List Path) (b : Frame N) → take_all paths (recount b) ≡ option_map recount_taken (take_all paths b)
  recount-take_all [] b = refl
  recount-take_all (p ∷ paths) b = take-more p paths b (cell_at p b.variables) (recount-take_all paths (cleared p b))

  recount-message : (name : Name → N) (b : Frame N) (o : Option (Parts N)) → option_map (with_message name (recount b)) o ≡ option_map recount_composed (option_map (with_message name b) o)
  recount-message name b None = refl
  recount-message name b (Some ps) = refl

  recount-assembled : (name : Name → N) (modes : List Mode) (copies : Parts N) (o : Option (Taken N))
      → option_and_then (λ taken. option_map (with_message name taken.frame) (assemble modes copies taken.cells)) (option_map recount_taken o)
      ≡ option_map recount_composed (option_and_then (λ taken. option_map (with_message name taken.frame) (assemble modes copies taken.cells)) o)
  recount-assembled name modes copies None = refl
  recount-assembled name modes copies (Some t) = recount-message name t.frame (assemble modes copies t.cells)

  pub recount-compose : (name : Name → N) (modes : List Mode) (inputs : Parts ⊤) (lost moved : List Path) (b : Frame N)
      → compose name modes inputs lost moved (recount b) ≡ option_map recount_composed (compose name modes inputs lost moved b)
  recount-compose name modes inputs lost moved b =
      let copies = copy_in (λ s. name (b.number, s)) b.serial inputs in
      let b' : Frame N = record b { serial = b.serial + count_in inputs } in
      ap (λ x. option_and_then (λ taken. option_map (with_message name taken.frame) (assemble modes copies taken.cells)) (take_all moved x)) (recount-drop lost b')
      ∙ ap (option_and_then (λ taken. option_map (with_message name taken.frame) (assemble modes copies taken.cells))) (recount-take_all moved (drop lost b'))
      ∙ recount-assembled name modes copies (take_all moved (drop lost b'))
