-- What is given back of a callmessage, and callmessages that are finalised.
use Rattle.std.proofs.Common.{◌≡◌, List, [], ◌∷◌, ◌++◌, map, Option, Some, None, option_map, append_assoc, Vec, Global, refl, sym, ap, ap₂, subst, ◌∙◌}
use Rattle.std.proofs.lemmas.List.{append-nil, map-append}
use Rattle.std.specs.Prelude.{⊤}
use Rattle.herm_model.specs.Paths.{Path}
use Rattle.herm_model.specs.Values as model
use Rattle.herm_model.specs.Values.{cell_at, parts_of, no_parts, gap, part}
use Rattle.herm_model.specs.Finalising.{finalised, finalised_in, pending, pending_in}
use Rattle.herm_forms.specs.Frames.{Frame, Taken, cleared, finalise, finalise_at_once, finalise_name, finalise_old, finalise_parts, take_all, with_taken}
use Rattle.herm_values.specs.Parts.{parts_from}
use Rattle.herm_values.specs.View.{value_view, views_of}
use Rattle.herm_parcels.specs.declared.call.CallMsg.{CallMsg}
use Rattle.herm_values.specs.declared.value.Value.{Value, Call}
use Rattle.herm_values.proofs.Seen.{call_view}
use Rattle.herm_frames.specs.HeldFrames.{HeldFrame}
use Rattle.herm_frames.specs.Standing.{Stands}
use Rattle.herm_exchanges.specs.Worked.{IsTaken}

-- these cells in front of those that are taken
abbrev pub in_front : List model.Value → Option (Taken ⊤) → Option (Taken ⊤)
in_front cs t = option_map (λ (t : Taken ⊤). let u : Taken ⊤ = record { cells = cs ++ t.cells; frame = t.frame } in u) t

-- a frame from which what is taken of the rest stands behind what was taken
pub record TakesOn (f : HeldFrame) (taken : List Value) (rest : List Path) (end : Option (Taken ⊤)) : Type 0 where
  pub frame : Frame ⊤
  pub stands : Stands f frame
  pub leads : in_front (map value_view taken) (take_all rest frame) ≡ end

front_none : (t : Option (Taken ⊤)) → in_front [] t ≡ t
front_none None = refl
front_none (Some t) = refl

pub takes_all : (f : HeldFrame) (paths : List Path) (s : Frame ⊤) → Stands f s → TakesOn f [] paths (take_all paths s)
takes_all f paths s h = record { frame = s; stands = h; leads = front_none (take_all paths s) }

front_one : (cs : List model.Value) (c : model.Value) (t : Option (Taken ⊤)) → in_front (cs ++ c ∷ []) t ≡ in_front cs (with_taken c t)
front_one cs c None = refl
front_one cs c (Some t) = ap (λ ds. let u : Taken ⊤ = record { cells = ds; frame = t.frame } in Some u) (append_assoc cs (c ∷ []) t.cells)

taken_one : (p : Path) (rest : List Path) (b : Frame ⊤) (o : Option model.Value) (c : model.Value) → Some c ≡ o → elim o [ None ↦ None | Some d ↦ with_taken d (take_all rest (cleared p b)) ] ≡ with_taken c (take_all rest (cleared p b))
taken_one p rest b o c is = ap (λ o. elim o [ None ↦ None | Some d ↦ with_taken d (take_all rest (cleared p b)) ]) (sym is)

pub takes_one : (f new : HeldFrame) (taken more : List Value) (v : Value) (p : Path) (rest : List Path) (end : Option (Taken ⊤)) → ((s : Frame ⊤) → Stands f s → Some (value_view v) ≡ cell_at p s.variables) → ((s : Frame ⊤) → Stands f s → Stands new (cleared p s)) → more ≡ taken ++ v ∷ []
    → TakesOn f taken (p ∷ rest) end → TakesOn new more rest end
takes_one f new taken more v p rest end there left is t = record {
  frame = cleared p t.frame;
  stands = left t.frame t.stands;
  leads =
      ap (λ vs. in_front vs (take_all rest (cleared p t.frame))) (ap (map value_view) is ∙ map-append value_view taken (v ∷ []))
      ∙ front_one (map value_view taken) (value_view v) (take_all rest (cleared p t.frame))
      ∙ ap (in_front (map value_view taken)) (sym (taken_one p rest t.frame (cell_at p t.frame.variables) (value_view v) (there t.frame t.stands)))
      ∙ t.leads;
}

pub takes_none : (f : HeldFrame) (taken : List Value) (p : Path) (rest : List Path) (end : Option (Taken ⊤)) → ((s : Frame ⊤) → Stands f s → None ≡ cell_at p s.variables) → TakesOn f taken (p ∷ rest) end → end ≡ None
takes_none f taken p rest end there t =
    sym t.leads ∙ ap (in_front (map value_view taken)) (ap (λ (o : Option model.Value). elim o [ None ↦ None | Some d ↦ with_taken d (take_all rest (cleared p t.frame)) ]) (sym (there t.frame t.stands)))

pub takes_end : (f : HeldFrame) (taken : List Value) (end : Option (Taken ⊤)) → TakesOn f taken [] end → IsTaken (Some taken) f end
takes_end f taken end t = (t.frame, sym t.leads ∙ ap (λ cs. let u : Taken ⊤ = record { cells = cs; frame = t.frame } in Some u) (append-nil (map value_view taken)), t.stands)

-- parts are finalised one after another
one_part : (c : model.Value) (ps : model.Parts ⊤) (b : Frame ⊤) → finalise_parts (part c ps) b ≡ finalise_parts ps (finalise c b)
one_part c ps b =
    ap₂ (λ work names. let d : Frame ⊤ = record b { work = work; finalised = names } in d)
    (sym (append_assoc b.work (pending c) (pending_in ps)))
    (sym (append_assoc b.finalised (finalised c) (finalised_in ps)))

pub record PartsOn (f : HeldFrame) (rest : List (Option Value)) (end : Frame ⊤) : Type 0 where
  pub frame : Frame ⊤
  pub stands : Stands f frame
  pub leads : finalise_parts (parts_from (views_of rest)) frame ≡ end

pub parts_all : (f : HeldFrame) (places : List (Option Value)) (s : Frame ⊤) → Stands f s → PartsOn f places (finalise_parts (parts_from (views_of places)) s)
parts_all f places s h = record { frame = s; stands = h; leads = refl }

pub parts_one : (f new : HeldFrame) (o : Option Value) (rest : List (Option Value)) (end : Frame ⊤) → ((s : Frame ⊤) → Stands f s → Stands new (finalise_old (option_map value_view o) s)) → PartsOn f (o ∷ rest) end → PartsOn new rest end
parts_one f new None rest end let_go t = record { frame = t.frame; stands = let_go t.frame t.stands; leads = t.leads }
parts_one f new (Some v) rest end let_go t = record {
  frame = finalise (value_view v) t.frame;
  stands = let_go t.frame t.stands;
  leads = sym (one_part (value_view v) (parts_from (views_of rest)) t.frame) ∙ t.leads;
}

no_parts_left : (b : Frame ⊤) → finalise_parts no_parts b ≡ b
no_parts_left b = ap₂ (λ work names. let d : Frame ⊤ = record b { work = work; finalised = names } in d) (append-nil b.work) (append-nil b.finalised)

pub parts_none : (f : HeldFrame) (end : Frame ⊤) → PartsOn f [] end → Stands f end
parts_none f end t = subst (Stands f) (sym (no_parts_left t.frame) ∙ t.leads) t.stands

-- a callmessage's cell is finalised, and then its parameters
pub call_done : (v : Value) (x : CallMsg Value) (ps : Vec (Option Value) Global) (s : Frame ⊤) (f : HeldFrame) → v ≡ Call x → ps ≡ x.params → Stands f (finalise_parts (parts_from (views_of ps.items)) (finalise_name tt s)) → Stands f (finalise_at_once (value_view v) s)
call_done v x ps s f is same h =
    subst (λ c. Stands f (finalise_at_once c s)) (sym (call_view v x is)) (subst (λ (qs : Vec (Option Value) Global). Stands f (finalise_parts (parts_from (views_of qs.items)) (finalise_name tt s))) same h)
