-- What was done with the front of a work list.
use Rattle.std.proofs.Common.{◌≡◌, List, [], ◌∷◌, ◌++◌, map, Option, Some, None, option_map, refl, sym, ap, ap₂, subst, ◌∙◌}
use Rattle.std.proofs.lemmas.List.{append-nil}
use Rattle.std.specs.Prelude.{⊤, IfNone, option_to_list}
use Rattle.herm_model.specs.Values as model
use Rattle.herm_forms.specs.Frames.{Frame, finalise, finalise_all, finalise_at_once, finalise_name, stays}
use Rattle.herm_values.specs.Works.{item_view}
use Rattle.herm_values.specs.declared.work.WorkItem.{WorkItem}
use Rattle.herm_values.specs.declared.work.WorkItem.TheVariants.{Close, Answer}
use Rattle.herm_frames.specs.HeldFrames.{HeldFrame}
use Rattle.herm_frames.specs.Standing.{Stands}
use Rattle.herm_exchanges.specs.Worked.{Stays}

-- the item that was taken is the front, and the frame has the rest
pub record IsFront (f : HeldFrame) (left : List WorkItem) (s : Frame ⊤) (item : model.Value) (more : List model.Value) : Type 0 where
  pub taken : WorkItem
  pub is : item_view taken ≡ item
  pub stands : Stands (record f { work = left }) (record s { work = more })

with_work : (f : HeldFrame) (s : Frame ⊤) (left : List WorkItem) (more : List model.Value) → Stands f s → more ≡ map item_view left → Stands (record f { work = left }) (record s { work = more })
with_work f s left more h is = record {
  number = h.number;
  variables = h.variables;
  loops = h.loops;
  work = is;
  call = h.call;
  calls = h.calls;
  steps = h.steps;
  actions = h.actions;
  made = h.made;
  finalised = h.finalised;
}

abbrev head_of : (d : model.Value) → List model.Value → model.Value
head_of d [] = d
head_of d (c ∷ cs) = c

abbrev tail_of : List model.Value → List model.Value
tail_of [] = []
tail_of (c ∷ cs) = cs

pub front_taken : (f : HeldFrame) (left : List WorkItem) (r : Option WorkItem) (s : Frame ⊤) (item : model.Value) (more : List model.Value) → Stands f s → s.work ≡ item ∷ more
    → option_to_list (option_map item_view r) ++ map item_view left ≡ map item_view f.work → (r ≡ None → map item_view f.work ≡ []) → IsFront f left s item more
front_taken f left None s item more h is first none = absurd impossible
  where
    impossible : ⊥
    impossible = let e : item ∷ more ≡ [] = sym is ∙ h.work ∙ none refl in let k : ⊥ = cc in k
front_taken f left (Some w) s item more h is first none = record {
  taken = w;
  is = ap (head_of item) all;
  stands = with_work f s left more h (sym (ap tail_of all));
}
  where
    all : item_view w ∷ map item_view left ≡ item ∷ more
    all = first ∙ sym h.work ∙ is

-- an item has no parts
pub item_finalised : (w : WorkItem) (b : Frame ⊤) → finalise_at_once (item_view w) b ≡ finalise_name tt b
item_finalised (Close port) b = ap₂ (λ work names. let c : Frame ⊤ = record (finalise_name tt b) { work = work; finalised = names } in c) (append-nil b.work) (append-nil (b.finalised ++ tt ∷ []))
item_finalised (Answer caller call) b = ap₂ (λ work names. let c : Frame ⊤ = record (finalise_name tt b) { work = work; finalised = names } in c) (append-nil b.work) (append-nil (b.finalised ++ tt ∷ []))

-- a frame from which the rest leads to this end
pub record FinalisesOn (f : HeldFrame) (rest : List model.Value) (end : Frame ⊤) : Type 0 where
  pub frame : Frame ⊤
  pub stands : Stands f frame
  pub leads : finalise_all rest frame ≡ end

pub finalises_all : (f : HeldFrame) (cs : List model.Value) (s : Frame ⊤) → Stands f s → FinalisesOn f cs (finalise_all cs s)
finalises_all f cs s h = record { frame = s; stands = h; leads = refl }

pub finalises_one : (f new : HeldFrame) (c : model.Value) (rest : List model.Value) (end : Frame ⊤) → ((s : Frame ⊤) → Stands f s → Stands new (finalise c s)) → FinalisesOn f (c ∷ rest) end → FinalisesOn new rest end
finalises_one f new c rest end let_go d = record { frame = finalise c d.frame; stands = let_go d.frame d.stands; leads = d.leads }

pub finalises_none : (f : HeldFrame) (end : Frame ⊤) → FinalisesOn f [] end → Stands f end
finalises_none f end d = subst (Stands f) d.leads d.stands

-- the front was taken out of a frame
pub front_done : (f mid : HeldFrame) (r : Option WorkItem) (s : Frame ⊤) (item : model.Value) (more : List model.Value) → mid ≡ record f { work = mid.work } → option_to_list (option_map item_view r) ++ map item_view mid.work ≡ map item_view f.work
    → IfNone r (map item_view f.work ≡ []) → Stands f s → s.work ≡ item ∷ more → IsFront f mid.work s item more
front_done f mid r s item more frame first none h is = front_taken f mid.work r s item more h is first (λ e. subst (λ o. IfNone o (map item_view f.work ≡ [])) e none)

pub front_stays : (new : HeldFrame) (item : model.Value) (b : Frame ⊤) (w : WorkItem) → item_view w ≡ item → Stands new (finalise_name tt b) → Stays new (stays (finalise_at_once item b))
front_stays new item b w is h = (finalise_name tt b, ap stays (ap (λ c. finalise_at_once c b) (sym is) ∙ item_finalised w b), h)
