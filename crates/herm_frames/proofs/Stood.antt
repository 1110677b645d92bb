-- The ways in which a frame changes, and what it stands for then.
use Rattle.std.proofs.Common.{◌≡◌, ◌<◌, ℕ, suc, ◌+◌, ◌^◌, min, List, [], ◌∷◌, ◌++◌, map, length, Option, Some, None, option_map, refl, sym, ap, ap₂, subst, ◌∙◌, arith, add-one}
use Rattle.std.proofs.Math.ListN.{length-append}
use Rattle.std.specs.Prelude.{⊤}
use Rattle.herm_model.specs.Paths.{Path}
use Rattle.herm_model.specs.Values as model
use Rattle.herm_model.specs.Values.{Parts, cell_at, read_at, clear_at, put_at, has_place}
use Rattle.herm_model.specs.Finalising.{finalised, pending}
use Rattle.herm_forms.specs.Frames.{Frame, Loop, cleared, finalise, finalise_old, put, drop_at}
use Rattle.herm_places.specs.Held.{seen_places}
use Rattle.herm_values.specs.Works.{item_view}
use Rattle.herm_values.specs.declared.work.WorkItem.{WorkItem}
use Rattle.herm_values.specs.View.{value_view}
use Rattle.herm_values.specs.declared.value.Value.{Value}
use Rattle.herm_frames.specs.Counts.{cut}
use Rattle.herm_frames.specs.HeldFrames.{HeldFrame, HeldLoop}
use Rattle.herm_frames.specs.Standing.{Stands, loop_view}
use Rattle.herm_frames.specs.Waiting.{Waits}

pub cut_more : (a b n : ℕ) → n ≡ cut a → cut (n + b) ≡ cut (a + b)
cut_more a b n is = grind (arith, is)

pub cut_both : (a b n m : ℕ) → n ≡ cut a → m ≡ cut b → cut (n + m) ≡ cut (a + b)
cut_both a b n m is also = grind (arith, is, also)

pub with_variables : (f : HeldFrame) (s : Frame ⊤) (vs : List (Option Value)) (ps : Parts ⊤) → Stands f s → ps ≡ seen_places vs → Stands (record f { variables = vs }) (record s { variables = ps })
with_variables f s vs ps h is = record {
  number = h.number;
  variables = is;
  loops = h.loops;
  work = h.work;
  call = h.call;
  calls = h.calls;
  steps = h.steps;
  actions = h.actions;
  made = h.made;
  finalised = h.finalised;
}

pub with_made : (f : HeldFrame) (s : Frame ⊤) (n m : ℕ) → Stands f s → n ≡ cut m → Stands (record f { made = n }) (record s { serial = m })
with_made f s n m h is = record {
  number = h.number;
  variables = h.variables;
  loops = h.loops;
  work = h.work;
  call = h.call;
  calls = h.calls;
  steps = h.steps;
  actions = h.actions;
  made = is;
  finalised = h.finalised;
}

pub with_finalised : (f : HeldFrame) (s : Frame ⊤) (work : List WorkItem) (n : ℕ) (names : List ⊤) (more : List model.Value) → Stands f s → map item_view work ≡ map item_view f.work ++ more → n ≡ cut (f.finalised + length names)
    → Stands (record f { work = work; finalised = n }) (record s { work = s.work ++ more; finalised = s.finalised ++ names })
with_finalised f s work n names more h is count = record {
  number = h.number;
  variables = h.variables;
  loops = h.loops;
  work = ap (λ w. w ++ more) h.work ∙ sym is;
  call = h.call;
  calls = h.calls;
  steps = h.steps;
  actions = h.actions;
  made = h.made;
  finalised = count ∙ cut_more (length s.finalised) (length names) f.finalised h.finalised ∙ ap cut (sym (length-append s.finalised names));
}

-- a value is taken out of its place
pub taken_out : (f : HeldFrame) (s : Frame ⊤) (vs : List (Option Value)) (p : Path) → Stands f s → seen_places vs ≡ clear_at p (seen_places f.variables) → Stands (record f { variables = vs }) (cleared p s)
taken_out f s vs p h left = with_variables f s vs (clear_at p s.variables) h (ap (clear_at p) h.variables ∙ sym left)

-- what stands somewhere
pub there : (f : HeldFrame) (s : Frame ⊤) (o : Option model.Value) (p : Path) → Stands f s → o ≡ cell_at p (seen_places f.variables) → o ≡ cell_at p s.variables
there f s o p h is = is ∙ ap (cell_at p) (sym h.variables)

pub read_there : (f : HeldFrame) (s : Frame ⊤) (o : Option model.Value) (p : Path) → Stands f s → o ≡ read_at p (seen_places f.variables) → o ≡ read_at p s.variables
read_there f s o p h is = is ∙ ap (read_at p) (sym h.variables)

-- a value is let go
pub let_go : (f : HeldFrame) (s : Frame ⊤) (work : List WorkItem) (n : ℕ) (c : model.Value) → Stands f s → map item_view work ≡ map item_view f.work ++ pending c → n ≡ cut (f.finalised + length (finalised c)) → Stands (record f { work = work; finalised = n }) (finalise c s)
let_go f s work n c h is count = with_finalised f s work n (finalised c) (pending c) h is count

-- a value is put, and what stood there let go
pub put_none : (s : Frame ⊤) (p : Path) (c : model.Value) → None ≡ cell_at p s.variables → put p c s ≡ record s { variables = put_at p c s.variables }
put_none s p c none = ap (λ o. finalise_old o (record s { variables = put_at p c s.variables })) (sym none)

pub put_some : (s : Frame ⊤) (p : Path) (c old : model.Value) → Some old ≡ cell_at p s.variables → put p c s ≡ finalise old (record s { variables = put_at p c s.variables })
put_some s p c old some = ap (λ o. finalise_old o (record s { variables = put_at p c s.variables })) (sym some)

pub drop_none : (s : Frame ⊤) (p : Path) → None ≡ cell_at p s.variables → drop_at p s ≡ cleared p s
drop_none s p none = ap (λ o. finalise_old o (cleared p s)) (sym none)

pub drop_some : (s : Frame ⊤) (p : Path) (old : model.Value) → Some old ≡ cell_at p s.variables → drop_at p s ≡ finalise old (cleared p s)
drop_some s p old some = ap (λ o. finalise_old o (cleared p s)) (sym some)

pub ruleset standing = (taken_out, there, read_there, let_go)

pub put_found : (f : HeldFrame) (s : Frame ⊤) (vs : List (Option Value)) (p : Path) (c old : model.Value) (new : HeldFrame) → Stands f s → Some old ≡ cell_at p (seen_places f.variables) → seen_places vs ≡ put_at p c (seen_places f.variables)
    → ((t : Frame ⊤) → Stands (record f { variables = vs }) t → Stands new (finalise old t)) → Stands new (put p c s)
put_found f s vs p c old new h some is on =
    subst (λ b. Stands new b) (sym (put_some s p c old (some ∙ ap (cell_at p) (sym h.variables))))
    (on (record s { variables = put_at p c s.variables }) (with_variables f s vs (put_at p c s.variables) h (ap (put_at p c) h.variables ∙ sym is)))

pub with_loops : (f : HeldFrame) (s : Frame ⊤) (loops : List HeldLoop) (ls : List (Loop ⊤)) → Stands f s → ls ≡ map loop_view loops → Stands (record f { loops = loops }) (record s { loops = ls })
with_loops f s loops ls h is = record {
  number = h.number;
  variables = h.variables;
  loops = is;
  work = h.work;
  call = h.call;
  calls = h.calls;
  steps = h.steps;
  actions = h.actions;
  made = h.made;
  finalised = h.finalised;
}

-- counts and the open call
pub with_steps : (f : HeldFrame) (s : Frame ⊤) (n : ℕ) → Stands f s → n ≡ f.steps + 1 → Stands (record f { steps = n }) (record s { steps = suc s.steps })
with_steps f s n h is = record {
  number = h.number;
  variables = h.variables;
  loops = h.loops;
  work = h.work;
  call = h.call;
  calls = h.calls;
  steps = ap suc h.steps ∙ sym (is ∙ add-one f.steps);
  actions = h.actions;
  made = h.made;
  finalised = h.finalised;
}

pub with_actions : (f : HeldFrame) (s : Frame ⊤) (n : ℕ) → Stands f s → n ≡ f.actions + 1 → Stands (record f { actions = n }) (record s { actions = suc s.actions })
with_actions f s n h is = record {
  number = h.number;
  variables = h.variables;
  loops = h.loops;
  work = h.work;
  call = h.call;
  calls = h.calls;
  steps = h.steps;
  actions = ap suc h.actions ∙ sym (is ∙ add-one f.actions);
  made = h.made;
  finalised = h.finalised;
}

pub with_next_call : (f : HeldFrame) (s : Frame ⊤) (n : ℕ) → Stands f s → n ≡ f.calls + 1 → Stands (record f { call = Some f.calls; calls = n }) (record s { call = Some s.calls; calls = suc s.calls })
with_next_call f s n h is = record {
  number = h.number;
  variables = h.variables;
  loops = h.loops;
  work = h.work;
  call = ap Some h.calls;
  calls = ap suc h.calls ∙ sym (is ∙ add-one f.calls);
  steps = h.steps;
  actions = h.actions;
  made = h.made;
  finalised = h.finalised;
}

pub with_call : (f : HeldFrame) (s : Frame ⊤) (o : Option ℕ) → Stands f s → Stands (record f { call = o }) (record s { call = o })
with_call f s o h = record {
  number = h.number;
  variables = h.variables;
  loops = h.loops;
  work = h.work;
  call = refl;
  calls = h.calls;
  steps = h.steps;
  actions = h.actions;
  made = h.made;
  finalised = h.finalised;
}

-- what is let go waits, so what was at the path does
pub waits_there : (v : Value) (o : Option Value) (p : Path) (vs : List (Option Value)) → o ≡ Some v → option_map value_view o ≡ cell_at p (seen_places vs) → 0 < length (pending (value_view v)) → Waits (cell_at p (seen_places vs))
waits_there v o p vs is at more = subst Waits (sym (ap (option_map value_view) is) ∙ at) more

pub waits_seen : (v : model.Value) (p : Path) (vs : List (Option Value)) → Some v ≡ cell_at p (seen_places vs) → 0 < length (pending v) → Waits (cell_at p (seen_places vs))
waits_seen v p vs at more = subst Waits at more

pub ruleset waiting = (waits_there, waits_seen)
