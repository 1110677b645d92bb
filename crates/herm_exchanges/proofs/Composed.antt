-- The callmessage of a call is composed of its arguments.
use Rattle.std.proofs.Common.{◌≡◌, ℕ, suc, ◌+◌, List, [], ◌∷◌, ◌++◌, map, true, false, Option, Some, None, option_map, option_and_then, refl, sym, ap, ap₂, subst, ◌∙◌, arith}
use Rattle.std.specs.Prelude.{⊤}
use Rattle.herm_model.specs.Types.{Mode, by_in, by_inout, by_out}
use Rattle.herm_model.specs.CellNames.{count, count_in, copy_from, copy_in}
use Rattle.herm_model.specs.Values as model
use Rattle.herm_model.specs.Values.{a_callmessage, cell, Cell, Parts, no_parts, gap, part}
use Rattle.herm_model.specs.Paths.{Path}
use Rattle.herm_journal.specs.Renaming.{forget_name}
use Rattle.herm_forms.specs.Callmessages.{Composed, assemble, compose, with_message}
use Rattle.herm_forms.specs.Frames.{Frame, Taken, drop, take_all}
use Rattle.herm_code_machine.specs.Stacks.{parts_from}
use Rattle.herm_values.specs.Parts as places
use Rattle.herm_frames.specs.HeldFrames.{HeldFrame}
use Rattle.herm_frames.specs.Standing.{Stands}
use Rattle.herm_values.specs.View.{value_view, views_of}
use Rattle.herm_values.specs.declared.value.Value.{Value, Call}
use Rattle.herm_values.proofs.Seen.{call_view}
use Rattle.herm_parcels.specs.declared.call.CallMsg.{CallMsg}
use Rattle.herm_exchanges.specs.Composed.{IsComposed, IsPushed, in_front_of, none_left}
use Rattle.herm_exchanges.specs.Worked.{IsTaken}

-- a copy without names is the value
mutual
  copy-own : (n k : ℕ) (c : model.Value) → copy_from (λ s. forget_name (n, s)) k c ≡ c
  copy-own n k (cell m kind ps) = ap (cell tt kind) (copy-parts n (suc k) ps)

  pub copy-parts : (n k : ℕ) (ps : Parts ⊤) → copy_in (λ s. forget_name (n, s)) k ps ≡ ps
  copy-parts n k no_parts = refl
  copy-parts n k (gap ps) = ap gap (copy-parts n k ps)
  copy-parts n k (part c ps) = ap₂ part (copy-own n k c) (copy-parts n (k + count c) ps)

-- places in front of parts
front_more : (os : List (Option model.Value)) (o : Option model.Value) (ps : Parts ⊤) → in_front_of (os ++ o ∷ []) ps ≡ in_front_of os (in_front_of (o ∷ []) ps)
front_more [] o ps = refl
front_more (None ∷ os) o ps = ap gap (front_more os o ps)
front_more (Some c ∷ os) o ps = ap (part c) (front_more os o ps)

pub front_none : (os : List (Option model.Value)) → in_front_of os no_parts ≡ places.parts_from os
front_none [] = refl
front_none (None ∷ os) = ap gap (front_none os)
front_none (Some c ∷ os) = ap (part c) (front_none os)

front_some : (os new : List (Option model.Value)) (c : model.Value) (r : Option (Parts ⊤)) → new ≡ os ++ Some c ∷ [] → option_map (in_front_of os) (option_map (part c) r) ≡ option_map (in_front_of new) r
front_some os new c None is = refl
front_some os new c (Some ps) is = ap Some (sym (front_more os (Some c) ps) ∙ ap (λ ns. in_front_of ns ps) (sym is))

front_gap : (os new : List (Option model.Value)) (r : Option (Parts ⊤)) → new ≡ os ++ None ∷ [] → option_map (in_front_of os) (option_map gap r) ≡ option_map (in_front_of new) r
front_gap os new None is = refl
front_gap os new (Some ps) is = ap Some (sym (front_more os None ps) ∙ ap (λ ns. in_front_of ns ps) (sym is))

-- one parameter
pub pushed_in : (os new : List (Option model.Value)) (c : model.Value) (inputs left moved : List model.Value) → inputs ≡ c ∷ left → new ≡ os ++ Some c ∷ [] → IsPushed true by_in os new inputs moved left moved
pushed_in os new c inputs left moved is pushed = λ rest.
    ap (λ cs. option_map (in_front_of os) (assemble (by_in ∷ rest) (parts_from cs) moved)) is ∙ front_some os new c (assemble rest (parts_from left) moved) pushed

pub no_input : (os new : List (Option model.Value)) (inputs left moved moved_left : List model.Value) → inputs ≡ [] → IsPushed false by_in os new inputs moved left moved_left
no_input os new inputs left moved moved_left none = λ rest. ap (λ cs. assemble (by_in ∷ rest) (parts_from cs) moved) none

inout_moved : (ps : Parts ⊤) (c : model.Value) (left : List model.Value) (rest : List Mode) → assemble (by_inout ∷ rest) ps (c ∷ left) ≡ option_map (part c) (assemble rest ps left)
inout_moved no_parts c left rest = refl
inout_moved (gap ps) c left rest = refl
inout_moved (part d ps) c left rest = refl

inout_none : (ps : Parts ⊤) (rest : List Mode) → assemble (by_inout ∷ rest) ps [] ≡ None
inout_none no_parts rest = refl
inout_none (gap ps) rest = refl
inout_none (part d ps) rest = refl

out_gap : (ps : Parts ⊤) (moved : List model.Value) (rest : List Mode) → assemble (by_out ∷ rest) ps moved ≡ option_map gap (assemble rest ps moved)
out_gap no_parts [] rest = refl
out_gap no_parts (c ∷ moved) rest = refl
out_gap (gap ps) [] rest = refl
out_gap (gap ps) (c ∷ moved) rest = refl
out_gap (part d ps) [] rest = refl
out_gap (part d ps) (c ∷ moved) rest = refl

pub pushed_inout : (os new : List (Option model.Value)) (c : model.Value) (inputs moved left : List model.Value) → moved ≡ c ∷ left → new ≡ os ++ Some c ∷ [] → IsPushed true by_inout os new inputs moved inputs left
pushed_inout os new c inputs moved left is pushed = λ rest.
    ap (λ cs. option_map (in_front_of os) (assemble (by_inout ∷ rest) (parts_from inputs) cs)) is
    ∙ ap (option_map (in_front_of os)) (inout_moved (parts_from inputs) c left rest)
    ∙ front_some os new c (assemble rest (parts_from inputs) left) pushed

pub no_inout : (os new : List (Option model.Value)) (inputs left moved moved_left : List model.Value) → moved ≡ [] → IsPushed false by_inout os new inputs moved left moved_left
no_inout os new inputs left moved moved_left none = λ rest. ap (λ cs. assemble (by_inout ∷ rest) (parts_from inputs) cs) none ∙ inout_none (parts_from inputs) rest

pub pushed_out : (os new : List (Option model.Value)) (inputs moved : List model.Value) → new ≡ os ++ None ∷ [] → IsPushed true by_out os new inputs moved inputs moved
pushed_out os new inputs moved pushed = λ rest. ap (option_map (in_front_of os)) (out_gap (parts_from inputs) moved rest) ∙ front_gap os new (assemble rest (parts_from inputs) moved) pushed

-- the end of the arguments
pub all_pushed : (os : List (Option model.Value)) (inputs moved : List model.Value) → none_left inputs ≡ true → none_left moved ≡ true → option_map (in_front_of os) (assemble [] (parts_from inputs) moved) ≡ Some (places.parts_from os)
all_pushed os [] [] none none_moved = ap Some (front_none os)
all_pushed os [] (c ∷ moved) none none_moved = cc
all_pushed os (c ∷ inputs) moved none none_moved = cc

pub inputs_over : (os : List (Option model.Value)) (inputs moved : List model.Value) → none_left inputs ≡ false → option_map (in_front_of os) (assemble [] (parts_from inputs) moved) ≡ None
inputs_over os [] moved some = cc
inputs_over os (c ∷ inputs) moved some = refl

pub moved_over : (os : List (Option model.Value)) (inputs moved : List model.Value) → none_left moved ≡ false → option_map (in_front_of os) (assemble [] (parts_from inputs) moved) ≡ None
moved_over os inputs [] some = cc
moved_over os [] (c ∷ moved) some = refl
moved_over os (d ∷ inputs) (c ∷ moved) some = refl

pub no_values : (vs : List Value) → none_left (map value_view vs) ≡ none_left vs
no_values [] = refl
no_values (v ∷ vs) = refl

-- the cells of inputs that are made one after another: so many are made, and with the rest they are as many as this
pub record CountsOn (f : HeldFrame) (s : Frame ⊤) (rest : List model.Value) (end : ℕ) : Type 0 where
  pub serial : ℕ
  pub stands : Stands f (record s { serial = serial })
  pub leads : serial + count_in (parts_from rest) ≡ end

pub counts_all : (f : HeldFrame) (s : Frame ⊤) (cs : List model.Value) → Stands f s → CountsOn f s cs (s.serial + count_in (parts_from cs))
counts_all f s cs h = record { serial = s.serial; stands = h; leads = refl }

pub counts_one : (f new : HeldFrame) (s : Frame ⊤) (c : model.Value) (cs : List model.Value) (end : ℕ) → ((b : Frame ⊤) → Stands f b → Stands new (record b { serial = b.serial + count c })) → CountsOn f s (c ∷ cs) end → CountsOn new s cs end
counts_one f new s c cs end made t = record { serial = t.serial + count c; stands = made (record s { serial = t.serial }) t.stands; leads = let e : t.serial + count c + count_in (parts_from cs) ≡ t.serial + (count c + count_in (parts_from cs)) = omega arith in e ∙ t.leads }

pub counts_none : (f : HeldFrame) (s : Frame ⊤) (end : ℕ) → CountsOn f s [] end → Stands f (record s { serial = end })
counts_none f s end t = subst (λ n. Stands f (record s { serial = n })) (let e : t.serial ≡ t.serial + 0 = omega arith in e ∙ t.leads) t.stands

-- the whole
pub composed_none : (modes : List Mode) (inputs : Parts ⊤) (lost moved : List Path) (s : Frame ⊤) → take_all moved (drop lost (record s { serial = s.serial + count_in inputs })) ≡ None → compose forget_name modes inputs lost moved s ≡ None
composed_none modes inputs lost moved s none =
    ap (option_and_then (λ (taken : Taken ⊤). option_map (with_message forget_name taken.frame) (assemble modes (copy_in (λ k. forget_name (s.number, k)) s.serial inputs) taken.cells))) none

pub composed_of_taken : (modes : List Mode) (inputs : Parts ⊤) (lost moved : List Path) (s b : Frame ⊤) (cells : List model.Value) → take_all moved (drop lost (record s { serial = s.serial + count_in inputs })) ≡ Some (record { cells = cells; frame = b })
    → compose forget_name modes inputs lost moved s ≡ option_map (with_message forget_name b) (assemble modes inputs cells)
composed_of_taken modes inputs lost moved s b cells is =
    ap (option_and_then (λ (taken : Taken ⊤). option_map (with_message forget_name taken.frame) (assemble modes (copy_in (λ k. forget_name (s.number, k)) s.serial inputs) taken.cells))) is
    ∙ ap (λ ps. option_map (with_message forget_name b) (assemble modes ps cells)) (copy-parts s.number s.serial inputs)

pub composed_unassembled : (modes : List Mode) (inputs : Parts ⊤) (lost moved : List Path) (s : Frame ⊤) (vs : List Value) (f : HeldFrame) → IsTaken (Some vs) f (take_all moved (drop lost (record s { serial = s.serial + count_in inputs }))) → None ≡ assemble modes inputs (map value_view vs)
    → compose forget_name modes inputs lost moved s ≡ None
composed_unassembled modes inputs lost moved s vs f t none = composed_of_taken modes inputs lost moved s t.0 (map value_view vs) t.1 ∙ ap (option_map (with_message forget_name t.0)) (sym none)

pub composed_end : (modes : List Mode) (inputs : Parts ⊤) (lost moved : List Path) (s : Frame ⊤) (vs : List Value) (f new : HeldFrame) (ps : Parts ⊤) (v : Value) → IsTaken (Some vs) f (take_all moved (drop lost (record s { serial = s.serial + count_in inputs })))
    → Some ps ≡ assemble modes inputs (map value_view vs) → ((b : Frame ⊤) → Stands f b → IsComposed (Some v) new (Some (with_message forget_name b ps))) → IsComposed (Some v) new (compose forget_name modes inputs lost moved s)
composed_end modes inputs lost moved s vs f new ps v t some made =
    subst (IsComposed (Some v) new) (ap (option_map (with_message forget_name t.0)) some ∙ sym (composed_of_taken modes inputs lost moved s t.0 (map value_view vs) t.1)) (made t.0 t.2)

-- the callmessage, with which the call is open
pub call_opened : (s : Frame ⊤) (f new : HeldFrame) (x : CallMsg Value) (v : Value) → v ≡ Call x → x.caller.number ≡ f.number → x.call ≡ f.calls → Stands f s → Stands new (record s { serial = suc s.serial; call = Some s.calls; calls = suc s.calls })
    → IsComposed (Some v) new (Some (with_message forget_name s (places.parts_from (views_of x.params.items))))
call_opened s f new x v is number calls h opened = (
  record s { serial = suc s.serial; calls = suc s.calls },
  s.calls,
  ap (λ c. let m : Composed ⊤ = record { message = c; call = s.calls; frame = record s { serial = suc s.serial; calls = suc s.calls } } in Some m)
      (ap₂ (λ n k. cell tt (a_callmessage n k) (places.parts_from (views_of x.params.items))) (h.number ∙ sym number) (h.calls ∙ sym calls) ∙ sym (call_view v x is)),
  opened,
)

pub call_closed : (b : Frame ⊤) (f : HeldFrame) → b.call ≡ None → Stands f (record b { call = None }) → Stands f b
call_closed b f none h = subst (λ o. Stands f (record b { call = o })) (sym none) h
