-- Values that are put at the paths of arguments one after another, and arguments that are left.
use Rattle.std.proofs.Common.{◌≡◌, ℕ, List, [], ◌∷◌, ◌++◌, Bool, true, false, cond, not, nat_eq, IsTrue, Option, Some, None, refl, sym, ap, subst, ◌∙◌, arith}
use Rattle.std.specs.Prelude.{⊤}
use Rattle.herm_model.specs.Lists.{any_pass}
use Rattle.herm_model.specs.Calls.{kept_for}
use Rattle.herm_model.specs.Outcomes as outcomes
use Rattle.herm_model.specs.Outcomes.{Outcome}
use Rattle.herm_model.specs.Types.{Raised}
use Rattle.herm_journal.specs.Actions as actions
use Rattle.herm_journal.specs.Actions.{gone, hear}
use Rattle.herm_model.specs.Paths.{Path, same_path}
use Rattle.herm_model.specs.Values as model
use Rattle.herm_model.specs.Values.{has_place}
use Rattle.herm_forms.specs.Frames.{Completion, Frame, drop, goes, put, putting_all, stuck}
use Rattle.herm_instructions.specs.Instructions.{Argument, of_in, of_inout, of_out, Call}
use Rattle.herm_code_machine.specs.CodeActions.{code_hears, kept_paths, left_paths, outs, path_in, returned}
use Rattle.herm_frames.specs.Completed.{Completes}
use Rattle.herm_frames.specs.HeldFrames.{HeldFrame}
use Rattle.herm_frames.specs.Standing.{Stands}
use Rattle.herm_exchanges.specs.Heard.{IsPut, left_of, paths_at}

-- a frame from which the rest leads to this end
pub record PutsOn (f : HeldFrame) (rest : List Path) (o : Outcome) (left : List model.Value) (end : Completion ⊤) : Type 0 where
  pub frame : Frame ⊤
  pub stands : Stands f frame
  pub leads : putting_all rest o left frame ≡ end

pub puts_all : (f : HeldFrame) (paths : List Path) (o : Outcome) (cs : List model.Value) (s : Frame ⊤) → Stands f s → PutsOn f paths o cs (putting_all paths o cs s)
puts_all f paths o cs s h = record { frame = s; stands = h; leads = refl }

pub puts_one : (f new : HeldFrame) (path rest : List Path) (o : Outcome) (old left : List model.Value) (end : Completion ⊤) → ((s : Frame ⊤) → Stands f s → IsPut true new path old left s) → PutsOn f (path ++ rest) o old end → PutsOn new rest o left end
puts_one f new path rest o old left end next t =
    let p : IsPut true new path old left t.frame = next t.frame t.stands in record { frame = p.0; stands = p.1; leads = sym (p.2 rest o) ∙ t.leads }

pub puts_stuck : (f new : HeldFrame) (path rest : List Path) (o : Outcome) (old left : List model.Value) (end : Completion ⊤) → ((s : Frame ⊤) → Stands f s → IsPut false new path old left s) → PutsOn f (path ++ rest) o old end → end ≡ stuck
puts_stuck f new path rest o old left end next t = sym t.leads ∙ next t.frame t.stands rest o

pub puts_end : (f : HeldFrame) (o : Outcome) (left : List model.Value) (end : Completion ⊤) → left ≡ [] → PutsOn f [] o left end → Completes (Some o) f end
puts_end f o left end none t = (t.frame, sym t.leads ∙ ap (λ cs. putting_all [] o cs t.frame) none, t.stands)

pub puts_more : (f : HeldFrame) (o : Outcome) (c : model.Value) (cs : List model.Value) (end : Completion ⊤) → PutsOn f [] o (c ∷ cs) end → end ≡ stuck
puts_more f o c cs end t = sym t.leads

-- one value at one path
pub put_none : (f : HeldFrame) (left : List model.Value) (s : Frame ⊤) → Stands f s → IsPut true f [] left left s
put_none f left s h = (s, h, λ rest o. refl)

pub put_nothing : (f : HeldFrame) (p : Path) (left new : List model.Value) (s : Frame ⊤) → left ≡ [] → IsPut false f (p ∷ []) left new s
put_nothing f p left new s none = λ rest o. ap (λ cs. putting_all (p ∷ [] ++ rest) o cs s) none

pub put_value : (t : Bool) (f new : HeldFrame) (p : Path) (c : model.Value) (old left : List model.Value) (s : Frame ⊤) → old ≡ c ∷ left → t ≡ has_place s.variables p → (IsTrue t → Stands new (put p c s)) → IsPut t new (p ∷ []) old left s
put_value true f new p c old left s is there h =
    (put p c s, h refl, λ rest o. ap (λ cs. putting_all (p ∷ [] ++ rest) o cs s) is ∙ ap (λ t. cond t (putting_all rest o left (put p c s)) stuck) (sym there))
put_value false f new p c old left s is there h =
    λ rest o. ap (λ cs. putting_all (p ∷ [] ++ rest) o cs s) is ∙ ap (λ t. cond t (putting_all rest o left (put p c s)) stuck) (sym there)

-- the paths of arguments
pub returned_first : (a : Argument) (arguments : List Argument) → path_in (Some a) ++ returned arguments ≡ returned (a ∷ arguments)
returned_first of_in arguments = refl
returned_first (of_inout p) arguments = refl
returned_first (of_out p) arguments = refl

pub nothing_kept : (paths : List Path) → left_of [] paths ≡ paths
nothing_kept [] = refl
nothing_kept (p ∷ paths) = ap (p ∷◌) (nothing_kept paths)

pub left_first : (kept : List Path) (p : Path) (paths : List Path) → any_pass (same_path p) kept ≡ false → left_of kept (p ∷ paths) ≡ p ∷ left_of kept paths
left_first kept p paths none = ap (λ t. cond (not t) (p ∷ left_of kept paths) (left_of kept paths)) none

pub left_other : (kept : List Path) (p : Path) (paths : List Path) → any_pass (same_path p) kept ≡ true → left_of kept (p ∷ paths) ≡ left_of kept paths
left_other kept p paths some = ap (λ t. cond (not t) (p ∷ left_of kept paths) (left_of kept paths)) some

-- the answer of this call is heard
this_call : (call : ℕ) → nat_eq call call ≡ true
this_call call = grind arith

pub raised_heard : (arguments : List Argument) (keeps : List Raised) (port : Path) (call : ℕ) (s : Frame ⊤) (e : ℕ) (cs : List model.Value) (kept : List ℕ) (f : HeldFrame) (r : Option Outcome) → kept ≡ kept_for keeps e
    → Completes r f (putting_all (paths_at arguments kept) (outcomes.raised e) cs (drop (left_of (paths_at arguments kept) (outs arguments)) (record s { call = None }))) → Completes r f (code_hears (Call port arguments keeps) call (hear call (actions.raised e cs)) s)
raised_heard arguments keeps port call s e cs kept f r is h =
    subst (λ t. Completes r f (cond t (putting_all (kept_paths arguments keeps e) (outcomes.raised e) cs (drop (left_paths arguments keeps e) (record s { call = None }))) stuck)) (sym (this_call call))
    (subst (λ places. Completes r f (putting_all (paths_at arguments places) (outcomes.raised e) cs (drop (left_of (paths_at arguments places) (outs arguments)) (record s { call = None })))) is h)

pub gone_heard : (arguments : List Argument) (keeps : List Raised) (port : Path) (call : ℕ) (s : Frame ⊤) (f : HeldFrame) → Stands f (drop (left_of [] (outs arguments)) (record s { call = None }))
    → Completes (Some (outcomes.raised outcomes.disconnected)) f (code_hears (Call port arguments keeps) call (hear call gone) s)
gone_heard arguments keeps port call s f h =
    subst (λ t. Completes (Some (outcomes.raised outcomes.disconnected)) f (cond t (goes (outcomes.raised outcomes.disconnected) (drop (outs arguments) (record s { call = None }))) stuck)) (sym (this_call call))
    (drop (outs arguments) (record s { call = None }), refl, subst (λ ps. Stands f (drop ps (record s { call = None }))) (nothing_kept (outs arguments)) h)
