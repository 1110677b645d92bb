-- What is told of wants, and of the ports that are looked at.
use Rattle.std.proofs.Common.{◌≡◌, ℕ, zero, suc, List, [], ◌∷◌, map, length, Option, Some, None, option_map, option_and_then, slice_get, refl, sym, ap, ◌∙◌}
use Rattle.std.specs.Prelude.{⊤}
use Rattle.herm_model.specs.Paths.{Path}
use Rattle.herm_model.specs.Values.{Cell}
use Rattle.herm_journal.specs.Actions.{to_put, to_take, to_answer}
use Rattle.herm_journal.specs.Messages.{CellWant, CellReply}
use Rattle.herm_forms.specs.Callmessages.{Composed}
use Rattle.herm_forms.specs.Exchanges.{inport_at, ports_at, select_wants}
use Rattle.herm_forms.specs.Frames.{Frame, Taken}
use Rattle.herm_types.specs.View.{path_view}
use Rattle.herm_code.specs.View.{choice_view}
use Rattle.herm_code.specs.declared.instr.Arm.{Arm}
use Rattle.herm_code_machine.specs.CodeActions.{ports_of_choices}
use Rattle.herm_exchanges.specs.Told.{a_put, a_take, an_answer, told, told_among}

-- equal wants tell the same
pub same_told : (v w : CellWant ⊤) → Some v ≡ Some w → told v ≡ told w
same_told v w e = ap (option_and_then told) e

pub put_told : (o : Option ℕ) (x : Option (Cell ⊤)) (w : CellWant ⊤) → option_and_then (λ p. option_map (to_put p) x) o ≡ Some w → option_map a_put o ≡ told w
put_told None x w e = cc
put_told (Some p) None w e = cc
put_told (Some p) (Some m) w e = ap (option_and_then told) e

pub call_told : (o : Option ℕ) (x : Option (Composed ⊤)) (w : CellWant ⊤) → option_and_then (λ p. option_map (λ (c : Composed ⊤). to_put p c.message) x) o ≡ Some w → option_map a_put o ≡ told w
call_told None x w e = cc
call_told (Some p) None w e = cc
call_told (Some p) (Some m) w e = ap (option_and_then told) e

pub take_told : (o : Option ℕ) (w : CellWant ⊤) → option_map (λ p. to_take (p ∷ [])) o ≡ Some w → option_map (λ p. a_take p 1) o ≡ told w
take_told None w e = cc
take_told (Some p) w e = ap (option_and_then told) e

pub answer_told : (o : Option (ℕ × ℕ)) (reply : List (Cell ⊤) → CellReply ⊤) (x : Option (Taken ⊤)) (w : CellWant ⊤) → option_and_then (λ (c : ℕ × ℕ). option_map (λ (t : Taken ⊤). to_answer c.0 c.1 (reply t.cells)) x) o ≡ Some w → option_map (λ (c : ℕ × ℕ). an_answer c.0 c.1) o ≡ told w
answer_told None reply x w e = cc
answer_told (Some c) reply None w e = cc
answer_told (Some c) reply (Some t) w e = ap (option_and_then told) e

-- as many ports as paths
ports_by : (o : Option ℕ) (r : Option (List ℕ)) (n : ℕ) → ((ports : List ℕ) → r ≡ Some ports → length ports ≡ n) → (ports : List ℕ) → option_and_then (λ p. option_map (p ∷◌) r) o ≡ Some ports → length ports ≡ suc n
ports_by None r n more ports e = cc
ports_by (Some p) None n more ports e = cc
ports_by (Some p) (Some qs) n more ports e = ap (λ o. long o) (sym e) ∙ ap suc (more qs refl)
  where
    long : Option (List ℕ) → ℕ
    long None = 0
    long (Some ps) = length ps

pub ports_long : (paths : List Path) (s : Frame ⊤) (ports : List ℕ) → ports_at paths s ≡ Some ports → length ports ≡ length paths
ports_long [] s ports e = ap long (sym e)
  where
    long : Option (List ℕ) → ℕ
    long None = 0
    long (Some ps) = length ps
ports_long (i ∷ paths) s ports e = ports_by (inport_at i s) (ports_at paths s) (length paths) (λ qs f. ports_long paths s qs f) ports e

-- the first of the ports, and how many they are
select_by : (o : Option ℕ) (r : Option (List ℕ)) (n : ℕ) (w : CellWant ⊤) → ((ports : List ℕ) → r ≡ Some ports → length ports ≡ n) → option_map to_take (option_and_then (λ p. option_map (p ∷◌) r) o) ≡ Some w → option_map (λ p. a_take p (suc n)) o ≡ told w
select_by None r n w more e = cc
select_by (Some p) None n w more e = cc
select_by (Some p) (Some qs) n w more e = ap (λ k. Some (a_take p (suc k))) (sym (more qs refl)) ∙ ap (option_and_then told) e

pub select_told : (i : Path) (paths : List Path) (s : Frame ⊤) (w : CellWant ⊤) → select_wants (i ∷ paths) s ≡ Some w → option_map (λ p. a_take p (suc (length paths))) (inport_at i s) ≡ told w
select_told i paths s w e = select_by (inport_at i s) (ports_at paths s) (length paths) w (λ qs f. ports_long paths s qs f) e

-- the port at a place is that of the path there
looked_by : (o : Option ℕ) (r : Option (List ℕ)) (n : ℕ) (x : Option ℕ) (ports : List ℕ) → ((ports : List ℕ) → r ≡ Some ports → x ≡ slice_get ports n) → option_and_then (λ p. option_map (p ∷◌) r) o ≡ Some ports → x ≡ slice_get ports (suc n)
looked_by None r n x ports more e = cc
looked_by (Some p) None n x ports more e = cc
looked_by (Some p) (Some qs) n x ports more e = more qs refl ∙ ap (λ o. behind o) e
  where
    behind : Option (List ℕ) → Option ℕ
    behind None = None
    behind (Some ps) = slice_get ps (suc n)

first_by : (o : Option ℕ) (r : Option (List ℕ)) (ports : List ℕ) → option_and_then (λ p. option_map (p ∷◌) r) o ≡ Some ports → o ≡ slice_get ports 0
first_by None r ports e = cc
first_by (Some p) None ports e = cc
first_by (Some p) (Some qs) ports e = ap (λ o. first o) e
  where
    first : Option (List ℕ) → Option ℕ
    first None = None
    first (Some ps) = slice_get ps 0

pub looked_at : (paths : List Path) (s : Frame ⊤) (n : ℕ) (ports : List ℕ) → ports_at paths s ≡ Some ports → option_and_then (λ i. inport_at i s) (slice_get paths n) ≡ slice_get ports n
looked_at [] s n ports e = ap (λ o. at o) e
  where
    at : Option (List ℕ) → Option ℕ
    at None = None
    at (Some ps) = slice_get ps n
looked_at (i ∷ paths) s zero ports e = first_by (inport_at i s) (ports_at paths s) ports e
looked_at (i ∷ paths) s (suc n) ports e = looked_by (inport_at i s) (ports_at paths s) n (option_and_then (λ i. inport_at i s) (slice_get paths n)) ports (λ qs f. looked_at paths s n qs f) e

pub first_told : (arms : List Arm) (a : Arm) (rest : List Arm) (s : Frame ⊤) (w : CellWant ⊤) (o : Option ℕ) → arms ≡ a ∷ rest → o ≡ inport_at (path_view a.port) s → select_wants (ports_of_choices (map choice_view arms)) s ≡ Some w
    → option_map (λ p. a_take p (length arms)) o ≡ told w
first_told arms a rest s w o is at e =
    ap (λ o. option_map (λ p. a_take p (length arms)) o) at
    ∙ ap (λ n. option_map (λ p. a_take p n) (inport_at (path_view a.port) s)) (ap length is ∙ ap suc (long rest))
    ∙ select_told (path_view a.port) (ports_of_choices (map choice_view rest)) s w (ap (λ xs. select_wants (ports_of_choices (map choice_view xs)) s) (sym is) ∙ e)
  where
    long : (xs : List Arm) → length xs ≡ length (ports_of_choices (map choice_view xs))
    long [] = refl
    long (x ∷ xs) = ap suc (long xs)

-- instructions that look at no port
abbrev pub some_take : List ℕ → Option (CellWant ⊤)
some_take ports = Some (to_take ports)

pub put_nothing : (o : Option ℕ) (x : Option (Cell ⊤)) (ports : List ℕ) (n : ℕ) → option_and_then (λ p. option_map (to_put p) x) o ≡ some_take ports → None ≡ slice_get ports n
put_nothing None x ports n e = cc
put_nothing (Some p) None ports n e = cc
put_nothing (Some p) (Some m) [] n e = refl
put_nothing (Some p) (Some m) (q ∷ ports) n e = let t : Some (a_put p) ≡ Some (a_take q (suc (length ports))) = ap (option_and_then told) e in cc

pub call_nothing : (o : Option ℕ) (x : Option (Composed ⊤)) (ports : List ℕ) (n : ℕ) → option_and_then (λ p. option_map (λ (c : Composed ⊤). to_put p c.message) x) o ≡ some_take ports → None ≡ slice_get ports n
call_nothing None x ports n e = cc
call_nothing (Some p) None ports n e = cc
call_nothing (Some p) (Some m) [] n e = refl
call_nothing (Some p) (Some m) (q ∷ ports) n e = let t : Some (a_put p) ≡ Some (a_take q (suc (length ports))) = ap (option_and_then told) e in cc

pub answer_nothing : (o : Option (ℕ × ℕ)) (reply : List (Cell ⊤) → CellReply ⊤) (x : Option (Taken ⊤)) (ports : List ℕ) (n : ℕ) → option_and_then (λ (c : ℕ × ℕ). option_map (λ (t : Taken ⊤). to_answer c.0 c.1 (reply t.cells)) x) o ≡ some_take ports → None ≡ slice_get ports n
answer_nothing None reply x ports n e = cc
answer_nothing (Some c) reply None ports n e = cc
answer_nothing (Some c) reply (Some t) [] n e = refl
answer_nothing (Some c) reply (Some t) (q ∷ ports) n e = let t : Some (an_answer c.0 c.1) ≡ Some (a_take q (suc (length ports))) = ap (option_and_then told) e in cc

pub ruleset looking = (put_nothing, call_nothing, answer_nothing)

-- the only port
abbrev taken_from : CellWant ⊤ → List ℕ
taken_from (to_take ports) = ports
taken_from _ = []

abbrev ports_in : Option (CellWant ⊤) → List ℕ
ports_in None = []
ports_in (Some w) = taken_from w

pub only_first : (o : Option ℕ) (ports : List ℕ) (n : ℕ) → n ≡ 0 → option_map (λ p. to_take (p ∷ [])) o ≡ some_take ports → o ≡ slice_get ports n
only_first None ports n none e = cc
only_first (Some p) ports n none e = from n none ∙ ap (λ w. slice_get (ports_in w) n) e
  where
    from : (n : ℕ) → n ≡ 0 → Some p ≡ slice_get (p ∷ []) n
    from n none = ap (λ k. slice_get (p ∷ []) k) (sym none)

pub only_other : (o : Option ℕ) (ports : List ℕ) (n : ℕ) → (n ≡ 0 → ⊥) → option_map (λ p. to_take (p ∷ [])) o ≡ some_take ports → None ≡ slice_get ports n
only_other None ports n other e = cc
only_other (Some p) ports zero other e = absurd (other refl)
only_other (Some p) ports (suc n) other e = ap (λ w. slice_get (ports_in w) (suc n)) e

pub ruleset only_looking = (only_first, only_other)

-- what is told of arms, of which this is the first, with the port at its path
pub among_told : (arms : List Arm) (a : Arm) (rest : List Arm) (s : Frame ⊤) (o : Option ℕ) → arms ≡ a ∷ rest → o ≡ inport_at (path_view a.port) s → option_map (λ p. a_take p (length arms)) o ≡ told_among (ports_of_choices (map choice_view arms)) s
among_told arms a rest s o is at =
    ap (λ o. option_map (λ p. a_take p (length arms)) o) at
    ∙ ap (λ n. option_map (λ p. a_take p n) (inport_at (path_view a.port) s)) (ap length is ∙ ap suc (long rest))
    ∙ ap (λ xs. told_among (ports_of_choices (map choice_view xs)) s) (sym is)
  where
    long : (xs : List Arm) → length xs ≡ length (ports_of_choices (map choice_view xs))
    long [] = refl
    long (x ∷ xs) = ap suc (long xs)

pub none_told : (arms : List Arm) (s : Frame ⊤) → arms ≡ [] → None ≡ told_among (ports_of_choices (map choice_view arms)) s
none_told arms s is = ap (λ xs. told_among (ports_of_choices (map choice_view xs)) s) (sym is)
