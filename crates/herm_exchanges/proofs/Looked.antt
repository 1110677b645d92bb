-- The arm of a select from whose port a message came.
use Rattle.std.proofs.Common.{◌≡◌, ℕ, zero, suc, ◌+◌, ◌<◌, List, [], ◌∷◌, map, length, get_or, Bool, true, false, cond, ◌&&◌, nat_eq, Option, Some, None, is_some, option_map, option_and_then, slice_get, refl, sym, ap, subst, ◌∙◌, arith}
use Rattle.std.proofs.lemmas.Bool.{ne_eqb}
use Rattle.std.proofs.lemmas.Option.{slice_get-get_or}
use Rattle.std.specs.Prelude.{⊤}
use Rattle.herm_model.specs.Outcomes.{arm}
use Rattle.herm_model.specs.Paths.{Path}
use Rattle.herm_model.specs.Values as model
use Rattle.herm_model.proofs.Lists.{slice_get-map}
use Rattle.herm_types.specs.View.{path_view}
use Rattle.herm_instructions.specs.Instructions.{Choice}
use Rattle.herm_code.specs.View.{choice_view}
use Rattle.herm_code.specs.declared.instr.Arm.{Arm}
use Rattle.herm_code_machine.specs.CodeActions.{ports_of_choices, targets_of_choices}
use Rattle.herm_model.specs.Values.{has_place}
use Rattle.herm_forms.specs.Exchanges.{inport_at, place_of_port, ports_at, receive_at}
use Rattle.herm_forms.specs.Frames.{Completion, Frame, goes, if_there, put, putting, stuck}
use Rattle.herm_frames.specs.Completed.{Completes}
use Rattle.herm_frames.specs.HeldFrames.{HeldFrame}
use Rattle.herm_frames.specs.Standing.{Stands}
use Rattle.herm_exchanges.specs.Arms.{first_looking, have_ports, is_port}

-- each path has a port where there are ports
joined_ports : (o : Option ℕ) (r : Option (List ℕ)) (b : Bool) → b ≡ is_some r → is_some o && b ≡ is_some (option_and_then (λ p. option_map (p ∷◌) r) o)
joined_ports None r b is = refl
joined_ports (Some p) None b is = is
joined_ports (Some p) (Some ps) b is = is

pub have-ports : (paths : List Path) (s : Frame ⊤) → have_ports paths s ≡ is_some (ports_at paths s)
have-ports [] s = refl
have-ports (i ∷ paths) s = joined_ports (inport_at i s) (ports_at paths s) (have_ports paths s) (have-ports paths s)

no_ports : (r : Option (List ℕ)) (port : ℕ) → false ≡ is_some r → None ≡ option_and_then (place_of_port 0 port) r
no_ports None port is = refl
no_ports (Some ps) port is = cc

pub without_ports : (paths : List Path) (s : Frame ⊤) (port : ℕ) → false ≡ have_ports paths s → None ≡ option_and_then (place_of_port 0 port) (ports_at paths s)
without_ports paths s port is = no_ports (ports_at paths s) port (is ∙ have-ports paths s)

-- the first path with the port is at the port's place
first_port : (o : Option ℕ) (r : Option (List ℕ)) (n port : ℕ) (more : Option ℕ) (ports : List ℕ) → ((ports : List ℕ) → r ≡ Some ports → more ≡ place_of_port (suc n) port ports) → option_and_then (λ p. option_map (p ∷◌) r) o ≡ Some ports
    → cond (is_port port o) (Some n) more ≡ place_of_port n port ports
first_port None r n port more ports later e = cc
first_port (Some p) None n port more ports later e = cc
first_port (Some p) (Some qs) n port more ports later e = ap (λ x. cond (nat_eq port p) (Some n) x) (later qs refl) ∙ ap (λ o. place o) e
  where
    place : Option (List ℕ) → Option ℕ
    place None = None
    place (Some ps) = place_of_port n port ps

pub first-looking : (paths : List Path) (s : Frame ⊤) (n port : ℕ) (ports : List ℕ) → ports_at paths s ≡ Some ports → first_looking n port paths s ≡ place_of_port n port ports
first-looking [] s n port ports e = ap (λ o. place o) e
  where
    place : Option (List ℕ) → Option ℕ
    place None = None
    place (Some ps) = place_of_port n port ps
first-looking (i ∷ paths) s n port ports e = first_port (inport_at i s) (ports_at paths s) n port (first_looking (suc n) port paths s) ports (λ qs f. first-looking paths s (suc n) port qs f) e

some_ports : (r : Option (List ℕ)) (port : ℕ) (first : Option ℕ) → ((ports : List ℕ) → r ≡ Some ports → first ≡ place_of_port 0 port ports) → true ≡ is_some r → first ≡ option_and_then (place_of_port 0 port) r
some_ports None port first by is = cc
some_ports (Some ps) port first by is = by ps refl

pub with_ports : (paths : List Path) (s : Frame ⊤) (port : ℕ) → true ≡ have_ports paths s → first_looking 0 port paths s ≡ option_and_then (place_of_port 0 port) (ports_at paths s)
with_ports paths s port is = some_ports (ports_at paths s) port (first_looking 0 port paths s) (λ ps e. first-looking paths s 0 port ps e) (is ∙ have-ports paths s)

-- what is received at the target of the arm's place
later : (n i : ℕ) (a b : Completion ⊤) → cond (nat_eq n (suc n + i)) a b ≡ b
later n i a b = ap (λ t. cond t a b) (ne_eqb n (suc n + i) (λ e. omega (arith, e)))

pub receive-at : (targets : List Path) (n i place : ℕ) (m : model.Value) (b : Frame ⊤) → place ≡ n + i → receive_at targets n place m b ≡ if_there (λ x. putting x (arm place) m b) (slice_get targets i)
receive-at [] n i place m b is = refl
receive-at (x ∷ targets) n zero place m b is = ap (λ t. cond t (putting x (arm place) m b) (receive_at targets (suc n) place m b)) (subst (λ k. nat_eq n k ≡ true) (sym (is ∙ plus-none n)) (same n))
  where
    plus-none : (n : ℕ) → n + 0 ≡ n
    plus-none n = omega arith

    same : (n : ℕ) → nat_eq n n ≡ true
    same n = grind arith
receive-at (x ∷ targets) n (suc i) place m b is =
    subst (λ k. receive_at (x ∷ targets) n k m b ≡ receive_at targets (suc n) k m b) (sym (is ∙ moved)) (later n i _ _)
    ∙ receive-at targets (suc n) i place m b (is ∙ moved)
  where
    moved : n + suc i ≡ suc n + i
    moved = omega arith

pub selected_none : (o : Option ℕ) (targets : List Path) (m : model.Value) (b : Frame ⊤) → None ≡ o → if_there (λ place. receive_at targets 0 place m b) o ≡ stuck
selected_none o targets m b is = ap (λ o. if_there (λ place. receive_at targets 0 place m b) o) (sym is)

placed_at : (o : Option ℕ) (targets : List Path) (place : ℕ) (x : Path) (m : model.Value) (b : Frame ⊤) → Some place ≡ o → slice_get targets place ≡ Some x → if_there (λ place. receive_at targets 0 place m b) o ≡ putting x (arm place) m b
placed_at o targets place x m b is at =
    ap (λ o. if_there (λ place. receive_at targets 0 place m b) o) (sym is)
    ∙ receive-at targets 0 place place m b (omega arith)
    ∙ ap (λ y. if_there (λ x. putting x (arm place) m b) y) at

pub selected_there : (o : Option ℕ) (targets : List Path) (place : ℕ) (x : Path) (m : model.Value) (b : Frame ⊤) (f : HeldFrame) → Some place ≡ o → slice_get targets place ≡ Some x → true ≡ has_place b.variables x → Stands f (put x m b)
    → Completes (Some (arm place)) f (if_there (λ place. receive_at targets 0 place m b) o)
selected_there o targets place x m b f is at there h = (put x m b, placed_at o targets place x m b is at ∙ ap (λ t. cond t (goes (arm place) (put x m b)) stuck) (sym there), h)

pub selected_nowhere : (o : Option ℕ) (targets : List Path) (place : ℕ) (x : Path) (m : model.Value) (b : Frame ⊤) → Some place ≡ o → slice_get targets place ≡ Some x → false ≡ has_place b.variables x → if_there (λ place. receive_at targets 0 place m b) o ≡ stuck
selected_nowhere o targets place x m b is at there = placed_at o targets place x m b is at ∙ ap (λ t. cond t (goes (arm place) (put x m b)) stuck) (sym there)

-- the port of an arm, and its target
pub arm_port : (arms : List Arm) (n : ℕ) (s : Frame ⊤) (o : Option Arm) → o ≡ slice_get arms n
    → option_and_then (λ (a : Arm). inport_at (path_view a.port) s) o ≡ option_and_then (λ i. inport_at i s) (slice_get (ports_of_choices (map choice_view arms)) n)
arm_port arms n s o is =
    ap (option_and_then (λ (a : Arm). inport_at (path_view a.port) s)) is
    ∙ mapped (slice_get arms n)
    ∙ ap (option_and_then (λ i. inport_at i s)) (sym (slice_get-map (λ (a : Choice). a.port) (map choice_view arms) n ∙ ap (option_map (λ (a : Choice). a.port)) (slice_get-map choice_view arms n)))
  where
    mapped : (o : Option Arm) → option_and_then (λ (a : Arm). inport_at (path_view a.port) s) o ≡ option_and_then (λ i. inport_at i s) (option_map (λ (a : Choice). a.port) (option_map choice_view o))
    mapped None = refl
    mapped (Some a) = refl

pub arm_target : (arms : List Arm) (n : ℕ) (d : Arm) → n < length arms → slice_get (targets_of_choices (map choice_view arms)) n ≡ Some (path_view (get_or arms n d).target)
arm_target arms n d within =
    slice_get-map (λ (a : Choice). a.target) (map choice_view arms) n
    ∙ ap (option_map (λ (a : Choice). a.target)) (slice_get-map choice_view arms n ∙ ap (option_map choice_view) (slice_get-get_or arms n d within))
