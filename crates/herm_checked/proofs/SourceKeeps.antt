-- The source machine of a checked program keeps sound states sound.
use Rattle.std.proofs.Common.{◌≡◌, inl, inr, ℕ, List, Option, Some, option_map, slice_get, refl, sym, ap, subst}
use Rattle.herm_model.specs.Lists.{IsIn}
use Rattle.herm_model.specs.Values.{Name, Kind, a_scalar, a_record, a_variant, a_table, a_polymorph, a_callmessage, an_inport, an_outport, Cell, cell, no_parts}
use Rattle.herm_model.proofs.Options.{chain-some}
use Rattle.herm_journal.specs.Actions.{new_port, new_process, to_put, to_take, to_close, to_answer, to_hear, make_port, make_process, put, take, hear}
use Rattle.herm_journal.specs.Messages.{CellWant, CellAction}
use Rattle.herm_forms.specs.Modules.{Module}
use Rattle.herm_source.specs.Checked.{IsChecked}
use Rattle.herm_source.specs.Instance.{source}
use Rattle.herm_source.specs.Modules.{Program, Modules}
use Rattle.herm_source.specs.States.{State, begin}
use Rattle.herm_source.specs.laws.CountLaws.{HasTypesIn}
use Rattle.herm_source.specs.laws.PlaceLaws as places
use Rattle.herm_source.specs.laws.SoundProcesses.{IsSoundProcess}
use Rattle.herm_source.specs.laws.Standing as standing
use Rattle.herm_source.specs.laws.Wants as wants
use Rattle.herm_source.proofs.counted.CountedSteps.{typed-programs-keep-counts}
use Rattle.herm_source.proofs.instance.SourceLaws.{source-keeps-numbers, source-keeps-ledger}
use Rattle.herm_source.proofs.placed.KeptStanding.{checked-processes-keep-standing}
use Rattle.herm_source.proofs.sound.GoingOn.{checked-processes-go-on}
use Rattle.herm_source.proofs.sound.SoundProcesses.{stay-sound}
use Rattle.herm_sound.specs.Standing.{at_type, StandsAt, AllStand, cells_alone, typed_places, typed_coming, typed_made, typed_going}
use Rattle.herm_sound.specs.SoundMachines.{HasFor, KeepsStanding, StaysSound, KeepsWaiting, KeepsSound}
use Rattle.herm_checked.proofs.CallMoves.{local-moves, answer-moves, begin-closed}

module _ (exceptions : ℕ) (program : Program) (modules : Modules) (checked : IsChecked exceptions program modules) where
  abbrev pub first : ℕ → Option ℕ
  first = standing.first_type modules

  abbrev pub new : State Name → Option ℕ
  new = standing.new_type modules

  -- the source machine's words for typed places are those over any machine
  module _ (ports : List ℕ) (calls : ℕ → ℕ → Option ℕ) where
    to-stand : (t : ℕ) (k : Kind) → places.StandsAt modules.types ports calls t k → StandsAt modules.types ports calls t k
    to-stand t (an_inport n) h = h
    to-stand t (an_outport n) h = h
    to-stand t (a_callmessage p k) h = h
    to-stand t (a_scalar s) h = h
    to-stand t a_record h = h
    to-stand t (a_variant c) h = h
    to-stand t a_table h = h
    to-stand t (a_polymorph u) h = h

    from-stand : (t : ℕ) (k : Kind) → StandsAt modules.types ports calls t k → places.StandsAt modules.types ports calls t k
    from-stand t (an_inport n) h = h
    from-stand t (an_outport n) h = h
    from-stand t (a_callmessage p k) h = h
    from-stand t (a_scalar s) h = h
    from-stand t a_record h = h
    from-stand t (a_variant c) h = h
    from-stand t a_table h = h
    from-stand t (a_polymorph u) h = h

    to-all : (xs ys : List (ℕ × Kind)) → xs ≡ ys → standing.AllStand modules ports calls xs → AllStand modules.types ports calls ys
    to-all xs ys same all t k h = to-stand t k (all t k (subst (IsIn (t, k)) (sym same) h))

    from-all : (xs ys : List (ℕ × Kind)) → xs ≡ ys → AllStand modules.types ports calls ys → standing.AllStand modules ports calls xs
    from-all xs ys same all t k h = from-stand t k (all t k (subst (IsIn (t, k)) same h))

    same-coming : (x : State Name) (at : ℕ) (a : CellAction Name) → standing.typed_coming modules x at a ≡ typed_coming (source modules) x at a
    same-coming x at (take i m) = refl
    same-coming x at (hear k r) = refl
    same-coming x at a = refl

    same-made : (x y : State Name) (a : CellAction Name) → standing.typed_made modules x y a ≡ typed_made (source modules) first new x y a
    same-made x y (make_port (Some n)) = refl
    same-made x y (make_process code (Some made)) = refl
    same-made x y (put (Some i) m) = refl
    same-made x y a = refl

    same-going : (w : CellWant Name) (a : CellAction Name) → standing.typed_going modules.types ports calls w a ≡ typed_going modules.types ports calls w a
    same-going (to_put n m) (put (Some i) d) = refl
    same-going (to_answer caller call r) a = refl
    same-going w a = refl

    pub source-keeps-standing : KeepsStanding (source modules) first new (IsSoundProcess program modules) cells_alone ports calls
    source-keeps-standing =
        let keeps = checked-processes-keep-standing exceptions program modules checked ports calls in
        record {
          begins = λ code number port n x e all. (
            to-all (typed_places (source modules) x) (typed_places (source modules) x) refl (keeps.begins code number port n x e (from-all (at_type (an_inport port) (first code)) (at_type (an_inport port) (first code)) refl all)),
            λ t n h. absurd h,
          );
          local_steps = λ x y is e all beside. (
            to-all (typed_places (source modules) y) (typed_places (source modules) y) refl (keeps.local_steps x y e is (from-all (typed_places (source modules) x) (typed_places (source modules) x) refl all)),
            λ t n h. absurd h,
          );
          answers = λ x y w at a is wanted h suits e all beside comes makes.
              let both = keeps.answers x y w at a wanted h suits e is (from-all (typed_places (source modules) x) (typed_places (source modules) x) refl all)
              (from-all (standing.typed_coming modules x at a) (typed_coming (source modules) x at a) (same-coming x at a) comes)
              (from-all (standing.typed_made modules x y a) (typed_made (source modules) first new x y a) (same-made x y a) makes) in (
                to-all (typed_places (source modules) y) (typed_places (source modules) y) refl both.0,
                λ t n h. absurd h,
                to-all (standing.typed_going modules.types ports calls w a) (typed_going modules.types ports calls w a) (same-going w a) both.1,
              );
        }

  pub source-stays-sound : StaysSound (source modules) (IsSoundProcess program modules)
  source-stays-sound =
      let stays = stay-sound exceptions program modules checked in
      record {
        begins = λ code number port n x e. (stays.begins code number port n x e, begin-closed modules code number (cell n (an_inport port) no_parts) x e);
        local_steps = λ x y is e. (stays.local_steps x y e is, local-moves modules x y e);
        answers = λ x y w at a is wanted h suits e. (stays.answers x y at a (w, wanted, h) suits e is, answer-moves modules x y at a e);
      }

  -- of accepted modules there is one where its port has a type
  pub begins-there : (code t : ℕ) → first code ≡ Some t → (number : ℕ) (port : Cell Name) → (z : State Name) × ((source modules).begin code number port ≡ Some z)
  begins-there code t types number port =
      let c = chain-some (λ (c : Module). slice_get c.variables 0) (slice_get modules.codes code) t types in
      (_, ap (option_map (λ c. begin c code number port)) c.1)

  pub has-for : (x : State Name) (w : CellWant Name) → wants.HasFor modules x w → HasFor (source modules) first new x w
  has-for x new_port h = h
  has-for x (new_process code) h = (h.0, h.1, h.2, λ number port n. begins-there code h.0 h.1 number (cell n (an_inport port) no_parts))
  has-for x (to_put n m) h = h
  has-for x (to_take ports) h = h.1
  has-for x (to_close n) h = h.1
  has-for x (to_answer caller call r) (inl h) = inl (h.1, h.2)
  has-for x (to_answer caller call r) (inr h) = inr h
  has-for x to_hear h = (h.0, h.2)

  types-in : (x : State Name) → IsSoundProcess program modules x → HasTypesIn modules x
  types-in x is c coded = (is.sound c coded).types

  pub source-keeps-counts : KeepsWaiting (source modules) (IsSoundProcess program modules)
  source-keeps-counts =
      let keeps = typed-programs-keep-counts exceptions program modules checked.accepted checked.typed in
      record {
        begins = λ test of code number port n x e. keeps.begins test of code number (cell n (an_inport port) no_parts) x e;
        local_steps = λ test of x y is e. keeps.local_steps test of x y (types-in x is) e;
        answers = λ test of x y w at a is wanted h suits e. keeps.answers test of x y w at a (types-in x is) wanted h e;
      }

  unfoldable pub source-keeps-sound : KeepsSound (source modules) (IsSoundProcess program modules)
  source-keeps-sound = record {
    first_type = first;
    new_type = new;
    beside = cells_alone;
    numbers = source-keeps-numbers modules;
    ledger = source-keeps-ledger modules;
    counts = source-keeps-counts;
    processes = source-stays-sound;
    wants = λ x w is wanted. has-for x w ((checked-processes-go-on exceptions program modules checked).places x w is wanted);
    standing = source-keeps-standing;
  }

  -- it has no values but its cells
  pub none-beside : (source-keeps-sound).beside ≡ cells_alone
  unfolding source-keeps-sound
  none-beside = refl
