-- The source machine keeps numbers and the ledger, and its processes know only what they were told.
use Rattle.std.proofs.Common.{◌≡◌, ℕ, ◌+◌, Option, Some, None, option_and_then, slice_get, refl, sym, ap, subst, ◌∙◌, arith}
use Rattle.herm_model.specs.Lists.{total, list_of}
use Rattle.herm_model.specs.Values.{Name, Kind}
use Rattle.herm_model.proofs.Options.{some-injective, chain-some, map-some, none-not_some}
use Rattle.herm_journal.specs.Actions.{new_port, new_process, to_put, to_take, to_close, to_answer, to_hear, make_port, make_process, put, take, close, answer, hear}
use Rattle.herm_journal.specs.NextNumbers.{Book}
use Rattle.herm_journal.specs.Messages.{CellWant, CellAction}
use Rattle.herm_journal.specs.Weights.{weigh}
use Rattle.herm_journal.specs.Kinds.{IfWant, WantKinds}
use Rattle.herm_forms.specs.Weights.{weight_held, weight_accounted, weight_made, weight_sent}
use Rattle.herm_forms.specs.Modules.{Module}
use Rattle.herm_forms.proofs.known.KindsKept.{AllowsPlain, BodyKinds}
use Rattle.herm_system.specs.Machines.{Held}
use Rattle.herm_system.specs.Ledger.{held_by, goes_out}
use Rattle.herm_runs.specs.laws.ProcessLaws.{KeepsNumbers, KeepsLedger, IsKnown, HeldKinds, Knows, KnowsPlaces, cells_alone}
use Rattle.herm_source.specs.Modules.{Modules}
use Rattle.herm_source.specs.States.{State, own_name, begin, wanted, local_step, answered}
use Rattle.herm_source.specs.SeenBySystem.{values_held}
use Rattle.herm_source.specs.Instance.{source, code_at}
use Rattle.herm_source.proofs.Numbers.{local-stays, answer-stays, begin-number}
use Rattle.herm_source.proofs.KeptSteps.{beginnings-keep, local-steps-keep, answers-keep}
use Rattle.herm_source.proofs.known.KindsStepped.{wanted-kinds, local-kinds, answer-kinds_kept, begin-kinds}
use Rattle.herm_source.proofs.instance.HeldValues.{weigh-values, values-are, are-values}

-- a number and a module that stay
module _ (modules : Modules) where
  pub local-code : (x y : State Name) → option_and_then (λ c. local_step own_name c x) (code_at modules x) ≡ Some y → (c : Module) × (code_at modules x ≡ Some c) × (local_step own_name c x ≡ Some y)
  local-code x y e = chain-some (λ c. local_step own_name c x) (code_at modules x) y e

  pub answer-code : (x y : State Name) (at : ℕ) (a : CellAction Name) → option_and_then (λ c. answered own_name c x at a) (code_at modules x) ≡ Some y → (c : Module) × (code_at modules x ≡ Some c) × (answered own_name c x at a ≡ Some y)
  answer-code x y at a e = chain-some (λ c. answered own_name c x at a) (code_at modules x) y e

  -- the same module afterwards
  pub code-stays : (x y : State Name) (c : Module) → code_at modules x ≡ Some c → y.module_number ≡ x.module_number → code_at modules y ≡ Some c
  code-stays x y c is same = ap (slice_get modules.codes) same ∙ is

  pub source-keeps-numbers : KeepsNumbers (source modules)
  source-keeps-numbers = record {
    begins = λ code number inport x e.
        let m = map-some (λ c. begin c code number inport) (slice_get modules.codes code) x e in
        subst (λ (y : State Name). (y.frame.number ≡ number) × (y.module_number ≡ code)) m.2 (begin-number own_name m.0 code number inport, refl);
    local_steps = λ x y e. let c = local-code x y e in local-stays own_name c.0 x y c.2;
    answers = λ x y at a e. let c = answer-code x y at a e in answer-stays own_name c.0 x y at a c.2;
  }

  -- what a process holds weighs as much together
  pub held-weighs : (w : Name → ℕ) (x : State Name) (c : Module) → code_at modules x ≡ Some c → held_by w (source modules) x ≡ weight_held w x.frame
  held-weighs w x c is = ap (λ o. total (λ (h : Held Name). weigh w h.value) (list_of (λ c. values_held c x) o)) is ∙ weigh-values w c x

  goes : (w : Name → ℕ) (x : State Name) (want : CellWant Name) (a : CellAction Name) → goes_out w (source modules) x want a ≡ weight_sent w own_name x.frame want a
  goes w x (to_put n m) a = refl
  goes w x (to_answer caller call r) a = refl
  goes w x (new_process code) (make_process code' (Some weight_made)) = refl
  goes w x (new_process code) (make_process code' None) = refl
  goes w x (new_process code) (make_port weight_made) = refl
  goes w x (new_process code) (put number m) = refl
  goes w x (new_process code) (take number m) = refl
  goes w x (new_process code) (close count left) = refl
  goes w x (new_process code) (answer call r) = refl
  goes w x (new_process code) (hear call r) = refl
  goes w x new_port a = refl
  goes w x (to_take ports) a = refl
  goes w x (to_close n) a = refl
  goes w x to_hear a = refl

  pub source-keeps-ledger : KeepsLedger (source modules)
  source-keeps-ledger = record {
    begins = λ w code number inport x e.
        let m = map-some (λ c. begin c code number inport) (slice_get modules.codes code) x e in
        let is : code_at modules x ≡ Some m.0 = ap (λ (y : State Name). slice_get modules.codes y.module_number) (sym m.2) ∙ m.1 in
        let keeps : weight_made w own_name x.frame + weigh w inport ≡ weight_accounted w x.frame = subst (λ (y : State Name). weight_made w own_name y.frame + weigh w inport ≡ weight_accounted w y.frame) m.2 (beginnings-keep w own_name m.0 code number inport) in
        omega (arith, keeps, held-weighs w x m.0 is);
    local_steps = λ w x y e.
        let c = local-code x y e in
        let is = code-stays x y c.0 c.1 (local-stays own_name c.0 x y c.2).1 in
        omega (arith, local-steps-keep w own_name c.0 x y c.2, held-weighs w x c.0 c.1, held-weighs w y c.0 is);
    answers = λ w x y want at a wants e.
        let c = answer-code x y at a e in
        let d = chain-some (λ c. wanted own_name c x) (code_at modules x) want wants in
        let same : d.0 ≡ c.0 = some-injective (sym d.1 ∙ c.1) in
        let wants_it : wanted own_name c.0 x ≡ Some want = subst (λ (k : Module). wanted own_name k x ≡ Some want) same d.2 in
        let is = code-stays x y c.0 c.1 (answer-stays own_name c.0 x y at a c.2).1 in
        omega (arith, answers-keep w own_name c.0 x y want at a wants_it c.2, held-weighs w x c.0 c.1, held-weighs w y c.0 is, goes w x want a);
  }

-- what a process knows is what its cells are
known-allows : (b : Book) → AllowsPlain (IsKnown b)
known-allows b = record { scalars = λ s. tt; records = tt; variants = λ c. tt; tables = tt; polymorphs = λ t. tt; outports = λ n h. h }

want-of : (of : Kind → Type 0) (o : Option (CellWant Name)) (w : CellWant Name) → IfWant of o → o ≡ Some w → WantKinds of w
want-of of None w h e = none-not_some e
want-of of (Some v) w h e = subst (WantKinds of) (some-injective e) h

module _ (modules : Modules) (b : Book) where
  body-known : (x : State Name) (c : Module) → code_at modules x ≡ Some c → Knows (source modules) cells_alone b x → BodyKinds (IsKnown b) x.frame
  body-known x c is k =
      let weight_held = subst (HeldKinds (IsKnown b)) (ap (list_of (λ c. values_held c x)) is) k.0 in
      let parts = are-values (IsKnown b) c x weight_held in
      (parts.0, parts.1, parts.2, λ call. (k.1, k.2))

  known-body : (x : State Name) (c : Module) → code_at modules x ≡ Some c → BodyKinds (IsKnown b) x.frame → Knows (source modules) cells_alone b x
  known-body x c is k =
      let own = k.3 0 in
      (subst (HeldKinds (IsKnown b)) (sym (ap (list_of (λ c. values_held c x)) is)) (values-are (IsKnown b) c x k.0 k.1 k.2), own.0, own.1, tt)

pub source-knows-places : (modules : Modules) → KnowsPlaces (source modules) cells_alone
source-knows-places modules = record {
  begins = λ b code number inport x h one le e.
      let m = map-some (λ c. begin c code number inport) (slice_get modules.codes code) x e in
      let is : code_at modules x ≡ Some m.0 = ap (λ (y : State Name). slice_get modules.codes y.module_number) (sym m.2) ∙ m.1 in
      known-body modules b x m.0 is (subst (λ (y : State Name). BodyKinds (IsKnown b) y.frame) m.2 (begin-kinds own_name (IsKnown b) (known-allows b) m.0 code number inport h (λ call. (one, le))));
  wants = λ b x want k e.
      let c = chain-some (λ c. wanted own_name c x) (code_at modules x) want e in
      want-of (IsKnown b) (wanted own_name c.0 x) want (wanted-kinds own_name (IsKnown b) (known-allows b) c.0 x (body-known modules b x c.0 c.1 k)) c.2;
  local_steps = λ b x y k e.
      let c = local-code modules x y e in
      let is = code-stays modules x y c.0 c.1 (local-stays own_name c.0 x y c.2).1 in
      known-body modules b y c.0 is (local-kinds own_name (IsKnown b) (known-allows b) c.0 x y (body-known modules b x c.0 c.1 k) c.2);
  answers = λ b x y want at a k wants answers brings e.
      let c = answer-code modules x y at a e in
      let is = code-stays modules x y c.0 c.1 (answer-stays own_name c.0 x y at a c.2).1 in
      known-body modules b y c.0 is (answer-kinds_kept own_name (IsKnown b) (known-allows b) c.0 x y at a brings (body-known modules b x c.0 c.1 k) c.2);
}
