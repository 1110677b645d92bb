-- The machine of code keeps numbers and the ledger, and its processes know only what they were told.
use Rattle.std.proofs.Common.{◌≡◌, ℕ, Option, Some, None, option_and_then, slice_get, refl, sym, ap, subst, ◌∙◌, arith}
use Rattle.herm_model.specs.Lists.{total, list_of}
use Rattle.herm_model.specs.Values.{Name, Kind, Cell}
use Rattle.herm_model.proofs.Options.{some-injective, none-not_some, chain-some}
use Rattle.herm_journal.specs.Actions.{new_port, new_process, to_put, to_take, to_close, to_answer, to_hear, make_port, make_process, put, take, close, answer, hear}
use Rattle.herm_journal.specs.Kinds.{IfWant, WantKinds}
use Rattle.herm_journal.specs.Messages.{CellWant, CellAction}
use Rattle.herm_journal.specs.NextNumbers.{Book}
use Rattle.herm_journal.specs.Weights.{weigh}
use Rattle.herm_forms.specs.Weights.{weight_held, weight_sent}
use Rattle.herm_forms.proofs.known.KindsKept.{AllowsPlain}
use Rattle.herm_system.specs.Machines.{Held}
use Rattle.herm_system.specs.Ledger.{held_by, goes_out}
use Rattle.herm_runs.specs.laws.ProcessLaws.{KeepsNumbers, KeepsLedger, IsKnown, HeldKinds, Knows, KnowsPlaces}
use Rattle.herm_code_machine.specs.ReadyCode.{ReadyCode, ReadyImage}
use Rattle.herm_code_machine.specs.CodeStates.{CodeState, code_begin}
use Rattle.herm_code_machine.specs.CodeSteps.{code_wanted, code_local_step, code_answered}
use Rattle.herm_code_machine.specs.CodeSeen.{code_held}
use Rattle.herm_code_machine.specs.CodeInstance.{own_name, code_at, code_machine}
use Rattle.herm_code_machine.specs.Beside.{stack_kinds}
use Rattle.herm_code_machine.proofs.balanced.CodeBalance.{code-begins-balanced, code-steps-balanced, code-answers-balanced}
use Rattle.herm_code_machine.proofs.instance.CodeHeld.{weigh-held, held-are, are-held, stack-among, among-stack}
use Rattle.herm_code_machine.proofs.kept.CodeNumbers.{code-begins, code-local-stays, code-answer-stays}
use Rattle.herm_code_machine.proofs.known.CodeKinds.{StateKinds, code-begin-kinds, code-local-kinds, code-answer-kinds, code-wanted-kinds}

module _ (image : ReadyImage) where
  pub begun-code : (code number : ℕ) (port : Cell Name) (x : CodeState Name) → option_and_then (λ c. code_begin own_name c code number port) (slice_get image.codes code) ≡ Some x
      → (c : ReadyCode) × (slice_get image.codes code ≡ Some c) × (code_begin own_name c code number port ≡ Some x)
  begun-code code number port x e = chain-some (λ c. code_begin own_name c code number port) (slice_get image.codes code) x e

  pub local-code : (x y : CodeState Name) → option_and_then (λ c. code_local_step own_name c x) (code_at image x) ≡ Some y → (c : ReadyCode) × (code_at image x ≡ Some c) × (code_local_step own_name c x ≡ Some y)
  local-code x y e = chain-some (λ c. code_local_step own_name c x) (code_at image x) y e

  pub answer-code : (x y : CodeState Name) (at : ℕ) (a : CellAction Name) → option_and_then (λ c. code_answered own_name c x at a) (code_at image x) ≡ Some y → (c : ReadyCode) × (code_at image x ≡ Some c) × (code_answered own_name c x at a ≡ Some y)
  answer-code x y at a e = chain-some (λ c. code_answered own_name c x at a) (code_at image x) y e

  -- the same module afterwards
  pub code-stays : (x y : CodeState Name) (c : ReadyCode) → code_at image x ≡ Some c → y.module_number ≡ x.module_number → code_at image y ≡ Some c
  code-stays x y c is same = ap (slice_get image.codes) same ∙ is

  pub begun-at : (code : ℕ) (x : CodeState Name) (c : ReadyCode) → slice_get image.codes code ≡ Some c → x.module_number ≡ code → code_at image x ≡ Some c
  begun-at code x c is same = ap (slice_get image.codes) same ∙ is

  pub code-keeps-numbers : KeepsNumbers (code_machine image)
  code-keeps-numbers = record {
    begins = λ code number port x e. let c = begun-code code number port x e in code-begins own_name c.0 code number port x c.2;
    local_steps = λ x y e. let c = local-code x y e in code-local-stays own_name c.0 x y c.2;
    answers = λ x y at a e. let c = answer-code x y at a e in code-answer-stays own_name c.0 x y at a c.2;
  }

  -- what a process holds weighs as much together
  held-weighs : (w : Name → ℕ) (x : CodeState Name) (c : ReadyCode) → code_at image x ≡ Some c → held_by w (code_machine image) x ≡ weight_held w x.frame
  held-weighs w x c is = ap (λ o. total (λ (h : Held Name). weigh w h.value) (list_of (λ c. code_held c x) o)) is ∙ weigh-held w c x

  goes : (w : Name → ℕ) (x : CodeState Name) (want : CellWant Name) (a : CellAction Name) → goes_out w (code_machine image) x want a ≡ weight_sent w own_name x.frame want a
  goes w x (to_put n m) a = refl
  goes w x (to_answer caller call r) a = refl
  goes w x (new_process code) (make_process code' (Some made)) = refl
  goes w x (new_process code) (make_process code' None) = refl
  goes w x (new_process code) (make_port made) = refl
  goes w x (new_process code) (put number m) = refl
  goes w x (new_process code) (take number m) = refl
  goes w x (new_process code) (close count left) = refl
  goes w x (new_process code) (answer call r) = refl
  goes w x (new_process code) (hear call r) = refl
  goes w x new_port a = refl
  goes w x (to_take ports) a = refl
  goes w x (to_close n) a = refl
  goes w x to_hear a = refl

  pub code-keeps-ledger : KeepsLedger (code_machine image)
  code-keeps-ledger = record {
    begins = λ w code number port x e.
        let c = begun-code code number port x e in
        let is = begun-at code x c.0 c.1 (code-begins own_name c.0 code number port x c.2).1 in
        omega (arith, code-begins-balanced w own_name c.0 code number port x c.2, held-weighs w x c.0 is);
    local_steps = λ w x y e.
        let c = local-code x y e in
        let is = code-stays x y c.0 c.1 (code-local-stays own_name c.0 x y c.2).1 in
        omega (arith, code-steps-balanced w own_name c.0 x y c.2, held-weighs w x c.0 c.1, held-weighs w y c.0 is);
    answers = λ w x y want at a wants e.
        let c = answer-code x y at a e in
        let d = chain-some (λ c. code_wanted own_name c x) (code_at image x) want wants in
        let same : d.0 ≡ c.0 = some-injective (sym d.1 ∙ c.1) in
        let wants_it : code_wanted own_name c.0 x ≡ Some want = subst (λ (k : ReadyCode). code_wanted own_name k x ≡ Some want) same d.2 in
        let is = code-stays x y c.0 c.1 (code-answer-stays own_name c.0 x y at a c.2).1 in
        omega (arith, code-answers-balanced w own_name c.0 x y want at a wants_it c.2, held-weighs w x c.0 c.1, held-weighs w y c.0 is, goes w x want a);
  }

-- what a process knows is what its cells and the values on its stack are
known-allows : (b : Book) → AllowsPlain (IsKnown b)
known-allows b = record { scalars = λ s. tt; records = tt; variants = λ c. tt; tables = tt; polymorphs = λ t. tt; outports = λ n h. h }

want-of : (of : Kind → Type 0) (o : Option (CellWant Name)) (w : CellWant Name) → IfWant of o → o ≡ Some w → WantKinds of w
want-of of None w h e = none-not_some e
want-of of (Some v) w h e = subst (WantKinds of) (some-injective e) h

module _ (image : ReadyImage) (b : Book) where
  state-known : (x : CodeState Name) (c : ReadyCode) → code_at image x ≡ Some c → Knows (code_machine image) stack_kinds b x → StateKinds own_name (IsKnown b) (known-allows b) x
  state-known x c is k =
      let held = subst (HeldKinds (IsKnown b)) (ap (list_of (λ c. code_held c x)) is) k.0 in
      let parts = are-held (IsKnown b) c x held in
      ((parts.0, parts.1, parts.2, λ call. (k.1, k.2)), among-stack (IsKnown b) x.stack k.3)

  known-state : (x : CodeState Name) (c : ReadyCode) → code_at image x ≡ Some c → StateKinds own_name (IsKnown b) (known-allows b) x → Knows (code_machine image) stack_kinds b x
  known-state x c is k =
      let own = k.0.3 0 in
      (subst (HeldKinds (IsKnown b)) (sym (ap (list_of (λ c. code_held c x)) is)) (held-are (IsKnown b) c x k.0.0 k.0.1 k.0.2), own.0, own.1, stack-among (IsKnown b) x.stack k.1)

pub code-knows-places : (image : ReadyImage) → KnowsPlaces (code_machine image) stack_kinds
code-knows-places image = record {
  begins = λ b code number port x h one le e.
      let c = begun-code image code number port x e in
      let is = begun-at image code x c.0 c.1 (code-begins own_name c.0 code number port x c.2).1 in
      known-state image b x c.0 is (code-begin-kinds own_name (IsKnown b) (known-allows b) c.0 code number port x h (λ call. (one, le)) c.2);
  wants = λ b x want k e.
      let c = chain-some (λ c. code_wanted own_name c x) (code_at image x) want e in
      let s = state-known image b x c.0 c.1 k in
      want-of (IsKnown b) (code_wanted own_name c.0 x) want (code-wanted-kinds own_name (IsKnown b) (known-allows b) c.0 x s.0 s.1) c.2;
  local_steps = λ b x y k e.
      let c = local-code image x y e in
      let is = code-stays image x y c.0 c.1 (code-local-stays own_name c.0 x y c.2).1 in
      known-state image b y c.0 is (code-local-kinds own_name (IsKnown b) (known-allows b) c.0 x y (state-known image b x c.0 c.1 k) c.2);
  answers = λ b x y want at a k wants answers brings e.
      let c = answer-code image x y at a e in
      let is = code-stays image x y c.0 c.1 (code-answer-stays own_name c.0 x y at a c.2).1 in
      known-state image b y c.0 is (code-answer-kinds own_name (IsKnown b) (known-allows b) c.0 x y at a brings (state-known image b x c.0 c.1 k) c.2);
}
