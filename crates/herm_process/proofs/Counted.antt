-- Numbers and counts of a process without names, as it begins, behind a local step and behind an answer.
use Rattle.std.proofs.Common.{◌≡◌, ℕ, ◌≤◌, List, [], ◌∷◌, map, Some, refl, sym, ap, ap₂, subst, ◌∙◌, arith}
use Rattle.std.specs.Prelude.{IsTrue, ⊤}
use Rattle.herm_model.specs.CellNames.{rename, rename_in}
use Rattle.herm_model.specs.Values.{Name, an_inport, Cell, cell, Parts, no_parts, gap, part}
use Rattle.herm_model.proofs.Options.{map-some}
use Rattle.herm_journal.specs.Actions.{values, raised, gone, make_port, make_process, put, take, close, answer, hear}
use Rattle.herm_journal.specs.Messages.{CellAction, CellReply}
use Rattle.herm_journal.specs.Renaming.{forget_name, rename_action, rename_reply}
use Rattle.herm_system.specs.Machines.{is_local, is_acting, greatest_actions}
use Rattle.herm_values.specs.View.{leaf}
use Rattle.herm_code_machine.specs.CodeInstance.{code_machine, nameless_code}
use Rattle.herm_code_machine.specs.CodeRenaming.{forget_code}
use Rattle.herm_code_machine.specs.CodeStates.{CodeState}
use Rattle.herm_code_machine.specs.ReadyCode.{ReadyImage}
use Rattle.herm_code_machine.proofs.CodeLimits.{code-keeps-limits}
use Rattle.herm_code_machine.proofs.instance.CodeForgets.{code-forgets-names}
use Rattle.herm_code_machine.proofs.instance.CodeLaws.{code-keeps-numbers}

-- a name for cells that have none
abbrev given_name : ⊤ → Name
given_name n = (0, 0)

mutual
  named-cell : (c : Cell ⊤) → rename forget_name (rename given_name c) ≡ c
  named-cell (cell n k ps) = ap (cell tt k) (named-parts ps)

  named-parts : (ps : Parts ⊤) → rename_in forget_name (rename_in given_name ps) ≡ ps
  named-parts no_parts = refl
  named-parts (gap ps) = ap gap (named-parts ps)
  named-parts (part c ps) = ap₂ part (named-cell c) (named-parts ps)

named-cells : (cs : List (Cell ⊤)) → map (rename forget_name) (map (rename given_name) cs) ≡ cs
named-cells [] = refl
named-cells (c ∷ cs) = ap₂ (λ c cs. c ∷ cs) (named-cell c) (named-cells cs)

named-reply : (r : CellReply ⊤) → rename_reply forget_name (rename_reply given_name r) ≡ r
named-reply (values cs) = ap values (named-cells cs)
named-reply (raised e cs) = ap (raised e) (named-cells cs)
named-reply gone = refl

named-action : (a : CellAction ⊤) → rename_action forget_name (rename_action given_name a) ≡ a
named-action (make_port made) = refl
named-action (make_process code made) = refl
named-action (put number m) = ap (put number) (named-cell m)
named-action (take number m) = ap (take number) (named-cell m)
named-action (close count left) = ap (close count) (named-cells left)
named-action (answer call r) = ap (answer call) (named-reply r)
named-action (hear call r) = ap (hear call) (named-reply r)

-- the numbers of a process that has made nothing
pub record IsFirst (n : ℕ) (t : CodeState ⊤) : Type 0 where
  pub number : t.frame.number ≡ n
  pub steps : t.frame.steps ≡ 0
  pub actions : t.frame.actions ≡ 0

-- behind a local step, and behind an answer
pub record IsStepped (limit : ℕ) (s t : CodeState ⊤) : Type 0 where
  pub number : t.frame.number ≡ s.frame.number
  pub steps : t.frame.steps ≤ limit
  pub actions : t.frame.actions ≡ s.frame.actions

pub record IsAnswered (limit : ℕ) (s t : CodeState ⊤) : Type 0 where
  pub number : t.frame.number ≡ s.frame.number
  pub steps : s.frame.steps ≤ limit → t.frame.steps ≤ limit
  pub actions : t.frame.actions ≤ greatest_actions

module _ (image : ReadyImage) where
  pub first-counts : (code number port : ℕ) (t : CodeState ⊤) → (nameless_code image).begin code number (leaf (an_inport port)) ≡ Some t → IsFirst number t
  first-counts code number port t e =
      let own : Cell Name = cell (0, 0) (an_inport port) no_parts in
      let y = map-some forget_code ((code_machine image).begin code number own) t (sym ((code-forgets-names image).begins code number own) ∙ e) in
      let n = (code-keeps-numbers image).begins code number own y.0 y.1 in
      let k = (code-keeps-limits image).begins code number own y.0 y.1 in
      subst (IsFirst number) y.2 (record { number = n.0; steps = k.0; actions = k.1 })

  pub step-counts : (limit : ℕ) (x : CodeState Name) (s t : CodeState ⊤) → forget_code x ≡ s → IsTrue (is_local ((nameless_code image).ready limit s)) → (nameless_code image).local_step s ≡ Some t → IsStepped limit s t
  step-counts limit x s t same = subst (λ s. IsTrue (is_local ((nameless_code image).ready limit s)) → (nameless_code image).local_step s ≡ Some t → IsStepped limit s t) same by
    where
      by : IsTrue (is_local ((nameless_code image).ready limit (forget_code x))) → (nameless_code image).local_step (forget_code x) ≡ Some t → IsStepped limit (forget_code x) t
      by next e =
          let y = map-some forget_code ((code_machine image).local_step x) t (sym ((code-forgets-names image).local_steps x) ∙ e) in
          let n = (code-keeps-numbers image).local_steps x y.0 y.1 in
          let k = (code-keeps-limits image).local_steps limit x y.0 (subst (λ r. IsTrue (is_local r)) ((code-forgets-names image).ready limit x) next) y.1 in
          subst (IsStepped limit (forget_code x)) y.2 (record { number = n.0; steps = omega (arith, k.0, k.2); actions = k.1 })

  pub answer-counts : (limit : ℕ) (x : CodeState Name) (s t : CodeState ⊤) (at : ℕ) (a : CellAction ⊤) → forget_code x ≡ s → IsTrue (is_acting ((nameless_code image).ready limit s)) → (nameless_code image).answered s at a ≡ Some t → IsAnswered limit s t
  answer-counts limit x s t at a same = subst (λ s. IsTrue (is_acting ((nameless_code image).ready limit s)) → (nameless_code image).answered s at a ≡ Some t → IsAnswered limit s t) same by
    where
      by : IsTrue (is_acting ((nameless_code image).ready limit (forget_code x))) → (nameless_code image).answered (forget_code x) at a ≡ Some t → IsAnswered limit (forget_code x) t
      by next e =
          let b = rename_action given_name a in
          let y = map-some forget_code ((code_machine image).answered x at b) t
          (sym ((code-forgets-names image).answers x at b) ∙ ap ((nameless_code image).answered (forget_code x) at) (named-action a) ∙ e) in
          let n = (code-keeps-numbers image).answers x y.0 at b y.1 in
          let k = (code-keeps-limits image).answers limit x y.0 at b (subst (λ r. IsTrue (is_acting r)) ((code-forgets-names image).ready limit x) next) y.1 in
          subst (IsAnswered limit (forget_code x)) y.2 (record { number = n.0; steps = k.3; actions = omega (arith, k.0, k.1) })
