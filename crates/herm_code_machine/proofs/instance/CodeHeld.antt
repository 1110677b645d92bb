-- What a process of code holds weighs and is of the kinds of its frame; and its stack is of the kinds that it lists.
use Rattle.std.proofs.Common.{◌≡◌, ℕ, List, [], ◌∷◌, ◌++◌, flat_map, Option}
use Rattle.herm_model.specs.Lists.{total}
use Rattle.herm_model.specs.Values.{Kind, Cell, cell, Parts, no_parts, gap, part, Value}
use Rattle.herm_journal.specs.Kinds.{HasKinds, HaveKinds, AllKinds}
use Rattle.herm_journal.specs.Weights.{weigh}
use Rattle.herm_forms.specs.Frames.{Loop}
use Rattle.herm_forms.specs.Weights.{weight_held}
use Rattle.herm_forms.proofs.known.KindsKept.{LoopKinds}
use Rattle.herm_system.specs.Machines.{Held}
use Rattle.herm_system.specs.Kinds.{kinds_of, kinds_in}
use Rattle.herm_runs.specs.laws.ProcessLaws.{HeldKinds, AreAmong}
use Rattle.herm_runs.proofs.HeldParts.{weigh-parts, parts-are, are-parts}
use Rattle.herm_code_machine.specs.ReadyCode.{ReadyCode}
use Rattle.herm_code_machine.specs.CodeStates.{Position, CodeState}
use Rattle.herm_code_machine.specs.CodeSeen.{slot_row, code_held}

-- the type of a slot's rows, and the rows
abbrev row : {N : Type 0} → ReadyCode → Position → Loop N → Option ℕ
row c p l = slot_row c p l.statement

abbrev rows : {N : Type 0} → Loop N → Parts N
rows l = l.rows

pub weigh-held : {N : Type 0} (w : N → ℕ) (c : ReadyCode) (s : CodeState N) → total (λ (h : Held N). weigh w h.value) (code_held c s) ≡ weight_held w s.frame
weigh-held w c s = weigh-parts w c.scope.variables s.frame.variables (row c s.position) rows s.frame.loops s.frame.work

pub held-are : {N : Type 0} (of : Kind → Type 0) (c : ReadyCode) (s : CodeState N) → HaveKinds of s.frame.variables → LoopKinds of s.frame.loops → AllKinds of s.frame.work → HeldKinds of (code_held c s)
held-are of c s v l i = parts-are of c.scope.variables s.frame.variables (row c s.position) rows s.frame.loops s.frame.work v l i

pub are-held : {N : Type 0} (of : Kind → Type 0) (c : ReadyCode) (s : CodeState N) → HeldKinds of (code_held c s) → HaveKinds of s.frame.variables × LoopKinds of s.frame.loops × AllKinds of s.frame.work
are-held of c s h = are-parts of c.scope.variables s.frame.variables (row c s.position) rows s.frame.loops s.frame.work h

-- a stack by its kinds
module _ (of : Kind → Type 0) where
  among-append : (ks js : List Kind) → AreAmong of ks → AreAmong of js → AreAmong of (ks ++ js)
  among-append [] js h k = k
  among-append (x ∷ ks) js h k = (h.0, among-append ks js h.1 k)

  among-left : (ks js : List Kind) → AreAmong of (ks ++ js) → AreAmong of ks × AreAmong of js
  among-left [] js h = (tt, h)
  among-left (x ∷ ks) js h = let k = among-left ks js h.1 in ((h.0, k.0), k.1)

  mutual
    kinds-listed : {N : Type 0} (c : Cell N) → HasKinds of c → AreAmong of (kinds_of c)
    kinds-listed (cell n k ps) h = (h.0, kinds-listed_in ps h.1)

    kinds-listed_in : {N : Type 0} (ps : Parts N) → HaveKinds of ps → AreAmong of (kinds_in ps)
    kinds-listed_in no_parts h = tt
    kinds-listed_in (gap ps) h = kinds-listed_in ps h
    kinds-listed_in (part c ps) h = among-append (kinds_of c) (kinds_in ps) (kinds-listed c h.0) (kinds-listed_in ps h.1)

  mutual
    listed-kinds : {N : Type 0} (c : Cell N) → AreAmong of (kinds_of c) → HasKinds of c
    listed-kinds (cell n k ps) h = (h.0, listed-kinds_in ps h.1)

    listed-kinds_in : {N : Type 0} (ps : Parts N) → AreAmong of (kinds_in ps) → HaveKinds of ps
    listed-kinds_in no_parts h = tt
    listed-kinds_in (gap ps) h = listed-kinds_in ps h
    listed-kinds_in (part c ps) h = let k = among-left (kinds_of c) (kinds_in ps) h in (listed-kinds c k.0, listed-kinds_in ps k.1)

  pub stack-among : (stack : List Value) → AllKinds of stack → AreAmong of (flat_map kinds_of stack)
  stack-among [] h = tt
  stack-among (v ∷ stack) h = among-append (kinds_of v) (flat_map kinds_of stack) (kinds-listed v h.0) (stack-among stack h.1)

  pub among-stack : (stack : List Value) → AreAmong of (flat_map kinds_of stack) → AllKinds of stack
  among-stack [] h = tt
  among-stack (v ∷ stack) h = let k = among-left (kinds_of v) (flat_map kinds_of stack) h in (listed-kinds v k.0, among-stack stack k.1)
