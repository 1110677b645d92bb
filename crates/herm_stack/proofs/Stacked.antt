-- Values at the end of a list are the top of the stack that it is.
use Rattle.std.proofs.Common.{◌≡◌, ℕ, ℤ, Bool, true, false, List, [], ◌∷◌, ◌++◌, Option, Some, None, slice_get, refl, sym, ap, ap₂, subst, ◌∙◌}
use Rattle.std.proofs.lemmas.List.{reverse-append}
use Rattle.std.proofs.lemmas.List.Elements.{All-nil, All-push, All-pop}
use Rattle.std.specs.List.{All}
use Rattle.std.specs.Prelude.{reverse, option_to_list, IfSome, ⊤}
use Rattle.herm_journal.specs.Renaming.{forget_name}
use Rattle.herm_model.specs.Expressions.{Operator, Literal}
use Rattle.herm_model.specs.Outcomes.{ok}
use Rattle.herm_model.specs.Paths.{Path}
use Rattle.herm_model.specs.Values as model
use Rattle.herm_model.specs.Values.{cell, Parts, no_parts, gap, part, read_at}
use Rattle.herm_model.specs.CellNames.{forget, forget_in}
use Rattle.herm_forms.specs.Evaluate.{Evaluated, two_then, gives, operate, scalar_then, value_there, rows_there}
use Rattle.herm_forms.specs.Frames.{Frame, goes}
use Rattle.herm_instructions.specs.Instructions.{UnaryOperator, Const, Load, Size, Apply, Combine}
use Rattle.herm_code_machine.specs.ReadyCode.{ReadyCode}
use Rattle.herm_code_machine.specs.Stacks.{pushing, leaving, no_effect}
use Rattle.herm_code_machine.specs.Effects.{effect, applied, constant_value}
use Rattle.herm_base.specs.declared.numbers.TypeNo.{TypeNo}
use Rattle.herm_code.specs.View.{const_view}
use Rattle.herm_code.specs.declared.modules.Const.{Const as Literals}
use Rattle.herm_code.specs.declared.modules.Const.TheVariants as constants
use Rattle.herm_values.specs.Keyed.{keyed_view}
use Rattle.herm_values.specs.View.{value_view}
use Rattle.herm_values.specs.Whole.{IsWhole}
use Rattle.herm_values.specs.declared.value.Value.{Value, Int}
use Rattle.herm_values.specs.declared.value.Value as values
use Rattle.herm_stack.specs.Answers.{on_stack, literal_cell, counted, IsPushed, IsCopied, IsLetGo, AreLetGo}

pub reversed : (xs : List Value) (x : Value) → reverse (xs ++ x ∷ []) ≡ x ∷ reverse xs
reversed xs x = reverse-append xs (x ∷ [])

pub one_popped : (o : UnaryOperator) (c : ReadyCode) (b : Frame ⊤) (stack rest : List Value) (v : Value) → stack ≡ v ∷ rest → effect forget_name c (Apply o) (on_stack stack) b ≡ pushing (scalar_then (applied o) (value_view v)) (on_stack rest) b
one_popped o c b stack rest v is = ap (λ s. effect forget_name c (Apply o) (on_stack s) b) is

pub two_popped : (o : Operator) (c : ReadyCode) (b : Frame ⊤) (stack mid rest : List Value) (l r : Value) → stack ≡ r ∷ mid → mid ≡ l ∷ rest → effect forget_name c (Combine o) (on_stack stack) b ≡ pushing (two_then (operate o) (gives (value_view l)) (gives (value_view r))) (on_stack rest) b
two_popped o c b stack mid rest l r top next = ap (λ s. effect forget_name c (Combine o) (on_stack s) b) (top ∙ ap (λ s. r ∷ s) next)

-- an operator that looks at its operands where they stand, which go then
pub one_gone : (o : UnaryOperator) (c : ReadyCode) (b : Frame ⊤) (gone : Bool) (stack rest : List Value) (e : Evaluated) → IsLetGo gone stack rest → gone ≡ true → ((v : Value) (below : List Value) → stack ≡ v ∷ below → e ≡ scalar_then (applied o) (value_view v)) → effect forget_name c (Apply o) (on_stack stack) b ≡ pushing e (on_stack rest) b
one_gone o c b true stack rest e (v, is) agrees h = one_popped o c b stack rest v is ∙ ap (λ e. pushing e (on_stack rest) b) (sym (h v rest is))
one_gone o c b false stack rest e is agrees h = absurd (cc)

pub one_missing : (o : UnaryOperator) (c : ReadyCode) (b : Frame ⊤) (gone : Bool) (stack rest : List Value) → IsLetGo gone stack rest → gone ≡ false → effect forget_name c (Apply o) (on_stack stack) b ≡ no_effect
one_missing o c b true stack rest is differs = absurd (cc)
one_missing o c b false stack rest is differs = ap (λ s. effect forget_name c (Apply o) (on_stack s) b) is

pub two_gone : (o : Operator) (c : ReadyCode) (b : Frame ⊤) (gone : Bool) (stack rest : List Value) (e : Evaluated) → AreLetGo gone stack rest → gone ≡ true → ((l r : Value) (below : List Value) → stack ≡ r ∷ l ∷ below → e ≡ two_then (operate o) (gives (value_view l)) (gives (value_view r))) → effect forget_name c (Combine o) (on_stack stack) b ≡ pushing e (on_stack rest) b
two_gone o c b true stack rest e (r, l, is) agrees h = ap (λ s. effect forget_name c (Combine o) (on_stack s) b) is ∙ ap (λ e. pushing e (on_stack rest) b) (sym (h l r rest is))
two_gone o c b false stack rest e is agrees h = absurd (cc)

pub two_missing : (o : Operator) (c : ReadyCode) (b : Frame ⊤) (gone : Bool) (stack rest : List Value) → AreLetGo gone stack rest → gone ≡ false → effect forget_name c (Combine o) (on_stack stack) b ≡ no_effect
two_missing o c b true stack rest is differs = absurd (cc)
two_missing o c b false stack rest (None, is) differs = ap (λ s. effect forget_name c (Combine o) (on_stack s) b) is
two_missing o c b false stack rest (Some v, is) differs = ap (λ s. effect forget_name c (Combine o) (on_stack s) b) is

pub both_gone : (right left : Bool) (stack mid rest : List Value) → IsLetGo right stack mid → right ≡ true → IsLetGo left mid rest → left ≡ true → AreLetGo true stack rest
both_gone true true stack mid rest (r, top) agrees (l, next) also = (r, l, top ∙ ap (λ s. r ∷ s) next)
both_gone true false stack mid rest top agrees next also = absurd (cc)
both_gone false left stack mid rest top agrees next also = absurd (cc)

pub right_missing : (right : Bool) (stack mid rest : List Value) → IsLetGo right stack mid → right ≡ false → AreLetGo false stack rest
right_missing true stack mid rest is differs = absurd (cc)
right_missing false stack mid rest is differs = (None, is)

pub left_missing : (right left : Bool) (stack mid rest below : List Value) → IsLetGo right stack mid → right ≡ true → IsLetGo left mid rest → left ≡ false → AreLetGo false stack below
left_missing true true stack mid rest below top agrees next differs = absurd (cc)
left_missing true false stack mid rest below (r, top) agrees next differs = (Some r, top ∙ ap (λ s. r ∷ s) next)
left_missing false left stack mid rest below top agrees next differs = absurd (cc)

pub ruleset letting_go = (both_gone, right_missing, left_missing)

pub ruleset operands_gone = (one_gone, one_missing, two_gone, two_missing)

-- the last values of a list, the top first
pub one_at_end : (front vs rest : List Value) (x v : Value) → vs ≡ front ++ x ∷ [] → reverse vs ≡ v ∷ rest → x ≡ v
one_at_end front vs rest x v is top = first_same (sym (reversed front x) ∙ ap reverse (sym is) ∙ top)
  where
    first_same : {xs ys : List Value} → x ∷ xs ≡ v ∷ ys → x ≡ v
    first_same e = cc

pub ruleset ends = (one_at_end)

pub pushed_whole : (vs new : List Value) (v : Value) → new ≡ vs ++ v ∷ [] → All IsWhole vs → IsWhole v → All IsWhole new
pushed_whole vs new v is h hv = subst (All IsWhole) (sym is) (All-push IsWhole vs v h hv)

pub popped_whole : (vs new : List Value) (o : Option Value) → vs ≡ new ++ option_to_list o → All IsWhole vs → IfSome o IsWhole
popped_whole vs new o is h = (All-pop IsWhole vs new o is h).1

pub left_whole : (vs new : List Value) (o : Option Value) → vs ≡ new ++ option_to_list o → All IsWhole vs → All IsWhole new
left_whole vs new o is h = (All-pop IsWhole vs new o is h).0

pub none_whole : (new : List Value) → new ≡ [] → All IsWhole new
none_whole new is = subst (All IsWhole) (sym is) (All-nil IsWhole)

pub ruleset stacking = (reversed, pushed_whole, popped_whole, left_whole, none_whole)

pub pushed_end : (vs new : List Value) (v : Value) (c : model.Value) → new ≡ vs ++ v ∷ [] → value_view v ≡ c → IsPushed c (reverse vs) (reverse new)
pushed_end vs new v c is same = (v, ap reverse is ∙ reversed vs v, same)

pub boolean_constant : (vs new : List Value) (k : Literals) (b : Bool) → k ≡ constants.Bool b → new ≡ vs ++ values.Bool b ∷ [] → IsPushed (literal_cell (const_view k)) (reverse vs) (reverse new)
boolean_constant vs new k b at is = pushed_end vs new (values.Bool b) (literal_cell (const_view k)) is (sym (ap (λ k. literal_cell (const_view k)) at))

pub integer_constant : (vs mid new : List Value) (k : Literals) (y z : ℤ) → k ≡ constants.Int z → y ≡ z → mid ≡ vs → new ≡ mid ++ values.Int y ∷ [] → IsPushed (literal_cell (const_view k)) (reverse vs) (reverse new)
integer_constant vs mid new k y z at same kept is = pushed_end vs new (values.Int y) (literal_cell (const_view k)) (is ∙ ap (λ xs. xs ++ values.Int y ∷ []) kept) (ap (λ z. value_view (values.Int z)) same ∙ sym (ap (λ k. literal_cell (const_view k)) at))

pub text_pushed : (vs mid new : List Value) (k : Literals) (s : List ℕ) → k ≡ constants.Text s → mid ≡ vs → reverse new ≡ values.Text s ∷ reverse mid → IsPushed (literal_cell (const_view k)) (reverse vs) (reverse new)
text_pushed vs mid new k s at kept is = (values.Text s, is ∙ ap (λ xs. values.Text s ∷ reverse xs) kept, sym (ap (λ k. literal_cell (const_view k)) at))

pub tag_constant : (vs new : List Value) (k : Literals) (t : TypeNo) (place : ℕ) → k ≡ constants.Tag t place → new ≡ vs ++ values.Tag place ∷ [] → IsPushed (literal_cell (const_view k)) (reverse vs) (reverse new)
tag_constant vs new k t place at is = pushed_end vs new (values.Tag place) (literal_cell (const_view k)) is (sym (ap (λ k. literal_cell (const_view k)) at))

pub ruleset constants_pushed = (reversed, pushed_whole, popped_whole, left_whole, none_whole, boolean_constant, integer_constant, text_pushed, tag_constant)

pub copied_end : (vs new : List Value) (seen v : Value) → seen ≡ v → new ≡ vs ++ v ∷ [] → IsCopied seen (reverse vs) (reverse new)
copied_end vs new seen v at is = (v, ap reverse is ∙ reversed vs v, ap value_view (sym at), ap keyed_view (sym at))

pub integer_copied : (vs mid new : List Value) (seen : Value) (y z : ℤ) → seen ≡ values.Int z → y ≡ z → mid ≡ vs → new ≡ mid ++ values.Int y ∷ [] → IsCopied seen (reverse vs) (reverse new)
integer_copied vs mid new seen y z at same kept is = copied_end vs new seen (values.Int y) (at ∙ ap values.Int (sym same)) (is ∙ ap (λ xs. xs ++ values.Int y ∷ []) kept)

pub ruleset copies_pushed = (reversed, pushed_whole, popped_whole, left_whole, none_whole, copied_end)

-- a value without names is as it is without them
mutual
  forget-own : (c : model.Value) → forget c ≡ c
  forget-own (cell n k ps) = ap (cell tt k) (forget-parts ps)

  forget-parts : (ps : Parts ⊤) → forget_in ps ≡ ps
  forget-parts no_parts = refl
  forget-parts (gap ps) = ap gap (forget-parts ps)
  forget-parts (part c ps) = ap₂ part (forget-own c) (forget-parts ps)

pub constant_pushed : (c : ReadyCode) (k : ℕ) (b : Frame ⊤) (stack new : List Value) (l : Literal) → slice_get c.constants k ≡ Some l → IsPushed (literal_cell l) stack new → effect forget_name c (Const k) (on_stack stack) b ≡ leaving (on_stack new) (goes ok b)
constant_pushed c k b stack new l at (v, pushed, is) =
    ap (λ o. pushing (constant_value o) (on_stack stack) b) at ∙ ap (λ x. leaving (x ∷ on_stack stack) (goes ok b)) (sym is) ∙ ap (λ s. leaving (on_stack s) (goes ok b)) (sym pushed)

pub load_pushed : (c : ReadyCode) (p : Path) (b : Frame ⊤) (stack new : List Value) (v : Value) → read_at p b.variables ≡ Some (value_view v) → IsCopied v stack new → effect forget_name c (Load p) (on_stack stack) b ≡ leaving (on_stack new) (goes ok b)
load_pushed c p b stack new v at (copy, pushed, is, keyed) =
    ap (λ o. pushing (value_there o) (on_stack stack) b) at
    ∙ ap (λ x. leaving (x ∷ on_stack stack) (goes ok b)) (forget-own (value_view v) ∙ sym is)
    ∙ ap (λ s. leaving (on_stack s) (goes ok b)) (sym pushed)

pub load_none : (c : ReadyCode) (p : Path) (b : Frame ⊤) (stack : List Value) → read_at p b.variables ≡ None → effect forget_name c (Load p) (on_stack stack) b ≡ no_effect
load_none c p b stack at = ap (λ o. pushing (value_there o) (on_stack stack) b) at

pub size_pushed : (c : ReadyCode) (p : Path) (b : Frame ⊤) (stack new : List Value) (v : Value) (z : ℤ) → read_at p b.variables ≡ Some (value_view v) → rows_there (Some (value_view v)) ≡ counted (Some z) → new ≡ Int z ∷ stack → effect forget_name c (Size p) (on_stack stack) b ≡ leaving (on_stack new) (goes ok b)
size_pushed c p b stack new v z at is pushed =
    ap (λ o. pushing (rows_there o) (on_stack stack) b) at ∙ ap (λ e. pushing e (on_stack stack) b) is ∙ ap (λ s. leaving (on_stack s) (goes ok b)) (sym pushed)

pub size_none : (c : ReadyCode) (p : Path) (b : Frame ⊤) (stack : List Value) → read_at p b.variables ≡ None → effect forget_name c (Size p) (on_stack stack) b ≡ no_effect
size_none c p b stack at = ap (λ o. pushing (rows_there o) (on_stack stack) b) at

pub size_other : (c : ReadyCode) (p : Path) (b : Frame ⊤) (stack : List Value) (v : Value) → read_at p b.variables ≡ Some (value_view v) → rows_there (Some (value_view v)) ≡ counted None → effect forget_name c (Size p) (on_stack stack) b ≡ no_effect
size_other c p b stack v at is = ap (λ o. pushing (rows_there o) (on_stack stack) b) at ∙ ap (λ e. pushing e (on_stack stack) b) is

pub ruleset pushes = (constant_pushed, load_pushed, load_none, size_pushed, size_none, size_other)
