-- One step of a walk over what is left of a list.
use Rattle.std.proofs.Common.{◌≡◌, ℕ, suc, ◌+◌, ◌-◌, ◌<◌, List, [], ◌∷◌, ◌++◌, map, take, drop, length, get_or, Bool, refl, sym, ap, ap₂, ◌∙◌, subst, append_assoc, arith}
use Rattle.std.proofs.lemmas.List.{map-append, drop_more, take_all}
use Rattle.herm_model.specs.Types.{TypeTable}
use Rattle.herm_model.specs.Expressions.{Literal}
use Rattle.herm_model.specs.Outcomes.{Outcome}
use Rattle.herm_instructions.specs.Instructions.{Instruction}
use Rattle.herm_instructions.specs.Labels.{ListedLabel}
use Rattle.herm_translated.specs.CodeBlocks.{CodeBlock}
use Rattle.herm_translated.specs.Layout.{Line, landings_by, line_by}
use Rattle.herm_code.specs.View.{instr_view}
use Rattle.herm_fronts.specs.Blocks.{landings_view}
use Rattle.herm_fronts.specs.Lengths.{count_block}
use Rattle.herm_blocks.specs.declared.block.Block.{Block}
use Rattle.herm_blocks.specs.Views.{block_view}
use Rattle.herm_codegen.specs.declared.lines.Lines.{Lines}
use Rattle.herm_codegen.specs.Emitted.{AreAppended, keyed_lines, keyed_lines_from}
use Rattle.herm_codegen.specs.Listed.{keyed_labels, keyed_labels_from}

pub left_is : {X : Type 0} (xs : List X) (i : ℕ) (x : X) → i < length xs → x ≡ get_or xs i x → drop i xs ≡ x ∷ drop (i + 1) xs
left_is xs i x h e = drop_more xs i x h ∙ ap (λ y. y ∷ drop (i + 1) xs) (sym e)

pub left_more : {X Y : Type 0} (xs : List X) (view : X → Y) (i : ℕ) (x : X) → i < length xs → x ≡ get_or xs i x → map view (drop i xs) ≡ view x ∷ map view (drop (i + 1) xs)
left_more xs view i x h e = ap (map view) (left_is xs i x h e)

-- all behind the first
pub rest_is : {X : Type 0} (xs : List X) (y : X) (ys : List X) → xs ≡ y ∷ ys → take (length xs - 1) (drop 1 xs) ≡ ys
rest_is xs y ys e = ap (λ zs. take (length zs - 1) (drop 1 zs)) e ∙ (let k : length (y ∷ ys) - 1 ≡ length ys = omega arith in ap (λ n. take n ys) k ∙ take_all (length ys) ys (omega arith))

-- one element more is pushed, of which the rest began with what stands for it
pub pushed_more : {X Z : Type 0} (f : X → Z) (xs new : List X) (x : X) (z : Z) (left rest whole : List Z) → new ≡ xs ++ x ∷ [] → f x ≡ z → left ≡ z ∷ rest → map f xs ++ left ≡ whole → map f new ++ rest ≡ whole
pushed_more f xs new x z left rest whole n e l w =
    ap (λ vs. map f vs ++ rest) n
    ∙ (ap (λ vs. vs ++ rest) (map-append f xs (x ∷ []))
    ∙ (append_assoc (map f xs) (f x ∷ []) rest
    ∙ (ap (λ y. map f xs ++ y ∷ rest) e
    ∙ (ap (λ ws. map f xs ++ ws) (sym l) ∙ w))))

module _ (types : TypeTable) (variables : List ℕ) where
  -- the lines of one block more
  pub lines_more : {X : Type 0} (f : Line → X) (constants : List Literal) (start : ℕ → ℕ) (at end : ℕ) (b : CodeBlock) (left bs : List CodeBlock) (old new whole : List X)
      → left ≡ b ∷ bs → end ≡ at + count_block types variables b → new ≡ old ++ map f (keyed_lines types variables constants start at b)
      → old ++ map f (keyed_lines_from types variables constants start at left) ≡ whole → new ++ map f (keyed_lines_from types variables constants start end bs) ≡ whole
  lines_more f constants start at end b left bs old new whole l e n w =
      ap₂ (λ xs k. xs ++ map f (keyed_lines_from types variables constants start k bs)) n e
      ∙ (append_assoc old (map f (keyed_lines types variables constants start at b)) (map f (keyed_lines_from types variables constants start (at + count_block types variables b) bs))
      ∙ (ap (λ xs. old ++ xs) (sym (map-append f (keyed_lines types variables constants start at b) (keyed_lines_from types variables constants start (at + count_block types variables b) bs)))
      ∙ (ap (λ cs. old ++ map f (keyed_lines_from types variables constants start at cs)) (sym l) ∙ w)))

  -- the labels of one block more
  pub labels_more : (first again : ℕ → Bool) (i next at end : ℕ) (b : Block) (left bs : List Block) (old new whole : List ListedLabel)
      → left ≡ b ∷ bs → next ≡ suc i → end ≡ at + count_block types variables (block_view b) → new ≡ old ++ keyed_labels types variables at (first i) (again i) b
      → old ++ keyed_labels_from types variables first again i at left ≡ whole → new ++ keyed_labels_from types variables first again next end bs ≡ whole
  labels_more first again i next at end b left bs old new whole l s e n w =
      ap₂ (λ j k. new ++ keyed_labels_from types variables first again j k bs) s e
      ∙ (ap (λ xs. xs ++ keyed_labels_from types variables first again (suc i) (at + count_block types variables (block_view b)) bs) n
      ∙ (append_assoc old (keyed_labels types variables at (first i) (again i) b) (keyed_labels_from types variables first again (suc i) (at + count_block types variables (block_view b)) bs)
      ∙ (ap (λ cs. old ++ keyed_labels_from types variables first again i at cs) (sym l) ∙ w)))

-- what was appended stands from the old length on
pub behind_old : {X Y : Type 0} (f : X → Y) (old new : List X) (more : List Y) → map f new ≡ map f old ++ more → map f (drop (length old) new) ≡ more
behind_old f [] new more e = e
behind_old f (x ∷ old) [] more e = absurd cc
behind_old f (x ∷ old) (y ∷ new) more e = behind_old f old new more (ap (λ ys. drop 1 ys) e)

module _ (types : TypeTable) (variables : List ℕ) (exit_at : Outcome → ℕ) where
  pub instructions-of : (code : List Instruction) → map (λ (l : Line). l.instruction) (map (line_by types variables exit_at) code) ≡ code
  instructions-of [] = refl
  instructions-of (i ∷ code) = ap (λ c. i ∷ c) (instructions-of code)

  pub landings-of : (code : List Instruction) → map (λ (l : Line). l.landings) (map (line_by types variables exit_at) code) ≡ map (landings_by types variables exit_at) code
  landings-of [] = refl
  landings-of (i ∷ code) = ap (λ c. landings_by types variables exit_at i ∷ c) (landings-of code)

  -- instructions and then the landings of those that were appended
  lines_appended : (code : List Instruction) (n : ℕ) (old new : Lines) → n ≡ length old.code.items → map instr_view new.code.items ≡ map instr_view old.code.items ++ code
      → map (λ ls. landings_view ls.items) new.landings.items ≡ map (λ ls. landings_view ls.items) old.landings.items ++ map (landings_by types variables exit_at) (map instr_view (drop n new.code.items))
      → AreAppended (map (line_by types variables exit_at) code) old new
  lines_appended code n old new e c l = record {
    code_is = c ∙ ap (λ is. map instr_view old.code.items ++ is) (sym (instructions-of code));
    landings_are =
        l ∙ ap (λ ls. map (λ ls. landings_view ls.items) old.landings.items ++ ls)
        (ap (λ k. map (landings_by types variables exit_at) (map instr_view (drop k new.code.items))) e
        ∙ (ap (map (landings_by types variables exit_at)) (behind_old instr_view old.code.items new.code.items code c) ∙ sym (landings-of code)));
  }

-- the same where the indices of the exits are given in another way
pub lines_appended_at : (types : TypeTable) (variables : List ℕ) (code : (exit_at : Outcome → ℕ) → List Instruction) (given to : Outcome → ℕ) (n : ℕ) (old new : Lines) → given ≡ to → n ≡ length old.code.items
    → map instr_view new.code.items ≡ map instr_view old.code.items ++ code given
    → map (λ ls. landings_view ls.items) new.landings.items ≡ map (λ ls. landings_view ls.items) old.landings.items ++ map (landings_by types variables given) (map instr_view (drop n new.code.items))
    → AreAppended (map (line_by types variables to) (code to)) old new
lines_appended_at types variables code given to n old new e l c d =
    subst (λ o. AreAppended (map (line_by types variables o) (code o)) old new) e (lines_appended types variables given (code given) n old new l c d)

-- the numbers behind the first
pub further_are : (all : List ℕ) (n m : ℕ) (ns ms : List ℕ) → all ≡ n ∷ ns → all ≡ m ∷ ms → ns ≡ ms
further_are all n m ns ms a b = ap (λ zs. drop 1 zs) (sym a ∙ b)
