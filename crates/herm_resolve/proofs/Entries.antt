-- The entries of statements with blocks, from the lists that the code has.
use Rattle.std.proofs.Common.{◌≡◌, ℕ, List, [], ◌∷◌, ◌++◌, map, flat_map, Option, refl, sym, ap, ap₂, ◌∙◌, Vec, Global}
use Rattle.std.proofs.lemmas.List.{map-append}
use Rattle.std.proofs.lemmas.List.Folds.{flat_map-map}
use Rattle.herm_base.specs.declared.numbers.ExcNo.{ExcNo}
use Rattle.herm_base.specs.declared.word.Name.{Name}
use Rattle.herm_syntax.specs.declared.expressions.Expr.{Expr}
use Rattle.herm_syntax.specs.declared.expressions.PathForm.{PathForm}
use Rattle.herm_syntax.specs.declared.statements.Stmt.{Stmt}
use Rattle.herm_syntax.specs.declared.statements.StmtForm as texts
use Rattle.herm_syntax.specs.declared.statements.StmtForm.{StmtForm}
use Rattle.herm_naming.specs.Numbers.{Scope}
use Rattle.herm_typed.specs.declared.expressions.TypedPath.{TypedPath}
use Rattle.herm_typed.specs.declared.expressions.TypedExpr.{TypedExpr}
use Rattle.herm_typed.specs.declared.statements.TypedStmt.{TypedStmt}
use Rattle.herm_typed.specs.declared.statements.TypedForm.{Case, Select, For, If, While, Try}
use Rattle.herm_typed.specs.Within.{statements_within, all_statements}
use Rattle.herm_numbers.specs.Within.{written_within, all_written, items_of}
use Rattle.herm_numbers.proofs.StatementsWithin.{for_within, while_within, if_within, case_within, select_within, try_within}
use Rattle.herm_numbers.proofs.WrittenWithin.{for_written, while_written, if_written, case_written, select_written, try_written}
use Rattle.herm_resolve.specs.Entries.{Entry, typed_entry, written_entry, typed_entries, written_entries}

joined-both : {A B E : Type 0} (f : A → List E) (g : B → List E) (xs : List A) (ys : List B) → map f xs ≡ map g ys → flat_map f xs ≡ flat_map g ys
joined-both f g xs ys e = sym (flat_map-map (λ es. es) f xs) ∙ (ap (flat_map (λ es. es)) e ∙ flat_map-map (λ es. es) g ys)

pub map-twice : {A B C : Type 0} (g : B → C) (f : A → B) (xs : List A) → map g (map f xs) ≡ map (λ x. g (f x)) xs
map-twice g f [] = refl
map-twice g f (x ∷ xs) = ap (g (f x) ∷◌) (map-twice g f xs)

joined-twice : {A X E : Type 0} (h : X → List E) (f : A → List X) (xs : List A) → flat_map (λ a. flat_map h (f a)) xs ≡ flat_map (λ (a : A). flat_map (λ es. es) (map h (f a))) xs
joined-twice h f [] = refl
joined-twice h f (x ∷ xs) = ap₂ (λ a b. a ++ b) (sym (flat_map-map (λ es. es) h (f x))) (joined-twice h f xs)

body-typed : (ts : List TypedStmt) → map typed_entry (all_statements ts) ≡ flat_map typed_entries ts
body-typed [] = refl
body-typed (t ∷ ts) = ap (typed_entry t ∷◌) (map-append typed_entry (statements_within t.form) (all_statements ts) ∙ ap (λ es. map typed_entry (statements_within t.form) ++ es) (body-typed ts))

arms-typed : {A : Type 0} (f : A → List TypedStmt) (arms : List A) → map typed_entry (flat_map (λ a. all_statements (f a)) arms) ≡ flat_map (λ a. flat_map typed_entries (f a)) arms
arms-typed f [] = refl
arms-typed f (a ∷ arms) = map-append typed_entry (all_statements (f a)) (flat_map (λ a. all_statements (f a)) arms) ∙ ap₂ (λ a b. a ++ b) (body-typed (f a)) (arms-typed f arms)

module _ (s : Scope) where
  body-written : (xs : List Stmt) → map (written_entry s) (all_written xs) ≡ flat_map (written_entries s) xs
  body-written [] = refl
  body-written (x ∷ xs) = ap (written_entry s x ∷◌) (map-append (written_entry s) (written_within x.form) (all_written xs) ∙ ap (λ es. map (written_entry s) (written_within x.form) ++ es) (body-written xs))

  arms-written : {A : Type 0} (f : A → List Stmt) (arms : List A) → map (written_entry s) (flat_map (λ a. all_written (f a)) arms) ≡ flat_map (λ a. flat_map (written_entries s) (f a)) arms
  arms-written f [] = refl
  arms-written f (a ∷ arms) = map-append (written_entry s) (all_written (f a)) (flat_map (λ a. all_written (f a)) arms) ∙ ap₂ (λ a b. a ++ b) (body-written (f a)) (arms-written f arms)

  -- what the lists keep, all statements keep
  block-entries : (ts : List TypedStmt) (xs : List Stmt) → map typed_entries ts ≡ map (written_entries s) xs → map typed_entry (all_statements ts) ≡ flat_map (written_entries s) xs
  block-entries ts xs e = body-typed ts ∙ joined-both typed_entries (written_entries s) ts xs e

  pub body_entries : (ts : List TypedStmt) (xs : List Stmt) → map typed_entries ts ≡ map (written_entries s) xs → map typed_entry (all_statements ts) ≡ map (written_entry s) (all_written xs)
  body_entries ts xs e = block-entries ts xs e ∙ sym (body-written xs)

  arms-entries : {A B : Type 0} (f : A → List TypedStmt) (g : B → List Stmt) (arms : List A) (list : List B) → map (λ a. map typed_entries (f a)) arms ≡ map (λ b. map (written_entries s) (g b)) list
      → map typed_entry (flat_map (λ a. all_statements (f a)) arms) ≡ flat_map (λ b. flat_map (written_entries s) (g b)) list
  arms-entries f g arms list e =
      arms-typed f arms ∙ (joined-twice typed_entries f arms
      ∙ (sym (flat_map-map (flat_map (λ es. es)) (λ a. map typed_entries (f a)) arms) ∙ (ap (flat_map (flat_map (λ es. es))) e ∙ flat_map-map (flat_map (λ es. es)) (λ b. map (written_entries s) (g b)) list)
      ∙ sym (joined-twice (written_entries s) g list)))

  pub for_entries : (r t : TypedPath) (body : Vec TypedStmt Global) (xs : List Stmt) → map typed_entries body.items ≡ map (written_entries s) xs → map typed_entry (statements_within (For r t body)) ≡ flat_map (written_entries s) xs
  for_entries r t body xs e = ap (map typed_entry) (for_within r t body) ∙ block-entries body.items xs e

  pub while_entries : (e : TypedExpr) (body : Vec TypedStmt Global) (xs : List Stmt) → map typed_entries body.items ≡ map (written_entries s) xs → map typed_entry (statements_within (While e body)) ≡ flat_map (written_entries s) xs
  while_entries e body xs h = ap (map typed_entry) (while_within e body) ∙ block-entries body.items xs h

  pub if_entries : (e : TypedExpr) (body : Vec TypedStmt Global) (other : Option (Vec TypedStmt Global)) (xs : List Stmt) (o : Option (Vec Stmt Global)) → map typed_entries body.items ≡ map (written_entries s) xs
      → map typed_entries (items_of other) ≡ map (written_entries s) (items_of o) → map typed_entry (statements_within (If e body other)) ≡ flat_map (written_entries s) xs ++ flat_map (written_entries s) (items_of o)
  if_entries e body other xs o h k =
      ap (map typed_entry) (if_within e body other) ∙ (map-append typed_entry (all_statements body.items) (all_statements (items_of other))
      ∙ ap₂ (λ a b. a ++ b) (block-entries body.items xs h) (block-entries (items_of other) (items_of o) k))

  pub case_entries : (v : TypedPath) (arms : Vec (ℕ × Vec TypedStmt Global) Global) (list : List (Name × Vec Stmt Global)) → map (λ a. map typed_entries a.1.items) arms.items ≡ map (λ a. map (written_entries s) a.1.items) list
      → map typed_entry (statements_within (Case v arms)) ≡ flat_map (λ a. flat_map (written_entries s) a.1.items) list
  case_entries v arms list e = ap (map typed_entry) (case_within v arms) ∙ arms-entries (λ a. a.1.items) (λ a. a.1.items) arms.items list e

  pub select_entries : (arms : Vec (TypedPath × TypedPath × Vec TypedStmt Global) Global) (list : List (PathForm × PathForm × Vec Stmt Global)) → map (λ a. map typed_entries a.2.items) arms.items ≡ map (λ a. map (written_entries s) a.2.items) list
      → map typed_entry (statements_within (Select arms)) ≡ flat_map (λ a. flat_map (written_entries s) a.2.items) list
  select_entries arms list e = ap (map typed_entry) (select_within arms) ∙ arms-entries (λ a. a.2.items) (λ a. a.2.items) arms.items list e

  pub try_entries : (body : Vec TypedStmt Global) (handled : Vec (ExcNo × Vec TypedStmt Global) Global) (xs : List Stmt) (list : List (Name × Vec Stmt Global)) → map typed_entries body.items ≡ map (written_entries s) xs
      → map (λ a. map typed_entries a.1.items) handled.items ≡ map (λ a. map (written_entries s) a.1.items) list
      → map typed_entry (statements_within (Try body handled)) ≡ flat_map (written_entries s) xs ++ flat_map (λ a. flat_map (written_entries s) a.1.items) list
  try_entries body handled xs list h k =
      ap (map typed_entry) (try_within body handled) ∙ (map-append typed_entry (all_statements body.items) (flat_map (λ a. all_statements a.1.items) handled.items)
      ∙ ap₂ (λ a b. a ++ b) (block-entries body.items xs h) (arms-entries (λ a. a.1.items) (λ a. a.1.items) handled.items list k))

  -- as they are written
  pub for_texts : (r t : PathForm) (body : Vec Stmt Global) → map (written_entry s) (written_within (texts.For r t body)) ≡ flat_map (written_entries s) body.items
  for_texts r t body = ap (map (written_entry s)) (for_written r t body) ∙ body-written body.items

  pub while_texts : (e : Expr) (body : Vec Stmt Global) → map (written_entry s) (written_within (texts.While e body)) ≡ flat_map (written_entries s) body.items
  while_texts e body = ap (map (written_entry s)) (while_written e body) ∙ body-written body.items

  pub if_texts : (e : Expr) (body : Vec Stmt Global) (other : Option (Vec Stmt Global)) → map (written_entry s) (written_within (texts.If e body other)) ≡ flat_map (written_entries s) body.items ++ flat_map (written_entries s) (items_of other)
  if_texts e body other =
      ap (map (written_entry s)) (if_written e body other) ∙ (map-append (written_entry s) (all_written body.items) (all_written (items_of other))
      ∙ ap₂ (λ a b. a ++ b) (body-written body.items) (body-written (items_of other)))

  pub case_texts : (v : PathForm) (arms : Vec (Name × Vec Stmt Global) Global) → map (written_entry s) (written_within (texts.Case v arms)) ≡ flat_map (λ a. flat_map (written_entries s) a.1.items) arms.items
  case_texts v arms = ap (map (written_entry s)) (case_written v arms) ∙ arms-written (λ a. a.1.items) arms.items

  pub select_texts : (arms : Vec (PathForm × PathForm × Vec Stmt Global) Global) → map (written_entry s) (written_within (texts.Select arms)) ≡ flat_map (λ a. flat_map (written_entries s) a.2.items) arms.items
  select_texts arms = ap (map (written_entry s)) (select_written arms) ∙ arms-written (λ a. a.2.items) arms.items

  pub try_texts : (body : Vec Stmt Global) (handled : Vec (Name × Vec Stmt Global) Global) → map (written_entry s) (written_within (texts.Try body handled)) ≡ flat_map (written_entries s) body.items ++ flat_map (λ a. flat_map (written_entries s) a.1.items) handled.items
  try_texts body handled =
      ap (map (written_entry s)) (try_written body handled) ∙ (map-append (written_entry s) (all_written body.items) (flat_map (λ a. all_written a.1.items) handled.items)
      ∙ ap₂ (λ a b. a ++ b) (body-written body.items) (arms-written (λ a. a.1.items) handled.items))

  pub entries_by : (form made : StmtForm) (entries new : List Entry) → form ≡ made → map (written_entry s) (written_within made) ≡ entries → new ≡ entries → new ≡ map (written_entry s) (written_within form)
  entries_by form made entries new e f h = h ∙ sym (ap (λ x. map (written_entry s) (written_within x)) e ∙ f)
