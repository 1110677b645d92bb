-- The statements of a body by their numbers stand as those by their names, and each that passes its tests is typed.
use Rattle.std.proofs.Common.{◌≡◌, List, [], ◌∷◌, ◌++◌, map, length, Bool, true, false, refl, sym, ap, ap₂, append-nil, length-append, ◌∙◌, arith}
use Rattle.std.proofs.lemmas.List.{map-append}
use Rattle.herm_model.specs.Statements as model
use Rattle.herm_model.specs.Statements.{Differ}
use Rattle.herm_model.specs.TypedPrograms.{Placed, placed, placed_in, placed_in_blocks, placed_in_handlers}
use Rattle.herm_model.proofs.Lists.{length-map}
use Rattle.herm_syntax.specs.Trees.{Statement, Assign, Move, Unite, Dissolve, Wrap, Insert, Connect, Send, Receive, New, Discard, Reveal, Remove, Get, Unwrap, Call, Return, ReturnBy, Create, Raise, Leave, Case, For, Select, If, While, Try, Statements, NoStatement, Further, Arms, NoArm, Arm, PortArms, NoPortArm, PortArm, Otherwise, NoElse, Else}
use Rattle.herm_naming.specs.Numbers.{Scope}
use Rattle.herm_naming.specs.Meaning.{statement_number, block_number, arm_blocks, port_arm_blocks, otherwise_number, handlers_number}
use Rattle.herm_naming.specs.StatementFaults.{within, in_body, in_arms, in_port_arms, in_otherwise}

-- a statement with whether it stands in a loop, by its number
abbrev pub placed_number : Scope → Bool × Statement → Placed
placed_number s x = record { in_loop = x.0; statement = statement_number s x.1 }

two-parts : {A B : Type 0} (f : A → B) (xs ys : List A) (as' bs : List B) → as' ≡ map f xs → bs ≡ map f ys → as' ++ bs ≡ map f (xs ++ ys)
two-parts f xs ys as' bs a b = ap₂ (λ u v. u ++ v) a b ∙ sym (map-append f xs ys)

module _ (s : Scope) where
  mutual
    within-placed : (l : Bool) (x : Statement) → placed l (statement_number s x) ≡ placed_number s (l, x) ∷ map (placed_number s) (within l x)
    within-placed l (Assign x e) = refl
    within-placed l (Move y x) = refl
    within-placed l (Unite v y) = refl
    within-placed l (Dissolve v y) = refl
    within-placed l (Wrap y p) = refl
    within-placed l (Insert r t) = refl
    within-placed l (Connect o i) = refl
    within-placed l (Send x o) = refl
    within-placed l (Receive x i) = refl
    within-placed l (New x) = refl
    within-placed l (Discard x) = refl
    within-placed l (Reveal v) = refl
    within-placed l (Remove r t keys) = refl
    within-placed l (Get r t keys) = refl
    within-placed l (Unwrap p name y) = refl
    within-placed l (Call o arguments) = refl
    within-placed l (Return m) = refl
    within-placed l (ReturnBy m name) = refl
    within-placed l (Create o name) = refl
    within-placed l (Raise name) = refl
    within-placed l Leave = refl
    within-placed l (Case v arms) = ap (placed_number s (l, Case v arms) ∷◌) (arms-placed l arms)
    within-placed l (For r t body) = ap (placed_number s (l, For r t body) ∷◌) (body-placed true body)
    within-placed l (Select arms) = ap (placed_number s (l, Select arms) ∷◌) (ports-placed l arms)
    within-placed l (If e body other) =
        ap (placed_number s (l, If e body other) ∷◌)
        (two-parts (placed_number s) (in_body l body) (in_otherwise l other) _ _ (body-placed l body) (ap (λ xs. xs ++ []) (other-placed l other) ∙ append-nil _))
    within-placed l (While e body) = ap (placed_number s (l, While e body) ∷◌) (body-placed true body)
    within-placed l (Try body arms) =
        ap (placed_number s (l, Try body arms) ∷◌) (two-parts (placed_number s) (in_body l body) (in_arms l arms) _ _ (body-placed l body) (handlers-placed l arms))

    pub body-placed : (l : Bool) (body : Statements) → placed_in l (block_number s body) ≡ map (placed_number s) (in_body l body)
    body-placed l NoStatement = refl
    body-placed l (Further x rest) = two-parts (placed_number s) ((l, x) ∷ within l x) (in_body l rest) _ _ (within-placed l x) (body-placed l rest)

    arms-placed : (l : Bool) (arms : Arms) → placed_in_blocks l (arm_blocks s arms) ≡ map (placed_number s) (in_arms l arms)
    arms-placed l NoArm = refl
    arms-placed l (Arm name body rest) = two-parts (placed_number s) (in_body l body) (in_arms l rest) _ _ (body-placed l body) (arms-placed l rest)

    ports-placed : (l : Bool) (arms : PortArms) → placed_in_blocks l (port_arm_blocks s arms) ≡ map (placed_number s) (in_port_arms l arms)
    ports-placed l NoPortArm = refl
    ports-placed l (PortArm port target body rest) = two-parts (placed_number s) (in_body l body) (in_port_arms l rest) _ _ (body-placed l body) (ports-placed l rest)

    other-placed : (l : Bool) (other : Otherwise) → placed_in l (otherwise_number s other) ≡ map (placed_number s) (in_otherwise l other)
    other-placed l NoElse = refl
    other-placed l (Else body) = body-placed l body

    handlers-placed : (l : Bool) (arms : Arms) → placed_in_handlers l (handlers_number s arms) ≡ map (placed_number s) (in_arms l arms)
    handlers-placed l NoArm = refl
    handlers-placed l (Arm name body rest) = two-parts (placed_number s) (in_body l body) (in_arms l rest) _ _ (body-placed l body) (handlers-placed l rest)

-- each statement has a number
mutual
  placed-count : (l : Bool) (y : model.Statement) → length (placed l y) ≡ model.numbers_of y
  placed-count l (model.simple f) = refl
  placed-count l (model.choosing f bs) = let e = blocks-count l bs in omega (arith, e)
  placed-count l (model.repeating f b) = let e = block-count true b in omega (arith, e)
  placed-count l model.leaving = refl
  placed-count l (model.trying b hs) =
      let e = block-count l b in let f = handlers-count l hs in let g = length-append (placed_in l b) (placed_in_handlers l hs) in omega (arith, e, f, g)

  pub block-count : (l : Bool) (b : model.Block) → length (placed_in l b) ≡ model.numbers_of_block b
  block-count l model.no_statements = refl
  block-count l (model.statement y rest) =
      let e = placed-count l y in let f = block-count l rest in let g = length-append (placed l y) (placed_in l rest) in omega (arith, e, f, g)

  blocks-count : (l : Bool) (bs : model.Blocks) → length (placed_in_blocks l bs) ≡ model.numbers_of_blocks bs
  blocks-count l model.no_blocks = refl
  blocks-count l (model.block b rest) =
      let e = block-count l b in let f = blocks-count l rest in let g = length-append (placed_in l b) (placed_in_blocks l rest) in omega (arith, e, f, g)

  handlers-count : (l : Bool) (hs : model.Handlers) → length (placed_in_handlers l hs) ≡ model.numbers_of_handlers hs
  handlers-count l model.no_handlers = refl
  handlers-count l (model.handler e b rest) =
      let d = block-count l b in let f = handlers-count l rest in let g = length-append (placed_in l b) (placed_in_handlers l rest) in omega (arith, d, f, g)

-- the statements of a body are as many as its numbers
pub body-count : (s : Scope) (body : Statements) → length (in_body false body) ≡ model.numbers_of_block (block_number s body)
body-count s body =
    sym (length-map (placed_number s) (in_body false body)) ∙ (ap length (sym (body-placed s false body)) ∙ block-count false (block_number s body))
