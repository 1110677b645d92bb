-- A node of a well-formed body has an exit for each outcome of its form.
use Rattle.std.proofs.Common.{◌≡◌, ℕ, suc, ◌+◌, List, [], ◌∷◌, ◌++◌, map, length, refl, sym, ap, ap₂, ◌∙◌, arith}
use Rattle.std.proofs.lemmas.List.{length-map, map-append}
use Rattle.herm_model.proofs.Lists.{each-joined, each-first, each-none}
use Rattle.herm_model.specs.Lists.{IsIn}
use Rattle.herm_model.specs.Types.{TypeTable}
use Rattle.herm_model.specs.Statements.{Form, Case, For, Select, If, While, Arm, nodes_of_block, Statement, simple, choosing, repeating, leaving, trying, Block, no_statements, statement, Blocks, no_blocks, block, Handlers, no_handlers, handler, Process, Branching, goes_on, repeats, chooses, branching_of, count_blocks, HasDifferentArms, IsWellFormed, IsWellFormedBlock, AreWellFormed, AreWellFormedHandlers}
use Rattle.herm_model.specs.Outcomes.{Outcome, raised, arms_from, normal_outcomes, exceptions, outcomes}
use Rattle.herm_model.specs.Nodes.{Surroundings, Node, starts, nodes, nodes_in, nodes_of_choices, nodes_of_catches, process_nodes}
use Rattle.herm_model.specs.Exits.{Exit, paired, exits}
use Rattle.herm_model.specs.Handlers.{caught}
use Rattle.herm_model.specs.Targets.{Target}

-- a node has a lead for each normal outcome, and these differ
abbrev Fits : Node → Type 0
Fits n = (length n.leads ≡ length (normal_outcomes n.form)) × HasDifferentArms n.form

count_arms : (n : ℕ) (arms : List Arm) → length (arms_from n arms) ≡ length arms
count_arms n [] = refl
count_arms n (a ∷ arms) = ap suc (count_arms (suc n) arms)

count_starts : (bs : Blocks) (from : ℕ) (behind : Target) → length (starts bs from behind) ≡ count_blocks bs
count_starts no_blocks from behind = refl
count_starts (block b rest) from behind = let k = count_starts rest (from + nodes_of_block b) behind in omega (arith, k)

-- the number in a kind that chooses
abbrev choices : Branching → ℕ
choices (chooses n) = n
choices _ = 0

-- a form that chooses among so many blocks has as many normal outcomes
chosen : (form : Form) (n : ℕ) → branching_of form ≡ chooses n → length (normal_outcomes form) ≡ n
chosen (Case v components) n h = length-map components _ ∙ ap choices h
chosen (Select arms) n h = count_arms 0 arms ∙ ap choices h
chosen (If e) n h = ap choices h
chosen _ n h = cc

-- a form that repeats has two normal outcomes
repeated : (form : Form) → branching_of form ≡ repeats → length (normal_outcomes form) ≡ 2
repeated (For r t) h = refl
repeated (While e) h = refl
repeated _ h = cc

-- a form that is no `case` has different arms
single-arms : (form : Form) → branching_of form ≡ goes_on → HasDifferentArms form
single-arms (Case v components) h = cc
single-arms _ h = tt

repeated-arms : (form : Form) → branching_of form ≡ repeats → HasDifferentArms form
repeated-arms (Case v components) h = cc
repeated-arms _ h = tt

mutual
  fit : (s : Statement) (number from : ℕ) (u : Surroundings) → IsWellFormed s → (n : Node) → IsIn n (nodes s number from u) → Fits n
  fit (simple form) number from u h = each-first Fits _ [] (length-map (normal_outcomes form) _, single-arms form h) (each-none Fits)
  fit (choosing form blocks) number from u h =
      each-first Fits _ _ (count_starts blocks (from + 1) u.behind ∙ sym (chosen form (count_blocks blocks) h.0), h.1) (fit_choices blocks (number + 1) (from + 1) u h.2)
  fit (repeating form body) number from u h = each-first Fits _ _ (sym (repeated form h.0), repeated-arms form h.0) (fit_in body (number + 1) (from + 1) _ h.1)
  fit leaving number from u h = each-first Fits _ [] (refl, tt) (each-none Fits)
  fit (trying body handlers) number from u h = each-joined Fits _ _ (fit_in body (number + 1) from _ h.0) (fit_catches handlers _ _ u h.1)

  fit_in : (b : Block) (number from : ℕ) (u : Surroundings) → IsWellFormedBlock b → (n : Node) → IsIn n (nodes_in b number from u) → Fits n
  fit_in no_statements number from u h = each-none Fits
  fit_in (statement s rest) number from u h = each-joined Fits _ _ (fit s number from _ h.0) (fit_in rest _ _ u h.1)

  fit_choices : (bs : Blocks) (number from : ℕ) (u : Surroundings) → AreWellFormed bs → (n : Node) → IsIn n (nodes_of_choices bs number from u) → Fits n
  fit_choices no_blocks number from u h = each-none Fits
  fit_choices (block b rest) number from u h = each-joined Fits _ _ (fit_in b number from u h.0) (fit_choices rest _ _ u h.1)

  fit_catches : (hs : Handlers) (number from : ℕ) (u : Surroundings) → AreWellFormedHandlers hs → (n : Node) → IsIn n (nodes_of_catches hs number from u) → Fits n
  fit_catches no_handlers number from u h = each-none Fits
  fit_catches (handler e b rest) number from u h = each-joined Fits _ _ (fit_in b number from u h.0) (fit_catches rest _ _ u h.1)

-- pairing as many targets gives each outcome
paired-outcomes : (os : List Outcome) (ts : List Target) → length ts ≡ length os → map (λ (e : Exit). e.outcome) (paired os ts) ≡ os
paired-outcomes [] ts h = refl
paired-outcomes (o ∷ os) [] h = absurd (let k : ⊥ = omega (arith, h) in k)
paired-outcomes (o ∷ os) (t ∷ ts) h = ap (o ∷◌) (paired-outcomes os ts (let k : length ts ≡ length os = omega (arith, h) in k))

abbrev exit_by : Node → ℕ → Exit
exit_by n x = record { outcome = raised x; target = caught n.catches x }

raised-outcomes : (n : Node) (es : List ℕ) → map (λ (e : Exit). e.outcome) (map (exit_by n) es) ≡ map raised es
raised-outcomes n [] = refl
raised-outcomes n (e ∷ es) = ap (raised e ∷◌) (raised-outcomes n es)

pub exits-outcomes : (types : TypeTable) (p : Process) (n : Node) → IsWellFormedBlock p.body → IsIn n (process_nodes p) → map (λ (e : Exit). e.outcome) (exits types p.variables n) ≡ outcomes types p.variables n.form
exits-outcomes types p n h member =
    map-append (λ (e : Exit). e.outcome) (paired (normal_outcomes n.form) n.leads) (map (exit_by n) (exceptions types p.variables n.form))
    ∙ ap₂ (λ x y. x ++ y) (paired-outcomes (normal_outcomes n.form) n.leads (fit_in p.body 1 0 _ h n member).0) (raised-outcomes n (exceptions types p.variables n.form))

-- a node of a well-formed body has different arms
pub node-arms : (p : Process) (n : Node) → IsWellFormedBlock p.body → IsIn n (process_nodes p) → HasDifferentArms n.form
node-arms p n h member = (fit_in p.body 1 0 _ h n member).1
