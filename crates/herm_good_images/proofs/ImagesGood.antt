-- The image of a checked program is good.
use Rattle.std.proofs.Common.{◌≡◌, ◌↔◌, ℕ, zero, suc, length, List, [], ◌∷◌, map, Bool, true, false, cond, Some, slice_get, option_and_then, inl, inr, refl, sym, ap, subst, ◌∙◌, arith}
use Rattle.herm_model.specs.Lists.{IsIn, list_of}
use Rattle.herm_model.specs.Paths.{Path, Fact}
use Rattle.herm_model.specs.Types.{TypeTable}
use Rattle.herm_model.specs.Facts.{IsClosed, prefixes}
use Rattle.herm_model.specs.Expressions.{Literal}
use Rattle.herm_model.specs.Statements.{Form, Process}
use Rattle.herm_model.specs.Nodes.{Node, process_nodes}
use Rattle.herm_model.specs.Exits.{Exit, exits}
use Rattle.herm_model.specs.Targets.{Target, node, end, end_by}
use Rattle.herm_model.specs.Labels.{Labels, AreExact}
use Rattle.herm_model.specs.MissingFacts.{IsAccepted}
use Rattle.herm_model.specs.ControlPaths.{flow_of}
use Rattle.herm_model.specs.TypedExpressions.{IsLiteralOf}
use Rattle.herm_model.specs.TypedStatements.{port_type}
use Rattle.herm_model.specs.TypedPrograms.{IsTypedProcess}
use Rattle.herm_model.specs.WellFormedTables.{IsWellFormedTable}
use Rattle.herm_model.proofs.Options.{none-not_some}
use Rattle.herm_model.proofs.Lists.{in-map, in-map_from, in-flat_map, in-flat_map_from}
use Rattle.herm_model.proofs.FactTests.{got-IsIn}
use Rattle.herm_model.proofs.DecidedForms.{well_formed-regular}
use Rattle.herm_forms.specs.Modules.{Module, module_of}
use Rattle.herm_source.specs.Modules.{Program}
use Rattle.herm_source.specs.AcceptedRuns.{IsCodeOf, AreCodesOf}
use Rattle.herm_instructions.specs.Images.{CodeModule, Image}
use Rattle.herm_instructions.specs.Operands.{type_of_literal}
use Rattle.herm_instructions.specs.GoodCode.{IsGoodModule, processes_of}
use Rattle.herm_instructions.specs.Places.{label_at}
use Rattle.herm_code_machine.specs.ReadyCode.{ReadyCode, ready_code}
use Rattle.herm_translated.specs.Constants.{literals_in, constants_of}
use Rattle.herm_translated.specs.Departures.{Departure}
use Rattle.herm_translated.specs.CodeBlocks.{CheckedModule, CodeBlock, slots_within, slots_around, departure, edges_of, goes_onward, block_of, blocks_of, entry_edge}
use Rattle.herm_translated.specs.BlockLabels.{facts_after, comes_first}
use Rattle.herm_translated.specs.Settled.{settled_from}
use Rattle.herm_translated.specs.Translated.{code_of, forms_in, image_for}
use Rattle.herm_translated.specs.laws.CheckedBlocks.{checked}
use Rattle.herm_translated.specs.laws.GoodStructure.{AreComplete, code_module}
use Rattle.herm_translated.proofs.Joined.{got-within}
use Rattle.herm_translated.proofs.EdgesLabelled.{got-some}
use Rattle.herm_translated.proofs.SettledFacts.{settled-many, settled-listed_all}
use Rattle.herm_good_images.specs.CheckedModules.{ListsFacts, DropsExcess, AreCheckedModules}
use Rattle.herm_good_images.specs.laws.GoodImages.{ImagesAreGood, MainsBegin}
use Rattle.herm_good_images.proofs.blocks.BlockOfNode.{list_in, block-node, departure-exit}
use Rattle.herm_good_images.proofs.blocks.BlocksReached.{blocks-complete}
use Rattle.herm_good_images.proofs.facts.BehindEdges.{listed-behind, label-closed, behind, behind-closed}
use Rattle.herm_good_images.proofs.blocks.ProcessBlocks.{image, entry, blocks, facts-listed, blocks-sound, entry-sound}
use Rattle.herm_good_images.proofs.GoodModules.{good-module}
use Rattle.herm_translated.proofs.ConstantsOnce.{constant-known, constant-of}
use Rattle.herm_good_images.proofs.fronts.GoodConstants.{literal-typed}

listed-closed : (table : TypeTable) (variables : List ℕ) (fs : List Fact) (test : Fact → Type 0) → ((f : Fact) → IsIn f fs ↔ test f) → ((f g : Fact) → test f → IsIn g (prefixes table variables f) → test g) → IsClosed table variables (λ f. IsIn f fs)
listed-closed table variables fs test listed closed f g h m = (listed g).1 (closed f g ((listed f).0 h) m)

module _ (count : ℕ) (table : TypeTable) (processes : List Process) (p : Process) (labels : Labels) (facts : List (List Fact)) (entry_drops : List Path) (drops : List (List (List Path)))
    (typed : IsTypedProcess count table processes p) (formed : IsWellFormedTable count table) (exact : AreExact (flow_of table p) labels) (accepted : IsAccepted table p)
    (lists : ListsFacts (checked table p labels facts entry_drops drops)) (dropped : DropsExcess (checked table p labels facts entry_drops drops))
    (complete : AreComplete table p.variables (entry_edge (checked table p labels facts entry_drops drops)) (blocks_of (checked table p labels facts entry_drops drops)))
    (modules : List CodeModule) (constants : List Literal) (ports : (n : ℕ) → port_type processes n ≡ port_type (processes_of modules) n)
    (known : (n : Node) → IsIn n (process_nodes p) → (l : Literal) → IsIn l (literals_in n.form) → IsIn l constants) where
  abbrev the_blocks : List CodeBlock
  the_blocks = blocks count table processes p labels facts entry_drops drops typed formed exact accepted lists dropped complete.reached modules constants ports known

  abbrev the_image : Image
  the_image = image count table processes p labels facts entry_drops drops typed formed exact accepted lists dropped complete.reached modules constants ports known

  node-listed : (i : ℕ) (n : Node) (f : Fact) → slice_get (process_nodes p) i ≡ Some n → IsIn f (list_in facts i) ↔ (labels i f ≡ true)
  node-listed i n f e = facts-listed count table processes p labels facts entry_drops drops typed formed exact accepted lists dropped complete.reached modules constants ports known i n f e

  -- the facts of a block, and those behind its outcomes, are closed
  block-closed : (i : ℕ) (b : CodeBlock) → slice_get the_blocks i ≡ Some b → IsClosed table p.variables (λ f. IsIn f b.facts)
  block-closed i b e =
      let r = block-node (module_of table p labels) (process_nodes p) facts drops i b e in
      subst (λ (b : CodeBlock). IsClosed table p.variables (λ f. IsIn f b.facts)) (sym r.2)
      (listed-closed table p.variables (list_in facts i) (λ f. labels i f ≡ true) (λ f. node-listed i r.0 f r.1) (label-closed count table processes p labels typed formed exact i r.0 r.1))

  edge-closed : (i j : ℕ) (n : Node) (d : Departure) → slice_get (process_nodes p) i ≡ Some n → slice_get (block_of (module_of table p labels) i n (list_in facts i) (list_in drops i)).departures j ≡ Some d
      → IsClosed table p.variables (λ f. IsIn f (facts_after table p.variables n.form d.outcome (list_in facts i)))
  edge-closed i j n d at-i at-j =
      let x = departure-exit (module_of table p labels) (slots_within table p.variables n.number n.form (slots_around (module_of table p labels) i)) (exits table p.variables n) (list_in drops i) j d (chosen (goes_onward (module_of table p labels) i (edges_of (module_of table p labels) i n (list_in drops i))) at-j) in
      subst (λ o. IsClosed table p.variables (λ f. IsIn f (facts_after table p.variables n.form o (list_in facts i)))) (sym (ap (λ (d : Departure). d.outcome) x.2 ∙ outcome-is x.0 x.0.target))
      (listed-closed table p.variables (facts_after table p.variables n.form x.0.outcome (list_in facts i)) (λ f. behind count table processes p labels typed formed exact i n x.0 at-i (got-IsIn (exits table p.variables n) j x.0 x.1) f ≡ true)
      (λ f. listed-behind table p.variables n x.0 (list_in facts i) (labels i) (λ f. node-listed i n f at-i) f)
      (behind-closed count table processes p labels typed formed exact i n x.0 at-i (got-IsIn (exits table p.variables n) j x.0 x.1)))
    where
      chosen : (t : Bool) → slice_get (cond t [] (edges_of (module_of table p labels) i n (list_in drops i))) j ≡ Some d → slice_get (edges_of (module_of table p labels) i n (list_in drops i)) j ≡ Some d
      chosen true e = none-not_some e
      chosen false e = e

      outcome-is : (x : Exit) (t : Target) → (departure (module_of table p labels) (slots_within table p.variables n.number n.form (slots_around (module_of table p labels) i)) x.outcome t (list_in (list_in drops i) j)).outcome ≡ x.outcome
      outcome-is x (node k) = refl
      outcome-is x end = refl
      outcome-is x (end_by z) = refl

  block-closed-after : (i j : ℕ) (b : CodeBlock) (d : Departure) → slice_get the_blocks i ≡ Some b → slice_get b.departures j ≡ Some d → IsClosed table p.variables (λ f. IsIn f (facts_after table p.variables b.form d.outcome b.facts))
  block-closed-after i j b d e at-j =
      let r = block-node (module_of table p labels) (process_nodes p) facts drops i b e in
      subst (λ (b : CodeBlock). IsClosed table p.variables (λ f. IsIn f (facts_after table p.variables b.form d.outcome b.facts))) (sym r.2)
      (edge-closed i j r.0 d r.1 (subst (λ (b : CodeBlock). slice_get b.departures j ≡ Some d) r.2 at-j))

  process-good : IsGoodModule count the_image (code_module count the_image p.variables (entry_edge (checked table p labels facts entry_drops drops)) the_blocks)
  process-good =
      good-module count the_image p.variables (entry count table processes p labels facts entry_drops drops typed formed exact accepted lists dropped complete.reached modules constants ports known) the_blocks formed
      complete
      (blocks-sound count table processes p labels facts entry_drops drops typed formed exact accepted lists dropped complete.reached modules constants ports known)
      (entry-sound count table processes p labels facts entry_drops drops typed formed exact accepted lists dropped complete.reached modules constants ports known)
      typed.port typed.variables_known block-closed block-closed-after

-- the code of a process is that of its settled facts, which are those of the labels
module _ (count : ℕ) (table : TypeTable) (processes : List Process) (p : Process) (labels : Labels) (facts : List (List Fact)) (entry_drops : List Path) (drops : List (List (List Path)))
    (typed : IsTypedProcess count table processes p) (formed : IsWellFormedTable count table) (exact : AreExact (flow_of table p) labels) (accepted : IsAccepted table p)
    (lists : ListsFacts (checked table p labels facts entry_drops drops)) (dropped : DropsExcess (checked table p labels facts entry_drops drops)) where
  abbrev m : CheckedModule
  m = checked table p labels facts entry_drops drops

  abbrev new_facts : List (List Fact)
  new_facts = settled_from table p.variables (comes_first (entry_edge m) (blocks_of m)) 0 [] (process_nodes p) facts

  raw-listed : (i : ℕ) (n : Node) (f : Fact) → slice_get (process_nodes p) i ≡ Some n → IsIn f (list_in facts i) ↔ (labels i f ≡ true)
  raw-listed i n f e =
      let low = got-within (process_nodes p) i n e in
      let fs = got-some facts i (let many = lists.many in omega (arith, low, many)) in
      subst (λ xs. IsIn f xs ↔ (labels i f ≡ true)) (sym (ap (list_of (λ xs. xs)) fs.1)) (lists.listed i fs.0 f fs.1)

  new-many : length new_facts ≡ length (process_nodes p)
  new-many = settled-many table p.variables (comes_first (entry_edge m) (blocks_of m)) 0 [] (process_nodes p) facts

  lists-settled : ListsFacts (checked table p labels new_facts entry_drops drops)
  lists-settled = record {
    many = new-many;
    listed = λ i fs f e.
        (let low = got-within new_facts i fs e in
        let n = got-some (process_nodes p) i (let many = new-many in omega (arith, low, many)) in
        subst (λ xs. IsIn f xs ↔ (labels i f ≡ true)) (ap (list_of (λ xs. xs)) e) (settled-listed_all count table processes p labels facts entry_drops drops typed exact raw-listed i n.0 f n.1));
  }

  pub settled-good : (modules : List CodeModule) (constants : List Literal) → ((n : ℕ) → port_type processes n ≡ port_type (processes_of modules) n) → ((n : Node) → IsIn n (process_nodes p) → (l : Literal) → IsIn l (literals_in n.form) → IsIn l constants)
      → IsGoodModule count (record { modules = modules; constants = constants; types = table }) (code_of constants (checked table p labels facts entry_drops drops))
  settled-good modules constants ports known =
      process-good count table processes p labels new_facts entry_drops drops typed formed exact accepted lists-settled (record { begins = dropped.begins; edges = dropped.edges }) (blocks-complete count table processes p labels facts entry_drops drops typed) modules constants ports known

-- modules made ready are those of the processes, in order
code-of : (program : Program) (ps : List Process) (ms : List CheckedModule) → AreCodesOf program ps (map (λ (m : CheckedModule). m.code) ms) → (m : CheckedModule) → IsIn m ms → (p : Process) × IsIn p ps × IsCodeOf program p m.code
code-of program [] [] h m i = absurd i
code-of program [] (x ∷ ms) h m i = absurd h
code-of program (p ∷ ps) [] h m i = absurd i
code-of program (p ∷ ps) (x ∷ ms) h m (inl e) = (p, inl refl, subst (λ (y : CheckedModule). IsCodeOf program p y.code) (sym e) h.0)
code-of program (p ∷ ps) (x ∷ ms) h m (inr i) = let r = code-of program ps ms h.1 m i in (r.0, inr r.1, r.2)

ports-same : (program : Program) (constants : List Literal) (ps : List Process) (ms : List CheckedModule) → AreCodesOf program ps (map (λ (m : CheckedModule). m.code) ms) → (n : ℕ) → port_type ps n ≡ port_type (processes_of (map (code_of constants) ms)) n
ports-same program constants [] [] h n = refl
ports-same program constants [] (x ∷ ms) h n = absurd h
ports-same program constants (p ∷ ps) [] h n = absurd h
ports-same program constants (p ∷ ps) (x ∷ ms) h zero = ap (λ variables. slice_get variables 0) (sym (ap (λ (c : Module). c.variables) (h.0).1))
ports-same program constants (p ∷ ps) (x ∷ ms) h (suc n) = ports-same program constants ps ms h.1 n

module _ (count : ℕ) (program : Program) (ms : List CheckedModule) (are : AreCheckedModules count program ms) where
  abbrev forms : List Form
  forms = forms_in ms

  abbrev constants : List Literal
  constants = constants_of forms

  codes : AreCodesOf program program.processes (map (λ (m : CheckedModule). m.code) ms)
  codes = are.checked.accepted.codes

  form-in : (m : CheckedModule) (n : Node) → IsIn m ms → IsIn n m.code.nodes → IsIn n.form forms
  form-in m n i j = in-flat_map (λ (m : CheckedModule). map (λ (n : Node). n.form) m.code.nodes) m n.form ms i (in-map (λ (n : Node). n.form) n m.code.nodes j)

  module-is : (m : CheckedModule) (p : Process) (labels : Labels) → m.code ≡ module_of program.types p labels → m ≡ checked program.types p labels m.facts m.entry_drops m.drops
  module-is m p labels e = ap (λ (c : Module). record { code = c; facts = m.facts; entry_drops = m.entry_drops; drops = m.drops }) e

  module-good : (m : CheckedModule) → IsIn m ms → IsGoodModule count (image_for program.types ms) (code_of constants m)
  module-good m i = by (code-of program program.processes ms codes m i)
    where
      by : (p : Process) × IsIn p program.processes × IsCodeOf program p m.code → IsGoodModule count (image_for program.types ms) (code_of constants m)
      by (p, in-p, (labels, e, exact, accepted)) =
          let same = module-is m p labels e in
          subst (λ (x : CheckedModule). IsGoodModule count (image_for program.types ms) (code_of constants x)) (sym same)
          (settled-good count program.types program.processes p labels m.facts m.entry_drops m.drops (are.checked.typed.modules p in-p) are.checked.typed.types exact accepted
          (subst ListsFacts same (are.lists m i)) (subst DropsExcess same (are.drops m i)) (map (code_of constants) ms) constants (ports-same program constants program.processes ms codes)
          (λ n j l k. constant-known forms n.form l (form-in m n i (subst (λ (c : Module). IsIn n c.nodes) (sym e) j)) k))

  -- a constant is a literal of some form
  constant-typed : (l : Literal) → IsIn l constants → IsLiteralOf program.types l (type_of_literal l)
  constant-typed l k =
      let f = constant-of forms l k in
      let m = in-flat_map_from (λ (m : CheckedModule). map (λ (n : Node). n.form) m.code.nodes) f.0 ms f.1 in
      let n = in-map_from (λ (n : Node). n.form) f.0 m.0.code.nodes m.2 in
      let p = code-of program program.processes ms codes m.0 m.1 in
      let e = (p.2).1 in
      literal-typed program.types (well_formed-regular count program.types are.checked.typed.types) p.0.variables count program.processes n.0.form
      ((are.checked.typed.modules p.0 p.1).typed n.0 (subst (λ (c : Module). IsIn n.0 c.nodes) e n.1)) l (subst (λ form. IsIn l (literals_in form)) n.2 f.2)

pub images-good : ImagesAreGood
images-good count program ms are = record {
  good = record {
    constants = constant-typed count program ms are;
    modules = λ m i. (let r = in-map_from (code_of (constants_of (forms_in ms))) m ms i in subst (IsGoodModule count (image_for program.types ms)) (sym r.2) (module-good count program ms are r.0 r.1));
  };
  table = are.checked.typed.types;
}

-- the port of a module of an image
first-port : (image : Image) (main : ℕ) (ms : List CodeModule) (n : ℕ) → option_and_then (λ (c : ReadyCode). slice_get c.scope.variables 0) (slice_get (map (ready_code image (label_at image.types image.constants)) ms) n) ≡ port_type (processes_of ms) n
first-port image main [] n = refl
first-port image main (m ∷ ms) zero = refl
first-port image main (m ∷ ms) (suc n) = first-port image main ms n

pub mains-begin : MainsBegin
mains-begin count program ms are =
    first-port (image_for program.types ms) program.main (map (code_of (constants_of (forms_in ms))) ms) program.main
    ∙ sym (ports-same program (constants_of (forms_in ms)) program.processes ms are.checked.accepted.codes program.main) ∙ are.checked.typed.begins
