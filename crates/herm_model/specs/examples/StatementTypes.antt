-- The types and variables of the examples of statements.
use Rattle.std.specs.Prelude.{ℕ, List, [], ◌∷◌}
use Rattle.herm_model.specs.Paths.{Path, init}
use Rattle.herm_model.specs.Types.{Mode, by_in, by_inout, by_out, Parameter, Raised, names, fields, cases, rows, inport, outport, callmessage, TypeTable}
use Rattle.herm_model.specs.Statements.{Arm, Statement, Process}
use Rattle.herm_model.specs.examples.RefusedProcesses.{in_order}

abbrev pub a_parameter : Mode → ℕ → Parameter
a_parameter m t = record { mode = m; content = t }

abbrev pub keeping : ℕ → List ℕ → Raised
keeping e kept = record { exception = e; kept = kept }

abbrev pub an_arm : (target port : Path) → Arm
an_arm x i = record { target = x; port = i }

-- 8 pair: record { key: integer, count: integer }
-- 9 choice: variant { flag: boolean, some: pair }
-- 10 list: table of pair key (key)
-- 11 ask: callmessage (in n: integer, inout p: pair, out q: pair) raises (Busy { full(p) })
-- 12 service: inport of ask; 13 client: outport of service
-- 14 source: inport of pair { init(key) }; 15 sink: outport of source
-- 16 colour: enum { one, two, three }
-- 17 whole: record { first: pair, second: choice, third: source }
-- 18 holder: variant { call: ask, source: source, list: list, client: client, sink: sink, poly: polymorph, pair: pair, choice: choice }
-- 19 moved: record { key: integer, port: source }; 20 ports: table of moved key (key)
-- 21 flags: record { done: boolean, name: string, tint: colour }; 22 named: table of flags key (name, tint, done)
-- 23 box: record { p: polymorph, n: integer }
-- 24 nest: record { inner: pair }
-- 25 big: callmessage (inout a: pair, out b: nest); 26 big_in: inport of big; 27 big_out: outport of big_in
-- 28 never: variant { }
abbrev pub statement_types : TypeTable
statement_types =
    fields (1 ∷ 1 ∷ [])
    ∷ cases (0 ∷ 8 ∷ [])
    ∷ rows 8 (0 ∷ [])
    ∷ callmessage (a_parameter by_in 1 ∷ a_parameter by_inout 8 ∷ a_parameter by_out 8 ∷ []) (keeping 7 (1 ∷ []) ∷ [])
    ∷ inport 11 []
    ∷ outport 12
    ∷ inport 8 (init (0 ∷ 0 ∷ []) ∷ [])
    ∷ outport 14
    ∷ names 3
    ∷ fields (8 ∷ 9 ∷ 14 ∷ [])
    ∷ cases (11 ∷ 14 ∷ 10 ∷ 13 ∷ 15 ∷ 3 ∷ 8 ∷ 9 ∷ [])
    ∷ fields (1 ∷ 14 ∷ [])
    ∷ rows 19 (0 ∷ [])
    ∷ fields (0 ∷ 2 ∷ 16 ∷ [])
    ∷ rows 21 (1 ∷ 2 ∷ 0 ∷ [])
    ∷ fields (3 ∷ 1 ∷ [])
    ∷ fields (8 ∷ [])
    ∷ callmessage (a_parameter by_inout 8 ∷ a_parameter by_out 24 ∷ []) []
    ∷ inport 25 []
    ∷ outport 26
    ∷ cases []
    ∷ []

-- The variables of the process main, each with its number and its type:
--   0 start: main_start, 1 m: main_message, 2 n: integer, 3 s: string, 4 b: boolean, 5 p: pair, 6 q: pair,
--   7 v: choice, 8 t: list, 9 c: ask, 10 i: service, 11 o: client, 12 f: source, 13 g: sink, 14 k: colour,
--   15 w: whole, 16 h: holder, 17 y: polymorph, 18 z: polymorph, 19 r: moved, 20 d: ports, 21 j: flags,
--   22 e: named, 23 u: console_out, 24 x: console, 25 a: box, 26 l: nest, 27 bo: big_out, 28 ne: never
abbrev pub main_variables : List ℕ
main_variables = (7 ∷ 6 ∷ 1 ∷ 2 ∷ 0 ∷ 8 ∷ 8 ∷ 9 ∷ 10 ∷ 11 ∷ 12 ∷ 13 ∷ 14 ∷ 15 ∷ 16 ∷ 17 ∷ 18 ∷ 3 ∷ 3 ∷ 19 ∷ 20 ∷ 21 ∷ 22 ∷ 5 ∷ 4 ∷ 23 ∷ 24 ∷ 27 ∷ 28 ∷ [])

-- process helper(start: source) { var p: pair; } has number 0
abbrev pub helper : Process
helper = record { variables = 14 ∷ 8 ∷ []; body = in_order [] }

-- process main(start: main_start) { var .. these variables; .. these statements } has number 1
abbrev pub main_of : List Statement → Process
main_of body = record { variables = main_variables; body = in_order body }
