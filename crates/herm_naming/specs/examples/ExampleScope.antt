-- A scope for examples: types of every shape, and variables of them. Each comment has the text.
use Rattle.std.specs.Prelude.{ℕ, List, [], ◌∷◌, codes, pos, None}
use Rattle.herm_model.specs.Types.{names, fields, cases, rows, inport, outport, callmessage, by_in, by_inout, by_out}
use Rattle.herm_syntax.specs.Trees.{Letters, Path, Integer, Text, Atom, Constant, Place, Expression, Unary, Simple, Statement, Statements, NoStatement, Further}
use Rattle.herm_meaning.specs.Names.{NamedTable, behind_predefined}
use Rattle.herm_naming.specs.Numbers.{Scope}

-- exception e;
-- type color = enum { red, green };                       type rec = record { n: integer, s: string };
-- type var = variant { a: integer, b: rec };               type tab = table of rec key (n, s);
-- type li = inport of integer;                             type lo = outport of li;
-- type ask = callmessage (in q: string, inout w: string, out r: integer) raises (e);
-- type ask_in = inport of ask;                             type ask_out = outport of ask_in;
-- type pi = inport of polymorph;                           type pr = record { p: polymorph };
-- type pt = table of pr key ();                            type cv = variant { c: ask };
abbrev pub known : NamedTable
known = behind_predefined (record {
  names = codes "color" ∷ codes "rec" ∷ codes "var" ∷ codes "tab" ∷ codes "li" ∷ codes "lo" ∷ codes "ask" ∷ codes "ask_in" ∷ codes "ask_out" ∷ codes "pi" ∷ codes "pr" ∷ codes "pt" ∷ codes "cv" ∷ [];
  shapes = names 2 ∷ fields (1 ∷ 2 ∷ []) ∷ cases (1 ∷ 9 ∷ []) ∷ rows 9 (0 ∷ 1 ∷ []) ∷ inport 1 [] ∷ outport 12
      ∷ callmessage (record { mode = by_in; content = 2 } ∷ record { mode = by_inout; content = 2 } ∷ record { mode = by_out; content = 1 } ∷ []) (record { exception = 7; kept = [] } ∷ [])
      ∷ inport 14 [] ∷ outport 15 ∷ inport 3 [] ∷ fields (3 ∷ []) ∷ rows 18 [] ∷ cases (14 ∷ []) ∷ [];
  parts = (codes "red" ∷ codes "green" ∷ []) ∷ (codes "n" ∷ codes "s" ∷ []) ∷ (codes "a" ∷ codes "b" ∷ []) ∷ [] ∷ [] ∷ []
      ∷ (codes "q" ∷ codes "w" ∷ codes "r" ∷ []) ∷ [] ∷ [] ∷ [] ∷ (codes "p" ∷ []) ∷ [] ∷ (codes "c" ∷ []) ∷ [];
  exceptions = codes "e" ∷ [];
})

-- process worker(start: li), process main(start: main_start) and process odd(start: nope), within main, with
-- var i: integer, j: integer, s: string, t: string, b: boolean, c: color, r: rec, k: rec, v: var, w: var, x: tab, li: li,
-- lo: lo, q: ask, ai: ask_in, ao: ask_out, p: polymorph, o: polymorph, u: nope, pr: pr, pt: pt, cv: cv;
abbrev pub scope : Scope
scope = record {
  known = known;
  variables = codes "start" ∷ codes "i" ∷ codes "j" ∷ codes "s" ∷ codes "t" ∷ codes "b" ∷ codes "c" ∷ codes "r" ∷ codes "k" ∷ codes "v" ∷ codes "w" ∷ codes "x" ∷ codes "li" ∷ codes "lo" ∷ codes "q" ∷ codes "ai" ∷ codes "ao" ∷ codes "p" ∷ codes "o" ∷ codes "u" ∷ codes "pr" ∷ codes "pt" ∷ codes "cv" ∷ [];
  types = 7 ∷ 1 ∷ 1 ∷ 2 ∷ 2 ∷ 0 ∷ 8 ∷ 9 ∷ 9 ∷ 10 ∷ 10 ∷ 11 ∷ 12 ∷ 13 ∷ 14 ∷ 15 ∷ 16 ∷ 3 ∷ 3 ∷ 21 ∷ 18 ∷ 19 ∷ 20 ∷ [];
  processes = codes "worker" ∷ codes "main" ∷ codes "odd" ∷ [];
  ports = 12 ∷ 7 ∷ 21 ∷ [];
}

-- paths: a variable, with a part, with two parts
abbrev pub one : Letters → Path
one n = n ∷ []

abbrev pub two : Letters → Letters → Path
two n m = n ∷ m ∷ []

abbrev pub three : Letters → Letters → Letters → Path
three n m o = n ∷ m ∷ o ∷ []

abbrev pub atom : Atom → Expression
atom a = Unary None (Simple a)

abbrev pub at : Path → Expression
at p = atom (Place p)

abbrev pub number : ℕ → Atom
number n = Constant (Integer (pos n))

abbrev pub string : Letters → Atom
string bytes = Constant (Text bytes)

abbrev pub in_order : List Statement → Statements
in_order [] = NoStatement
in_order (x ∷ xs) = Further x (in_order xs)
