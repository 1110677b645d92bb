-- Statements and the codes at them, in the scope of the examples: for each form a right one and the ways to be wrong.
use Rattle.std.specs.Prelude.{false, List, [], ◌∷◌, map, codes, Option, Some, None, ◌≡◌}
use Rattle.herm_syntax.specs.Symbols.{plus, equal, less, ampersand}
use Rattle.herm_syntax.specs.KeywordSymbols.{kw_and, kw_not}
use Rattle.herm_syntax.specs.Trees.{Tag, Constant, Place, Chain, Compare, Unary, NoOperand, Operand, With, Simple, Size, TextOf, LengthOf, Statement, Assign, Move, Unite, Dissolve, Wrap, Insert, Connect, Send, Receive, New, Discard, Reveal, Remove, Get, Unwrap, Call, Return, ReturnBy, Create, Raise, Leave, Case, For, Select, If, While, Try, NoStatement, NoArm, Arm, NoPortArm, PortArm, NoElse}
use Rattle.herm_naming.specs.StatementFaults.{Code, unknown, twice, wrong_type, not_copyable, statement_code}
use Rattle.herm_naming.specs.examples.ExampleScope.{scope, one, two, three, atom, at, number, string}

abbrev fine : Option Code
fine = None

abbrev codes_at : List Statement → List (Option Code)
codes_at xs = map (statement_code scope false) xs

-- i := 1; i := i + j; s := s & t; b := i < j and not b; b := c = color#red; i := size(x); s := text(i); i := length(s);
-- i := r.n; i := v.b.n; u := i; i := u; u.a := u.b;
abbrev pub RightValues : Type 0
RightValues = codes_at (
    Assign (one (codes "i")) (atom (number 1))
    ∷ Assign (one (codes "i")) (Chain (at (one (codes "i"))) (Operand plus (at (one (codes "j"))) NoOperand))
    ∷ Assign (one (codes "s")) (Chain (at (one (codes "s"))) (Operand ampersand (at (one (codes "t"))) NoOperand))
    ∷ Assign (one (codes "b")) (Chain (Compare (at (one (codes "i"))) (With less (at (one (codes "j"))))) (Operand kw_and (Unary (Some kw_not) (Simple (Place (one (codes "b"))))) NoOperand))
    ∷ Assign (one (codes "b")) (Compare (at (one (codes "c"))) (With equal (atom (Constant (Tag (codes "color") (codes "red"))))))
    ∷ Assign (one (codes "i")) (Unary None (Size (one (codes "x"))))
    ∷ Assign (one (codes "s")) (Unary None (TextOf (at (one (codes "i")))))
    ∷ Assign (one (codes "i")) (Unary None (LengthOf (at (one (codes "s")))))
    ∷ Assign (one (codes "i")) (at (two (codes "r") (codes "n")))
    ∷ Assign (one (codes "i")) (at (three (codes "v") (codes "b") (codes "n")))
    ∷ Assign (one (codes "u")) (at (one (codes "i")))
    ∷ Assign (one (codes "i")) (at (one (codes "u")))
    ∷ Assign (two (codes "u") (codes "a")) (at (two (codes "u") (codes "b")))
    ∷ [])
    ≡ (fine ∷ fine ∷ fine ∷ fine ∷ fine ∷ fine ∷ fine ∷ fine ∷ fine ∷ fine ∷ fine ∷ fine ∷ fine ∷ [])

-- z := 1; i := z; i := r.z; c := shade#red; c := color#blue; c.red := 1;                        unknown
-- i := "a"; i := s + 1; b := p = u; b := c < c; c := rec#n; v.a := 1; i := size(r);             types
-- p := o; q := q; z := p;                                                  copies, and the first of two
abbrev pub WrongValues : Type 0
WrongValues = codes_at (
    Assign (one (codes "z")) (atom (number 1))
    ∷ Assign (one (codes "i")) (at (one (codes "z")))
    ∷ Assign (one (codes "i")) (at (two (codes "r") (codes "z")))
    ∷ Assign (one (codes "c")) (atom (Constant (Tag (codes "shade") (codes "red"))))
    ∷ Assign (one (codes "c")) (atom (Constant (Tag (codes "color") (codes "blue"))))
    ∷ Assign (two (codes "c") (codes "red")) (atom (number 1))
    ∷ Assign (one (codes "i")) (atom (string (codes "a")))
    ∷ Assign (one (codes "i")) (Chain (at (one (codes "s"))) (Operand plus (atom (number 1)) NoOperand))
    ∷ Assign (one (codes "b")) (Compare (at (one (codes "p"))) (With equal (at (one (codes "u")))))
    ∷ Assign (one (codes "b")) (Compare (at (one (codes "c"))) (With less (at (one (codes "c")))))
    ∷ Assign (one (codes "c")) (atom (Constant (Tag (codes "rec") (codes "n"))))
    ∷ Assign (two (codes "v") (codes "a")) (atom (number 1))
    ∷ Assign (one (codes "i")) (Unary None (Size (one (codes "r"))))
    ∷ Assign (one (codes "p")) (at (one (codes "o")))
    ∷ Assign (one (codes "q")) (at (one (codes "q")))
    ∷ Assign (one (codes "z")) (at (one (codes "p")))
    ∷ [])
    ≡ (Some unknown ∷ Some unknown ∷ Some unknown ∷ Some unknown ∷ Some unknown ∷ Some unknown
    ∷ Some wrong_type ∷ Some wrong_type ∷ Some wrong_type ∷ Some wrong_type ∷ Some wrong_type ∷ Some wrong_type ∷ Some wrong_type
    ∷ Some not_copyable ∷ Some not_copyable ∷ Some unknown ∷ [])

-- move r to k; new r; new x; new li; discard p; unite v.a from i; dissolve v.a into i; reveal v.b; wrap i as p;
-- unwrap p as rec into r; insert r into x; connect lo to li; send i to lo; receive i from li; receive q from ai; return q;
-- return q exception e; create lo of worker; raise e; move u to i; unite u.a from u; move u.a to u.b; create lo of odd;
abbrev pub RightForms : Type 0
RightForms = codes_at (
    Move (one (codes "r")) (one (codes "k"))
    ∷ New (one (codes "r")) ∷ New (one (codes "x")) ∷ New (one (codes "li"))
    ∷ Discard (one (codes "p"))
    ∷ Unite (two (codes "v") (codes "a")) (one (codes "i"))
    ∷ Dissolve (two (codes "v") (codes "a")) (one (codes "i"))
    ∷ Reveal (two (codes "v") (codes "b"))
    ∷ Wrap (one (codes "i")) (one (codes "p"))
    ∷ Unwrap (one (codes "p")) (codes "rec") (one (codes "r"))
    ∷ Insert (one (codes "r")) (one (codes "x"))
    ∷ Connect (one (codes "lo")) (one (codes "li"))
    ∷ Send (one (codes "i")) (one (codes "lo"))
    ∷ Receive (one (codes "i")) (one (codes "li"))
    ∷ Receive (one (codes "q")) (one (codes "ai"))
    ∷ Return (one (codes "q")) ∷ ReturnBy (one (codes "q")) (codes "e")
    ∷ Create (one (codes "lo")) (codes "worker")
    ∷ Raise (codes "e")
    ∷ Move (one (codes "u")) (one (codes "i"))
    ∷ Unite (two (codes "u") (codes "a")) (one (codes "u"))
    ∷ Move (two (codes "u") (codes "a")) (two (codes "u") (codes "b"))
    ∷ Create (one (codes "lo")) (codes "odd")
    ∷ [])
    ≡ (fine ∷ fine ∷ fine ∷ fine ∷ fine ∷ fine ∷ fine ∷ fine ∷ fine ∷ fine ∷ fine ∷ fine ∷ fine ∷ fine ∷ fine ∷ fine ∷ fine ∷ fine ∷ fine
    ∷ fine ∷ Some wrong_type ∷ fine ∷ fine ∷ [])

-- unite v.z from i; reveal r.z; unwrap p as nope into r; raise f; return q exception f; create lo of nobody; leave;   unknown
-- move r to r; move r to r.n; move v.a to i; new i; unite v.a from s; unite r.n from i; dissolve v.b into r.n; reveal r.n;
-- wrap r as p; wrap p as p; unwrap p as rec into i; unwrap p as polymorph into p; insert i into x; insert r into r;
-- connect li to lo; send s to lo; send i to li; receive s from li; return r; return q exception Overflow;
-- create lo of main; discard v.a; discard cv.c.r;                                                                 types
abbrev pub WrongForms : Type 0
WrongForms = codes_at (
    Unite (two (codes "v") (codes "z")) (one (codes "i"))
    ∷ Reveal (two (codes "r") (codes "z"))
    ∷ Unwrap (one (codes "p")) (codes "nope") (one (codes "r"))
    ∷ Raise (codes "f") ∷ ReturnBy (one (codes "q")) (codes "f") ∷ Create (one (codes "lo")) (codes "nobody") ∷ Leave
    ∷ Move (one (codes "r")) (one (codes "r"))
    ∷ Move (one (codes "r")) (two (codes "r") (codes "n"))
    ∷ Move (two (codes "v") (codes "a")) (one (codes "i"))
    ∷ New (one (codes "i"))
    ∷ Unite (two (codes "v") (codes "a")) (one (codes "s"))
    ∷ Unite (two (codes "r") (codes "n")) (one (codes "i"))
    ∷ Dissolve (two (codes "v") (codes "b")) (two (codes "r") (codes "n"))
    ∷ Reveal (two (codes "r") (codes "n"))
    ∷ Wrap (one (codes "r")) (one (codes "r"))
    ∷ Wrap (one (codes "p")) (one (codes "p"))
    ∷ Unwrap (one (codes "p")) (codes "rec") (one (codes "i"))
    ∷ Unwrap (one (codes "p")) (codes "polymorph") (one (codes "p"))
    ∷ Insert (one (codes "i")) (one (codes "x"))
    ∷ Insert (one (codes "r")) (one (codes "r"))
    ∷ Connect (one (codes "li")) (one (codes "lo"))
    ∷ Send (one (codes "s")) (one (codes "lo"))
    ∷ Send (one (codes "i")) (one (codes "li"))
    ∷ Receive (one (codes "s")) (one (codes "li"))
    ∷ Return (one (codes "r")) ∷ ReturnBy (one (codes "q")) (codes "Overflow")
    ∷ Create (one (codes "lo")) (codes "main")
    ∷ Discard (two (codes "v") (codes "a"))
    ∷ Discard (three (codes "cv") (codes "c") (codes "r"))
    ∷ [])
    ≡ (Some unknown ∷ Some unknown ∷ Some unknown ∷ Some unknown ∷ Some unknown ∷ Some unknown ∷ Some unknown
    ∷ Some wrong_type ∷ Some wrong_type ∷ Some wrong_type ∷ Some wrong_type ∷ Some wrong_type ∷ Some wrong_type ∷ Some wrong_type ∷ Some wrong_type
    ∷ Some wrong_type ∷ Some wrong_type ∷ Some wrong_type ∷ Some wrong_type ∷ Some wrong_type ∷ Some wrong_type ∷ Some wrong_type ∷ Some wrong_type
    ∷ Some wrong_type ∷ Some wrong_type ∷ Some wrong_type ∷ Some wrong_type ∷ Some wrong_type ∷ Some wrong_type ∷ Some wrong_type ∷ [])

-- remove r from x [1, s]; get r from x [i, "a"]; for r in x { } call ao(s, t, i); call ao("a", t, i);                   right
-- remove r from x [1]; remove r from x [s, 1]; get i from x [1, s]; get pr from pt [1]; call ao(s, t); call ao(s, t, i, j);
-- call ao(1, t, i); call ao(s, "a", i); call ao(s, t, 1); call ao(s, t, v.a); call lo(i);                            types
-- call ao(z, t, i);                                                                                               unknown
-- get pr from pt []; for pr in pt { }                                                                          not copyable
abbrev pub KeysAndCalls : Type 0
KeysAndCalls = codes_at (
    Remove (one (codes "r")) (one (codes "x")) (number 1 ∷ Place (one (codes "s")) ∷ [])
    ∷ Get (one (codes "r")) (one (codes "x")) (Place (one (codes "i")) ∷ string (codes "a") ∷ [])
    ∷ For (one (codes "r")) (one (codes "x")) NoStatement
    ∷ Call (one (codes "ao")) (Place (one (codes "s")) ∷ Place (one (codes "t")) ∷ Place (one (codes "i")) ∷ [])
    ∷ Call (one (codes "ao")) (string (codes "a") ∷ Place (one (codes "t")) ∷ Place (one (codes "i")) ∷ [])
    ∷ Remove (one (codes "r")) (one (codes "x")) (number 1 ∷ [])
    ∷ Remove (one (codes "r")) (one (codes "x")) (Place (one (codes "s")) ∷ number 1 ∷ [])
    ∷ Get (one (codes "i")) (one (codes "x")) (number 1 ∷ Place (one (codes "s")) ∷ [])
    ∷ Get (one (codes "pr")) (one (codes "pt")) (number 1 ∷ [])
    ∷ Call (one (codes "ao")) (Place (one (codes "s")) ∷ Place (one (codes "t")) ∷ [])
    ∷ Call (one (codes "ao")) (Place (one (codes "s")) ∷ Place (one (codes "t")) ∷ Place (one (codes "i")) ∷ Place (one (codes "j")) ∷ [])
    ∷ Call (one (codes "ao")) (number 1 ∷ Place (one (codes "t")) ∷ Place (one (codes "i")) ∷ [])
    ∷ Call (one (codes "ao")) (Place (one (codes "s")) ∷ string (codes "a") ∷ Place (one (codes "i")) ∷ [])
    ∷ Call (one (codes "ao")) (Place (one (codes "s")) ∷ Place (one (codes "t")) ∷ number 1 ∷ [])
    ∷ Call (one (codes "ao")) (Place (one (codes "s")) ∷ Place (one (codes "t")) ∷ Place (two (codes "v") (codes "a")) ∷ [])
    ∷ Call (one (codes "lo")) (Place (one (codes "i")) ∷ [])
    ∷ Call (one (codes "ao")) (Place (one (codes "z")) ∷ Place (one (codes "t")) ∷ Place (one (codes "i")) ∷ [])
    ∷ Get (one (codes "pr")) (one (codes "pt")) []
    ∷ For (one (codes "pr")) (one (codes "pt")) NoStatement
    ∷ [])
    ≡ (fine ∷ fine ∷ fine ∷ fine ∷ fine
    ∷ Some wrong_type ∷ Some wrong_type ∷ Some wrong_type ∷ Some wrong_type ∷ Some wrong_type ∷ Some wrong_type
    ∷ Some wrong_type ∷ Some wrong_type ∷ Some wrong_type ∷ Some wrong_type ∷ Some wrong_type
    ∷ Some unknown ∷ Some not_copyable ∷ Some not_copyable ∷ [])

-- case v { when b { } when a { } } if b { } while b { } select { when li receive i { } when ai receive q { } }
-- try { } on e { } on Overflow { } case u { when m { } when n { } }                                                  right
-- case v { when a { } when z { } } case r { when z { } } try { } on f { }                                          unknown
-- case v { when a { } when a { } } select { when li receive i { } when li receive j { } } try { } on e { } on e { }  twice
-- case v { when a { } } case r { when n { } when s { } } if i { } while "a" { } select { when li receive s { } }     types
abbrev pub Blocks : Type 0
Blocks = codes_at (
    Case (one (codes "v")) (Arm (codes "b") NoStatement (Arm (codes "a") NoStatement NoArm))
    ∷ If (at (one (codes "b"))) NoStatement NoElse ∷ While (at (one (codes "b"))) NoStatement
    ∷ Select (PortArm (one (codes "li")) (one (codes "i")) NoStatement (PortArm (one (codes "ai")) (one (codes "q")) NoStatement NoPortArm))
    ∷ Try NoStatement (Arm (codes "e") NoStatement (Arm (codes "Overflow") NoStatement NoArm))
    ∷ Case (one (codes "u")) (Arm (codes "m") NoStatement (Arm (codes "n") NoStatement NoArm))
    ∷ Case (one (codes "v")) (Arm (codes "a") NoStatement (Arm (codes "z") NoStatement NoArm))
    ∷ Case (one (codes "r")) (Arm (codes "z") NoStatement NoArm)
    ∷ Try NoStatement (Arm (codes "f") NoStatement NoArm)
    ∷ Case (one (codes "v")) (Arm (codes "a") NoStatement (Arm (codes "a") NoStatement NoArm))
    ∷ Select (PortArm (one (codes "li")) (one (codes "i")) NoStatement (PortArm (one (codes "li")) (one (codes "j")) NoStatement NoPortArm))
    ∷ Try NoStatement (Arm (codes "e") NoStatement (Arm (codes "e") NoStatement NoArm))
    ∷ Case (one (codes "v")) (Arm (codes "a") NoStatement NoArm)
    ∷ Case (one (codes "r")) (Arm (codes "n") NoStatement (Arm (codes "s") NoStatement NoArm))
    ∷ If (at (one (codes "i"))) NoStatement NoElse ∷ While (atom (string (codes "a"))) NoStatement
    ∷ Select (PortArm (one (codes "li")) (one (codes "s")) NoStatement NoPortArm)
    ∷ [])
    ≡ (fine ∷ fine ∷ fine ∷ fine ∷ fine ∷ fine ∷ Some unknown ∷ Some unknown ∷ Some unknown ∷ Some twice ∷ Some twice ∷ Some twice
    ∷ Some wrong_type ∷ Some wrong_type ∷ Some wrong_type ∷ Some wrong_type ∷ Some wrong_type ∷ [])
