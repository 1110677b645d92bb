-- Code by hand that calls.
use Rattle.std.specs.Prelude.{List, [], ◌∷◌, ◌++◌, codes}
use Rattle.herm_model.specs.Types.{callmessage, inport, outport, by_out, Raised}
use Rattle.herm_model.specs.Expressions.{Atom, Literal}
use Rattle.herm_model.specs.Outcomes.{depletion, disconnected}
use Rattle.herm_instructions.specs.Instructions.{Argument, of_in, of_inout, of_out, Step, Call, Return, Create, End, EndBy}
use Rattle.herm_instructions.specs.Images.{CodeModule, Image}
use Rattle.herm_instructions.specs.examples.ExampleImages.{busy, denies, denies_by, image_of}
use Rattle.herm_instructions.specs.examples.ExampleImages as good
use Rattle.herm_code_machine.specs.examples.CodeByHand.{line, landing, to, module_by, image_by, variable, part_in, listed, start_paths, receives_start, places, says}

-- exception Busy;
-- type ask = callmessage (in q: string, inout w: string) raises (Busy {full(w)});  type ask_in = inport of ask;
-- type ask_out = outport of ask_in;
-- process deny(start: ask_in) { var c: ask; receive c from start; return c exception Busy; }
-- process main(start: main_start) {
--   var m: main_message, o: ask_out, q: string, w: string;
--   receive m from start; create o of deny; q := "q"; w := "w";
--   try { call o(q, w); } on Busy { send w to m.out; } on Disconnected { send q to m.out; }
-- }
abbrev pub kept_parameter : Image
kept_parameter = image_of (denies ∷ good.asks ∷ [])

-- The same, where the return keeps nothing.
abbrev pub losing_return : Image
losing_return = image_of (denies_by busy [] ∷ good.asks ∷ [])

-- the arguments of its call, as they stand in the instruction and in the statement, and what it keeps for an exception
abbrev pub arguments_of_call : List Argument
arguments_of_call = of_in ∷ of_inout (variable 4) ∷ []

abbrev pub atoms_of_call : List Atom
atoms_of_call = Atom.path (variable 3) ∷ Atom.path (variable 4) ∷ []

abbrev pub keeps_of_call : List Raised
keeps_of_call = record { exception = busy; kept = 1 ∷ [] } ∷ []

-- process say(start: word_in) { var c: word; receive c from start; c.w := "w"; return c; }
abbrev pub answering_code : CodeModule
answering_code = module_by (9 ∷ 8 ∷ []) (receives_start ++ places 0 (part_in 1 0) ++ line Step ∷ line (Return (variable 1)) ∷ line End ∷ []) []

-- process lose(start: word_in) { var c: word; receive c from start; }
abbrev pub losing_code : CodeModule
losing_code = module_by (9 ∷ 8 ∷ []) (receives_start ++ line End ∷ []) []

-- process main(start: main_start) {
--   var m: main_message, o: word_out, w: string;
--   receive m from start; create o of ..;
--   try { call o(w); send w to m.out; } on Disconnected { w := "lost"; send w to m.out; }
-- }
abbrev pub asking_code : CodeModule
asking_code =
    module_by (7 ∷ 6 ∷ 10 ∷ 2 ∷ []) (
    receives_start ++ line Step ∷ landing (Create (variable 2) 0) (to depletion 16 ∷ []) ∷ line Step
    ∷ landing (Call (variable 2) (of_out (variable 3) ∷ []) []) (to disconnected 9 ∷ []) ∷ (says 3 15 ++ line End
    ∷ (places 1 (variable 3) ++ says 3 15 ++ line End ∷ line (EndBy disconnected) ∷ line (EndBy depletion) ∷ [])))
    (listed 9 (start_paths ++ variable 2 ∷ []) [] ∷ listed 15 (start_paths ++ variable 2 ∷ variable 3 ∷ []) [] ∷ listed 16 start_paths [] ∷ [])

-- type word = callmessage (out w: string);  type word_in = inport of word;  type word_out = outport of word_in;
-- and the process that asks beside another
abbrev pub asks : CodeModule → Image
asks other =
    image_by (callmessage (record { mode = by_out; content = 2 } ∷ []) [] ∷ inport 8 [] ∷ outport 9 ∷ [])
    (Literal.text (codes "w") ∷ Literal.text (codes "lost") ∷ []) (other ∷ asking_code ∷ [])
