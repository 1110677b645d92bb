-- The trees of the language without places in the text and without the numbers of statements: language
-- reference, "Grammar".
use Rattle.std.specs.Prelude.{ℕ, ℤ, Bool, List, Option}
use Rattle.herm_syntax.specs.Symbols.{Symbol}

-- The letters of a name or of a part.
abbrev pub Letters : Type 0
Letters = List ℕ

-- A variable, and the parts behind it.
abbrev pub Path : Type 0
Path = List Letters

pub data Literal : Type 0 where
  Integer : ℤ → Literal
  Text : Letters → Literal
  Boolean : Bool → Literal
  Tag : Letters → Letters → Literal

pub data Atom : Type 0 where
  Constant : Literal → Atom
  Place : Path → Atom

-- Expressions of all levels. A chain has its first operand and further ones, each behind its operator.
mutual
  pub data Expression : Type 0 where
    Chain : Expression → Operands → Expression
    Compare : Expression → Comparison → Expression
    Unary : Option Symbol → Primary → Expression

  pub data Operands : Type 0 where
    NoOperand : Operands
    Operand : Symbol → Expression → Operands → Operands

  pub data Comparison : Type 0 where
    NoComparison : Comparison
    With : Symbol → Expression → Comparison

  pub data Primary : Type 0 where
    Simple : Atom → Primary
    Size : Path → Primary
    Paren : Expression → Primary
    TextOf : Expression → Primary
    LengthOf : Expression → Primary

-- One constructor for each form of statement.
mutual
  pub data Statement : Type 0 where
    Assign : Path → Expression → Statement
    Move Unite Dissolve Wrap Insert Connect Send Receive : Path → Path → Statement
    New Discard Reveal : Path → Statement
    Remove Get : Path → Path → List Atom → Statement
    Unwrap : Path → Letters → Path → Statement
    Call : Path → List Atom → Statement
    Return : Path → Statement
    ReturnBy : Path → Letters → Statement
    Create : Path → Letters → Statement
    Raise : Letters → Statement
    Leave : Statement
    Case : Path → Arms → Statement
    For : Path → Path → Statements → Statement
    Select : PortArms → Statement
    If : Expression → Statements → Otherwise → Statement
    While : Expression → Statements → Statement
    Try : Statements → Arms → Statement

  pub data Statements : Type 0 where
    NoStatement : Statements
    Further : Statement → Statements → Statements

  -- The arms of a case by component, and the handlers of a try by exception.
  pub data Arms : Type 0 where
    NoArm : Arms
    Arm : Letters → Statements → Arms → Arms

  -- The arms of a select: a port, a target, a block.
  pub data PortArms : Type 0 where
    NoPortArm : PortArms
    PortArm : Path → Path → Statements → PortArms → PortArms

  pub data Otherwise : Type 0 where
    NoElse : Otherwise
    Else : Statements → Otherwise

-- A part and its type's name.
abbrev pub Field : Type 0
Field = Letters × Letters

pub data Mode : Type 0 where
  In Inout Out : Mode

abbrev pub Param : Type 0
Param = Mode × Field

-- An exception and the parameters that it keeps.
abbrev pub Raising : Type 0
Raising = Letters × List Letters

pub data DeclaredFact : Type 0 where
  InitFact : List Letters → DeclaredFact
  FullFact : List Letters → DeclaredFact
  CaseFact : List Letters → Letters → DeclaredFact

pub data Shape : Type 0 where
  Names : List Letters → Shape
  Fields : List Field → Shape
  Cases : List Field → Shape
  Rows : Letters → List Letters → Shape
  Inport : Letters → List DeclaredFact → Shape
  Outport : Letters → Shape
  CallMessage : List Param → List Raising → Shape

pub data Item : Type 0 where
  TypeItem : Letters → Shape → Item
  ExceptionItem : Letters → Item

pub data Module : Type 0 where
  Definitions : Letters → List Item → Module
  Process : Letters → Field → List Field → Statements → Module
