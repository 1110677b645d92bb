-- What is claimed of typed forms.
pub mod TypedAtoms
pub mod FormsSound
pub mod FormsGoOn
pub mod FormsTakeAnswers
pub mod CallLaws
pub mod ComponentLaws
pub mod ExpressionLaws
pub mod FormLaws
pub mod TargetLaws
pub mod TypedForms
pub mod ExceptionLaws
pub mod LedgerLaws
pub mod EdgeLaws
