-- What is claimed of the machine of code.
pub mod StackLaws
pub mod PieceLaws
pub mod InstructionLaws
pub mod SoundLaws
pub mod ExpressionLaws
pub mod TrimLaws
pub mod GoodImageLaws
pub mod SoundImageLaws
pub mod StandingLaws
pub mod EndLaws
pub mod CountLaws
pub mod WantLaws
pub mod OperandLaws
