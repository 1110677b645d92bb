pub mod CheckedExamples
pub mod CountExamples
pub mod RunExamples
pub mod Programs
pub mod CallPrograms
pub mod ComponentPrograms
pub mod MiddleExamples
