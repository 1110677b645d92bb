-- What is claimed of states that stand for others.
pub mod StandingLaws
