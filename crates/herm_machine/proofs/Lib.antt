mod Awaited
mod CountedOut
mod Ports
mod SoundStates
mod Standing
mod Wanted
