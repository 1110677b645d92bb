mod Decimals
mod Joined
mod Layers
mod Written
mod Told
