mod Decimals
mod Bounds
mod Parse
