mod Behind
mod HeldValues
mod Opening
mod Values
